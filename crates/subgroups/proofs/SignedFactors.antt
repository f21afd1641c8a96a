-- Numbers that are rewritten one by one from the front, and the factors of a verdict under signed numbers. Assumes nothing.
use mathlib.Core.Path.{◌≡◌, refl, sym, ap, ◌∙◌}
use mathlib.Core.List.{List, [], ◌∷◌, ◌++◌, map, map-append, append-nil}
use Prim.Native.Nat.{ℕ, ◌+◌, ◌-◌, ◌≤◌, ◌<◌}
use native.Mathlib.Numerals.{add-one}
use native.Mathlib.Decide.{dec_lt}
use native.Mathlib.Omega.{arith}
use borrow.Author.Tests.{lt-ltb, le-ltb, le-leb, lt-leb}
use lib.ListN.{length, take, drop, get_or, set, length-map, length-take, drop_of_length-le}
use lib.Seq.{length-take-le, take-suc, take_all, take_at, drop_at, get_or-append-add, get_or-drop}
use Rattle.std.specs.Prelude.{Some, None, Ok, Err}
use Rattle.slices.specs.Slices.{overwritten}
use Rattle.slices.proofs.Slices.{front_stored}
use Rattle.words.specs.Word.{Word}
use Rattle.products.specs.Product.{Factor, Each, plain, signed, inverse_mark, with_inverses}
use Rattle.products.specs.Doubled.{signed_number}
use Rattle.products.proofs.Doubled.{doubled_length, signed_none_of, signed_member_of}
use Rattle.engine.specs.Calls.{Verdict, VerdictRight}
use Rattle.subgroups.specs.Signing.{signed_byte, signed_front, signed_factors}

-- ---- the first i entries of a slice are rewritten

module _ (f : ℕ → ℕ) (old : List ℕ) where
  abbrev pub mapped : ℕ → List ℕ
  mapped i = overwritten (map f (take i old)) old

  front_length : (i : ℕ) → i ≤ length old → length (map f (take i old)) ≡ i
  front_length i h = length-map (take i old) f ∙ length-take-le i old h

  -- the next entry is still the old one
  pub mapped_next : (i : ℕ) → i < length old → get_or (mapped i) i 0 ≡ get_or old i 0
  mapped_next i h =
      let front = map f (take i old) in
      let long : length front ≡ i = front_length i (omega arith) in
      let here : i ≡ length front + 0 = omega arith in
      ap (λ (k : ℕ). get_or (mapped i) k 0) here ∙ get_or-append-add front (drop (length front) old) 0 0 ∙ get_or-drop (length front) old 0 0
      ∙ ap (λ (k : ℕ). get_or old k 0) (sym here)

  pub mapped_more : (i : ℕ) → i < length old → set (mapped i) i (f (get_or old i 0)) ≡ mapped (i + 1)
  mapped_more i h =
      front_stored (map f (take i old)) old i (front_length i (omega arith)) (f (get_or old i 0)) h
      ∙ ap (λ (l : List ℕ). overwritten l old)
      (sym (ap (map f) (ap (λ (k : ℕ). take k old) (add-one i) ∙ take-suc old i 0 h) ∙ map-append f (take i old) (get_or old i 0 ∷ [])))

  pub mapped_all : (i : ℕ) → length old ≤ i → mapped i ≡ map f old
  mapped_all i h =
      ap (λ (l : List ℕ). overwritten (map f l) old) (take_all i old h)
      ∙ ap (λ (l : List ℕ). map f old ++ l) (drop_of_length-le old {i = length (map f old)} (omega (arith, length-map old f))) ∙ append-nil (map f old)

-- ---- the factors that were found by places

module _ (generators count : ℕ) (witness : List ℕ) where
  pub front_signed : count ≤ length witness → signed_front generators count witness ≡ map (signed_byte generators) (take count witness) ++ drop count witness
  front_signed h = simp (le-leb count (length witness) h)

  pub front_missing : length witness < count → signed_front generators count witness ≡ witness
  front_missing h = simp (lt-leb count (length witness) h)

map_on : (P : ℕ → Type 0) {f g : ℕ → ℕ} → ((i : ℕ) → P i → f i ≡ g i) → (r : List ℕ) → Each P r → map f r ≡ map g r
map_on P on [] h = refl
map_on P on (i ∷ r) h = rw (on i h.0, map_on P on r h.1)

-- a place has a signed number that fits a byte
signed_place : (gens : List Word) → length gens ≤ inverse_mark → (i : ℕ) → Factor (with_inverses gens) i → signed_byte (length gens) i ≡ signed_number (length gens) i
signed_place gens few i h =
    elim (dec_lt i (length gens)) [
      | yes l ↦ simp (lt-ltb i (length gens) l)
      | no l ↦
          let behind : length gens ≤ i = omega arith in
          simp (le-ltb i (length gens) behind, lt-ltb (i - length gens) inverse_mark (omega (arith, doubled_length gens)))
    ]

-- a member's factors fill the front of the witness
front_inside : (k : ℕ) (witness : List ℕ) → k ≡ length (take k witness) → k ≤ length witness
front_inside k witness e = omega (arith, length-take k witness)

module _ (gens : List Word) (few : length gens ≤ inverse_mark) (target : Word) (n : ℕ) where
  -- a verdict by places is one by signed numbers, once its factors are signed
  pub verdict_signed : (r : Verdict) (before middle : List ℕ) → VerdictRight (plain (with_inverses gens)) target n r before middle
      → VerdictRight (signed gens) target n r before (signed_factors r (length gens) middle)
  verdict_signed (Ok (Some count)) before middle (right, rest) =
      let k = count.0 in
      let found = take k middle in
      let inside = front_inside k middle right.counts in
      let front = front_signed (length gens) k middle inside in
      let long : length (map (signed_byte (length gens)) found) ≡ k = length-map found (signed_byte (length gens)) ∙ length-take-le k middle inside in
      let same = map_on (Factor (with_inverses gens)) (signed_place gens few) found right.rival.series in
      rw front (
        rw (take_at (map (signed_byte (length gens)) found) (drop k middle) k long, same) (signed_member_of gens few target n found k right),
        rw (drop_at (map (signed_byte (length gens)) found) (drop k middle) k long) rest,
      )
  verdict_signed (Ok None) before middle (right, same) = (signed_none_of gens few target n right, same)
  verdict_signed (Err refusal) before middle right = right
