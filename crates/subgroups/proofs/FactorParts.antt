-- Where the letters of a factor stand, and what they spell.
--     inverse_start, inverse_end          where an inverse's form begins and ends, by the ends of the list with its inverses behind it
--     given_rises, given_within           a given generator between its ends
--     inverse_rises, inverse_within       an inverse between its own
--     given_spells, inverse_spells        what stands there
-- Assumes nothing.
use mathlib.Core.Path.{◌≡◌, refl, sym, ap, ap₂, ◌∙◌}
use mathlib.Core.List.{List, [], ◌∷◌, ◌++◌}
use Prim.Native.Nat.{ℕ, zero, suc, ◌+◌, ◌-◌, ◌≤◌, ◌<◌}
use native.Mathlib.Nat.{not-suc-le-zero, le_of_suc-le-suc, zero-add, suc-add, add_assoc}
use native.Mathlib.Omega.{arith}
use lib.ListN.{length, take, drop, get_or, length-map, length-take, get_or-map}
use lib.Seq.{slice, get_or-take, take-take}
use Rattle.words.specs.Word.{Word, nf, inverse}
use Rattle.words.specs.Bytes.{word}
use Rattle.products.specs.Product.{generators_from, generators, generator, inverses, with_inverses}
use Rattle.products.proofs.Doubled.{doubled_length}
use Rattle.products.proofs.Reducing.{reduced_generator}
use Rattle.lists.specs.Questions.{last_end}
use Rattle.lists.specs.NormalList.{total, normal_bytes, normal_ends}
use Rattle.lists.proofs.FirstOthers.{part_slice}
use Rattle.lists.proofs.Rising.{Rising, none, next, rising_within}
use Rattle.lists.proofs.NormalList.{normal_ends_length, normal_list, total_take}
use Rattle.subgroups.specs.Ends.{DoubledEnds}

-- ---- the ends of normal forms

-- a normal form ends where the forms up to it end, and begins where those before it do
normal_end : (from : ℕ) (gens : List Word) (i : ℕ) → i < length gens → get_or (normal_ends from gens) i 0 ≡ from + total (take (suc i) gens)
normal_end from [] i h = absurd (not-suc-le-zero h)
normal_end from (g ∷ gens) zero h = omega arith
normal_end from (g ∷ gens) (suc i) h = omega (arith, normal_end (from + length (nf g)) gens i (le_of_suc-le-suc h))

normal_start : (from : ℕ) (gens : List Word) (i : ℕ) → i ≤ length gens → get_or (from ∷ normal_ends from gens) i 0 ≡ from + total (take i gens)
normal_start from gens zero h = omega arith
normal_start from gens (suc i) h = normal_end from gens i h

-- the letters of the first forms, and of some behind them
total_take_behind : (a b : List Word) (i : ℕ) → total (take (length a + i) (a ++ b)) ≡ total a + total (take i b)
total_take_behind [] b i = ap (λ (k : ℕ). total (take k b)) (zero-add i) ∙ sym (zero-add (total (take i b)))
total_take_behind (g ∷ a) b i =
    ap (λ (k : ℕ). total (take k (g ∷ (a ++ b)))) (suc-add (length a) i) ∙ ap (λ (k : ℕ). length (nf g) + k) (total_take_behind a b i)
    ∙ sym (add_assoc (length (nf g)) (total a) (total (take i b)))

total_take_suc : (i : ℕ) (gens : List Word) → total (take i gens) ≤ total (take (suc i) gens)
total_take_suc i gens = omega (arith, ap total (take-take i (suc i) gens (omega arith)), total_take i (take (suc i) gens))

module _ (gens : List Word) (ends : List ℕ) (count given : ℕ) (d : DoubledEnds gens ends count given) where
  abbrev all : List Word
  all = with_inverses gens

  all_count : length all ≡ count + count
  all_count = omega (arith, doubled_length gens, d.counts)

  pub ends_inside : count + count ≤ length ends
  ends_inside =
      omega (arith, all_count, sym (length-take (length all) ends) ∙ ap length d.ends_are ∙ normal_ends_length 0 all)

  -- the end before a place of the list with its inverses
  start_at : (j : ℕ) → j ≤ count + count → get_or (0 ∷ ends) j 0 ≡ total (take j all)
  start_at zero h = refl
  start_at (suc j) h =
      sym (get_or-take (length all) ends j 0 (omega (arith, all_count))) ∙ ap (λ (l : List ℕ). get_or l j 0) d.ends_are
      ∙ normal_end 0 all j (omega (arith, all_count)) ∙ zero_total
    where
      zero_total : 0 + total (take (suc j) all) ≡ total (take (suc j) all)
      zero_total = omega arith

  -- an inverse's form begins where the given forms and those of the inverses before it end
  pub inverse_start : (i : ℕ) → i ≤ count → get_or (0 ∷ ends) (count + i) 0 ≡ given + total (take i (inverses gens))
  inverse_start i h =
      start_at (count + i) (omega arith) ∙ ap (λ (k : ℕ). total (take (k + i) all)) d.counts ∙ total_take_behind gens (inverses gens) i
      ∙ ap (λ (k : ℕ). k + total (take i (inverses gens))) (sym d.letters)

  pub inverse_end : (i : ℕ) → i < count → get_or ends (count + i) 0 ≡ given + total (take (suc i) (inverses gens))
  inverse_end i h =
      let place : count + suc i ≡ suc (count + i) = omega arith in
      sym (ap (λ (k : ℕ). get_or (0 ∷ ends) k 0) place) ∙ inverse_start (suc i) h

-- ---- what stands between two ends

rising_start : {from : ℕ} {ends : List ℕ} → Rising from ends → (i : ℕ) → i < length ends → get_or (from ∷ ends) i 0 ≤ get_or ends i 0
rising_start none i h = absurd (not-suc-le-zero h)
rising_start (next k r) zero h = k
rising_start (next k r) (suc i) h = rising_start r i (le_of_suc-le-suc h)

word_between : (bytes : List ℕ) (from : ℕ) (ends : List ℕ) (i : ℕ) → i < length ends
    → generator (generators_from bytes from ends) i ≡ word (slice (get_or (from ∷ ends) i 0) (get_or ends i 0) bytes)
word_between bytes from [] i h = absurd (not-suc-le-zero h)
word_between bytes from (end ∷ ends) zero h = refl
word_between bytes from (end ∷ ends) (suc i) h = word_between bytes end ends i (le_of_suc-le-suc h)

module _ (bytes ends : List ℕ) (rising : Rising 0 ends) (last : last_end 0 ends ≡ length bytes) (i : ℕ) (h : i < length ends) where
  pub given_rises : get_or (0 ∷ ends) i 0 ≤ get_or ends i 0
  given_rises = rising_start rising i h

  pub given_within : get_or ends i 0 ≤ length bytes
  given_within = omega (arith, rising_within rising i h, last)

  pub given_spells : word (take (get_or ends i 0 - get_or (0 ∷ ends) i 0) (drop (get_or (0 ∷ ends) i 0) bytes)) ≡ generator (generators bytes ends) i
  given_spells = ap word (part_slice bytes (get_or (0 ∷ ends) i 0) (get_or ends i 0) given_rises) ∙ sym (word_between bytes 0 ends i h)

module _ (gens : List Word) (i : ℕ) (h : i < length gens) where
  abbrev forms : List Word
  forms = inverses gens

  here : i < length forms
  here = omega (arith, length-map gens inverse)

  pub inverse_rises : total (take i forms) ≤ total (take (suc i) forms)
  inverse_rises = omega (arith, total_take_suc i forms)

  pub inverse_within : total (take (suc i) forms) ≤ total forms
  inverse_within = total_take (suc i) forms

  pub inverse_spells : (held : List ℕ) → take (total forms) held ≡ normal_bytes forms
      → word (take (total (take (suc i) forms) - total (take i forms)) (drop (total (take i forms)) held)) ≡ nf (inverse (generator gens i))
  inverse_spells held e =
      let start = total (take i forms) in
      let end = total (take (suc i) forms) in
      let inside : i < length (normal_ends 0 forms) = omega (arith, normal_ends_length 0 forms, here) in
      let ends_are : ◌≡◌ {A = ℕ} (get_or (normal_ends 0 forms) i 0) end = normal_end 0 forms i here ∙ zero_plus end in
      let starts_are : ◌≡◌ {A = ℕ} (get_or (0 ∷ normal_ends 0 forms) i 0) start = normal_start 0 forms i (omega (arith, here)) ∙ zero_plus start in
      ap word
      (part_slice held start end inverse_rises
      ∙ ap (drop start) (sym (take-take end (total forms) held inverse_within) ∙ ap (take end) e)
      ∙ sym (ap₂ (λ (a b : ℕ). slice a b (normal_bytes forms)) starts_are ends_are))
      ∙ sym (word_between (normal_bytes forms) 0 (normal_ends 0 forms) i inside) ∙ ap (λ (g : List Word). generator g i) (normal_list forms)
      ∙ reduced_generator forms i ∙ ap nf (get_or-map inverse gens i [])
    where
      zero_plus : (k : ℕ) → 0 + k ≡ k
      zero_plus k = omega arith
