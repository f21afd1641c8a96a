-- The inverses of a reduced list's generators, as a loop over its ends writes them behind it. Assumes nothing.
use mathlib.Core.Path.{◌≡◌, refl, sym, ap, subst, ◌∙◌}
use mathlib.Core.List.{List, [], ◌∷◌, ◌++◌, map}
use Prim.Native.Nat.{ℕ, ◌+◌, ◌-◌, ◌≤◌, ◌<◌}
use native.Mathlib.Numerals.{add-one}
use native.Mathlib.Omega.{arith}
use lib.ListN.{length, take, drop, get_or, set, length-map}
use lib.Seq.{slice, paste, length-slice, drop-cons, drop-append_seam}
use Rattle.limits.specs.Limits.{most_of_generator, most_of_list, most_of_signed_list}
use Rattle.words.specs.Word.{Word, nf, inverse}
use Rattle.words.specs.Bytes.{letter, word, bytes}
use Rattle.words.proofs.Inverse.{nf_inverse_nf}
use Rattle.words.proofs.Answering.{take_overwritten}
use Rattle.slices.specs.Slices.{overwritten}
use Rattle.products.specs.Product.{generators_from, inverses, with_inverses}
use Rattle.products.proofs.Doubled.{doubled_length}
use Rattle.lists.specs.Questions.{last_end}
use Rattle.lists.specs.NormalList.{total}
use Rattle.lists.specs.Reducing.{AllLetters, ReducedFrom, InFront}
use Rattle.lists.proofs.Behind.{Behind, generators_next, behind_next, behind_within}
use Rattle.lists.proofs.Forms.{Forming, forming_behind, forming_more, forming_all}
use Rattle.lists.proofs.NormalList.{normal_bytes_length, normal_ends_length, normal_list, normal_letters, normal_ends_rising, normal_ends_last, total_take}
use Rattle.lists.proofs.ShortForms.{form_short, total_short, signed_short}

module _ (gens : List Word) {letters ends : List ℕ} (r : ReducedFrom gens letters ends) where
  pub ends_count : length ends ≡ length gens
  ends_count = ap length r.ends_are ∙ normal_ends_length 0 gens

  pub letters_count : length letters ≡ total gens
  letters_count = ap length r.letters_are ∙ normal_bytes_length gens

  pub letters_short : length letters ≤ most_of_list
  letters_short = omega (arith, letters_count, total_short gens r.short)

  pub letters_all : AllLetters letters
  letters_all = subst AllLetters (sym r.letters_are) (normal_letters gens)

  pub signed_count : length (with_inverses gens) ≡ length ends + length ends
  signed_count = omega (arith, doubled_length gens, ends_count)

  pub signed_total : total (with_inverses gens) ≤ most_of_signed_list
  signed_total = signed_short gens r.few r.short

-- The inverses of the first i generators are written; the next generator begins at `from`.
pub record Inverting (gens : List Word) (letters ends old_ends : List ℕ) (sum from i : ℕ) (out out_ends : List ℕ) : Type 0 where
  pub behind : Behind letters ends from i
  pub given : generators_from letters from (drop i ends) ≡ map nf (drop i gens)
  pub forming : Forming (with_inverses gens) old_ends (inverses (drop i gens)) sum (length ends + i) out out_ends

-- a slice whose front was rewritten stays the same when its front is rewritten so again
overwritten_again : (new old : List ℕ) {all : List ℕ} → all ≡ overwritten new old → all ≡ overwritten new all
overwritten_again new old e = e ∙ ap (λ (rest : List ℕ). new ++ rest) (sym (drop-append_seam new (drop (length new) old)) ∙ ap (drop (length new)) (sym e))

-- the list itself has been copied
pub inverting_begins : (gens : List Word) {letters ends : List ℕ} (old old_ends : List ℕ) {out out_ends : List ℕ} → ReducedFrom gens letters ends
    → out ≡ overwritten letters old → out_ends ≡ overwritten ends old_ends → Inverting gens letters ends out_ends (length letters) 0 0 out out_ends
inverting_begins gens {letters} {ends} old old_ends {out} {out_ends} r copied copied_ends =
    let count : length gens ≡ length ends + 0 = omega (arith, ends_count gens r) in
    record {
      behind = record {
        rising = rw r.ends_are (normal_ends_rising 0 gens);
        last = ap (last_end 0) r.ends_are ∙ omega (arith, normal_ends_last 0 gens, letters_count gens r);
      };
      given = rw (r.letters_are, r.ends_are) (normal_list gens);
      forming =
          subst (λ (n : ℕ). Forming (with_inverses gens) out_ends (inverses gens) (length letters) n out out_ends) count
          (forming_behind gens (inverses gens) out_ends (letters_count gens r) (ap (take (length letters)) copied ∙ take_overwritten letters old (length letters) refl ∙ r.letters_are)
          (overwritten_again ends old_ends copied_ends ∙ ap (λ (l : List ℕ). overwritten l out_ends) r.ends_are));
    }

module _ (gens : List Word) {letters ends : List ℕ} (old_ends : List ℕ) {sum from i : ℕ} {out out_ends : List ℕ} (r : ReducedFrom gens letters ends)
    (v : Inverting gens letters ends old_ends sum from i out out_ends) where
  pub inverting_sum : sum ≤ most_of_signed_list
  inverting_sum = omega (arith, v.forming.sums, total_take (length ends + i) (with_inverses gens), signed_total gens r)

  pub inverting_all : length ends ≤ i → InFront (with_inverses gens) sum out out_ends
  inverting_all h = forming_all (with_inverses gens) old_ends sum (length ends + i) v.forming (omega (arith, signed_count gens r))

  module _ (here : i < length ends) {end : ℕ} (e : end ≡ get_or ends i 0) where
    abbrev g : Word
    g = get_or gens i []

    next : drop i gens ≡ g ∷ drop (i + 1) gens
    next = rw (add-one i) (drop-cons gens i [] (omega (arith, ends_count gens r)))

    split : word (slice from end letters) ∷ generators_from letters end (drop (i + 1) ends) ≡ nf g ∷ map nf (drop (i + 1) gens)
    split = sym (generators_next letters ends from i here e) ∙ v.given ∙ ap (map nf) next

    form : word (slice from end letters) ≡ nf g
    form = ap (λ (l : List Word). get_or l 0 []) split

    pub inverting_short : end - from ≤ most_of_generator
    inverting_short =
        omega (
          arith,
          length-slice from end letters (behind_within letters ends from i here e v.behind),
          length-map (slice from end letters) letter,
          ap length form,
          form_short gens r.short i (omega (arith, ends_count gens r)),
        )

    pub inverting_more : (len : ℕ) {out' : List ℕ} → len ≡ length (nf (inverse (word (slice from end letters)))) → out' ≡ paste out sum (bytes (nf (inverse (word (slice from end letters))))) len
        → sum ≤ length out → length ends + i < length old_ends → Inverting gens letters ends old_ends (sum + len) end (i + 1) out' (set out_ends (length ends + i) (sum + len))
    inverting_more len {out'} l writes room room_ends =
        let inverted : nf (inverse (word (slice from end letters))) ≡ nf (inverse g) = ap (λ (w : Word). nf (inverse w)) form ∙ nf_inverse_nf g in
        let place : length ends + i + 1 ≡ length ends + (i + 1) = omega arith in
        record {
          behind = behind_next letters ends from i here e v.behind;
          given = ap (drop 1) split;
          forming =
              subst (λ (n : ℕ). Forming (with_inverses gens) old_ends (inverses (drop (i + 1) gens)) (sum + len) n out' (set out_ends (length ends + i) (sum + len))) place
              (forming_more (with_inverses gens) old_ends (inverses (drop i gens)) sum (length ends + i) out out_ends v.forming (inverse g) (inverses (drop (i + 1) gens)) (ap inverses next)
              (omega (arith, signed_count gens r)) len (l ∙ ap length inverted) (writes ∙ ap (λ (w : Word). paste out sum (bytes w) len) inverted) room room_ends);
        }
