-- The image of a word, letter by letter. What is still to come is the word without its first i letters.
-- Assumes nothing.
use mathlib.Core.Path.{◌≡◌, sym, ap, subst, ◌∙◌}
use mathlib.Core.List.{List}
use Prim.Native.Nat.{ℕ, ◌+◌, ◌<◌}
use native.Mathlib.Numerals.{add-one}
use lib.ListN.{length, drop, get_or}
use lib.Seq.{drop-cons}
use Rattle.words.specs.Bytes.{letter, word}
use Rattle.residues.specs.Residues.{image, times_letter}
use Rattle.residues.proofs.Numbering.{times_letter_small}
use Rattle.residues.proofs.Images.{walked, walked_image}
use Rattle.quick.specs.Table.{column, letter_of}
use Rattle.quick.proofs.Tables.{unit_21, letter_of_column}

-- the image so far is k, and the letters to come lead from it to the word's
pub record Walking (letters : List ℕ) (k i : ℕ) : Type 0 where
  pub small : k < 168
  pub leads : walked k (word (drop i letters)) ≡ image (word letters)

pub walking_begins : (letters : List ℕ) → 21 < 168 → Walking letters 21 0
walking_begins letters small =
    record { small = small; leads = subst (λ (k : ℕ). walked k (word letters) ≡ image (word letters)) unit_21 (walked_image (word letters)) }

pub walking_more : (letters : List ℕ) (k i : ℕ) → i < length letters → Walking letters k i → {at k' : ℕ} → at ≡ column (letter (get_or letters i 0))
    → k' ≡ times_letter k (letter_of at) → Walking letters k' (i + 1)
walking_more letters k i inside w {at} {k'} e f =
    let x = letter (get_or letters i 0) in
    let step : k' ≡ times_letter k x = f ∙ ap (λ (c : ℕ). times_letter k (letter_of c)) e ∙ ap (times_letter k) (letter_of_column x) in
    record {
      small = rw step (times_letter_small k w.small x);
      leads =
          rw (step, add-one i) (sym (ap (λ (l : List ℕ). walked k (word l)) (drop-cons letters i 0 inside)) ∙ w.leads);
    }
