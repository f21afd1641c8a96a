-- The search for the first byte that is no letter. Assumes nothing.
use mathlib.Core.Bool.{Bool, true, false, false≢true}
use mathlib.Core.Path.{◌≡◌, refl, sym, ap, ◌∙◌}
use mathlib.Core.List.{List, [], ◌∷◌}
use Prim.Native.Nat.{ℕ, zero, suc, ◌+◌, ◌≤◌, ◌<◌}
use native.Mathlib.Numerals.{add-one}
use native.Mathlib.Omega.{arith}
use lib.ListN.{length, drop, get_or}
use lib.Seq.{drop-cons}
use Rattle.refusals.specs.Telling.{pick}
use Rattle.refusals.specs.Questions.{is_letter, first_other}

pub first_other_more : (w : List ℕ) (i : ℕ) → i < length w → is_letter (get_or w i 0) ≡ true → first_other (drop i w) ≡ suc (first_other (drop (i + 1) w))
first_other_more w i h e = rw (add-one i) (ap first_other (drop-cons w i 0 h) ∙ ap (λ b. pick b (suc (first_other (drop (suc i) w))) 0) e)

pub first_other_here : (w : List ℕ) (i : ℕ) → i < length w → is_letter (get_or w i 0) ≡ false → first_other (drop i w) ≡ 0
first_other_here w i h e = ap first_other (drop-cons w i 0 h) ∙ ap (λ b. pick b (suc (first_other (drop (suc i) w))) 0) e

pub first_other_within : (w : List ℕ) → first_other w ≤ length w
first_other_within [] = omega arith
first_other_within (b ∷ w) = at (is_letter b) (first_other_within w)
  where
    at : (t : Bool) → first_other w ≤ length w → pick t (suc (first_other w)) 0 ≤ suc (length w)
    at true h = omega arith
    at false h = omega arith

-- a byte before the first other is a letter
pub letter_before : (w : List ℕ) (i : ℕ) → i < first_other w → is_letter (get_or w i 0) ≡ true
letter_before [] i h = absurd (omega arith)
letter_before (b ∷ w) i h = at (is_letter b) refl i (letter_before w) h
  where
    at : (t : Bool) → is_letter b ≡ t → (i : ℕ) → ((j : ℕ) → j < first_other w → is_letter (get_or w j 0) ≡ true)
        → i < pick t (suc (first_other w)) 0 → is_letter (get_or (b ∷ w) i 0) ≡ true
    at true e zero before h = e
    at true e (suc i) before h = before i (omega arith)
    at false e i before h = absurd (omega arith)

-- behind letters and one more the first other has not come yet
pub letter_passed : (w : List ℕ) (i : ℕ) → i ≤ first_other w → i < length w → is_letter (get_or w i 0) ≡ true → i + 1 ≤ first_other w
letter_passed [] i h k e = absurd (omega arith)
letter_passed (b ∷ w) i h k e = at (is_letter b) refl i (letter_passed w) h k e
  where
    at : (t : Bool) → is_letter b ≡ t → (i : ℕ) → ((j : ℕ) → j ≤ first_other w → j < length w → is_letter (get_or w j 0) ≡ true → j + 1 ≤ first_other w)
        → i ≤ pick t (suc (first_other w)) 0 → i < suc (length w) → is_letter (get_or (b ∷ w) i 0) ≡ true → i + 1 ≤ pick t (suc (first_other w)) 0
    at true here zero later h k e = omega arith
    at true here (suc i) later h k e = omega (arith, later i (omega arith) (omega arith) e)
    at false here zero later h k e = absurd (false≢true (sym here ∙ e))
    at false here (suc i) later h k e = absurd (omega arith)
