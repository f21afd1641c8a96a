-- The first no of several questions. Assumes nothing.
use mathlib.Core.Bool.{Bool, true, false}
use mathlib.Core.Path.{◌≡◌, refl, sym, ap, ◌∙◌}
use mathlib.Core.List.{List, [], ◌∷◌, ◌++◌}
use Prim.Native.Nat.{ℕ, ◌≤◌}
use native.Mathlib.Omega.{arith}
use lib.Dec.{leb}
use lib.ListN.{length}
use borrow.Author.Tests.{leb-true}
use Rattle.limits.specs.Limits.{most_letters}
use Rattle.std.specs.Prelude.{Ok, Err}
use Rattle.refusals.specs.Questions.{Asked, passed, asks, first_no, question8, question10, question14, of_letters, of_word}
use Rattle.refusals.specs.declared.Refusal.{Refusal}
use Rattle.refusals.specs.declared.Refusal.TheVariants.{TooManyLetters, OutputTooShort}

pub passed_not_refused : {refusal : Refusal} → Path Asked (Err refusal) passed → ⊥
passed_not_refused e = let z : ◌≡◌ {A = ℕ} 0 1 = cc in omega arith

pub asks_yes : (test : Bool) (refusal : Refusal) → test ≡ true → asks test refusal ≡ passed
asks_yes test refusal e = ap (λ (b : Bool). asks b refusal) e

pub asks_no : (test : Bool) (refusal : Refusal) → test ≡ false → asks test refusal ≡ Err refusal
asks_no test refusal e = ap (λ (b : Bool). asks b refusal) e

-- a question that was answered yes
pub asks_passed : (test : Bool) (refusal : Refusal) → asks test refusal ≡ passed → test ≡ true
asks_passed true refusal e = refl
asks_passed false refusal e = absurd (passed_not_refused e)

-- where the first questions pass, the rest decides; where they refuse, they do so whatever follows
pub first_no_passed : (questions rest : List Asked) → first_no questions ≡ passed → first_no (questions ++ rest) ≡ first_no rest
first_no_passed [] rest e = refl
first_no_passed (Ok _ ∷ questions) rest e = first_no_passed questions rest e
first_no_passed (Err refusal ∷ questions) rest e = absurd (passed_not_refused e)

pub first_no_refused : (questions rest : List Asked) {refusal : Refusal} → first_no questions ≡ Err refusal → first_no (questions ++ rest) ≡ Err refusal
first_no_refused [] rest e = absurd (passed_not_refused (sym e))
first_no_refused (Ok _ ∷ questions) rest e = first_no_refused questions rest e
first_no_refused (Err refusal ∷ questions) rest e = e

-- the same of the first question alone, and of one that is a test
pub passed_first : (question : Asked) (rest : List Asked) → question ≡ passed → first_no (question ∷ rest) ≡ first_no rest
passed_first question rest e = ap (λ (q : Asked). first_no (q ∷ rest)) e

pub refused_first : (question : Asked) (rest : List Asked) {refusal : Refusal} → question ≡ Err refusal → first_no (question ∷ rest) ≡ Err refusal
refused_first question rest e = ap (λ (q : Asked). first_no (q ∷ rest)) e

pub yes_first : (test : Bool) (refusal : Refusal) (rest : List Asked) → test ≡ true → first_no (asks test refusal ∷ rest) ≡ first_no rest
yes_first test refusal rest e = passed_first (asks test refusal) rest (asks_yes test refusal e)

pub no_first : (test : Bool) (refusal : Refusal) (rest : List Asked) → test ≡ false → first_no (asks test refusal ∷ rest) ≡ Err refusal
no_first test refusal rest e = refused_first (asks test refusal) rest (asks_no test refusal e)

pub first_no_one : (question : Asked) → first_no (question ∷ []) ≡ question
first_no_one (Ok _) = refl
first_no_one (Err refusal) = refl

-- each question of a series that passes was answered yes
pub first_no_head : (question : Asked) (questions : List Asked) → first_no (question ∷ questions) ≡ passed → question ≡ passed
first_no_head (Ok _) questions e = refl
first_no_head (Err refusal) questions e = absurd (passed_not_refused e)

pub first_no_tail : (question : Asked) (questions : List Asked) → first_no (question ∷ questions) ≡ passed → first_no questions ≡ passed
first_no_tail (Ok _) questions e = e
first_no_tail (Err refusal) questions e = absurd (passed_not_refused e)

-- ---- the questions of a single word

pub of_letters_short : (w : List ℕ) → of_letters w ≡ passed → length w ≤ most_letters
of_letters_short w e =
    leb-true (length w) most_letters (asks_passed (leb (length w) most_letters) TooManyLetters (first_no_head (question8 (length w)) (question10 w ∷ []) e))

module _ (w : List ℕ) (needed room : ℕ) where
  pub of_word_refused : {refusal : Refusal} → of_letters w ≡ Err refusal → of_word w needed room ≡ Err refusal
  of_word_refused e = first_no_refused (question8 (length w) ∷ question10 w ∷ []) (question14 needed room ∷ []) e

  pub of_word_room : of_letters w ≡ passed → of_word w needed room ≡ question14 needed room
  of_word_room e = first_no_passed (question8 (length w) ∷ question10 w ∷ []) (question14 needed room ∷ []) e ∙ first_no_one (question14 needed room)

  pub of_word_passed : of_word w needed room ≡ passed → (length w ≤ most_letters) × (needed ≤ room)
  of_word_passed e =
      let second = first_no_tail (question8 (length w)) (question10 w ∷ question14 needed room ∷ []) e in (
        leb-true (length w) most_letters (asks_passed (leb (length w) most_letters) TooManyLetters (first_no_head (question8 (length w)) (question10 w ∷ question14 needed room ∷ []) e)),
        leb-true needed room (asks_passed (leb needed room) OutputTooShort (sym (first_no_one (question14 needed room)) ∙ first_no_tail (question10 w) (question14 needed room ∷ []) second)),
      )
