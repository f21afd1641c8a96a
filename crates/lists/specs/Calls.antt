-- What reducing a list promises, with the inverses of its generators behind it and without. Assumes nothing: these are definitions.
use Rattle.std.specs.Prelude.{Result, Ok, Err, ◌≡◌, List, [], ◌∷◌, ℕ, length}
use Rattle.refusals.specs.Questions.{Asked, first_no, question14}
use Rattle.words.specs.Word.{Word}
use Rattle.words.specs.Calls.{written, length_or}
use Rattle.refusals.specs.declared.Refusal.{Refusal}
use Rattle.words.specs.declared.Letters.{Letters}
use Rattle.products.specs.Product.{generators, with_inverses}
use Rattle.lists.specs.declared.Lengths.{Lengths}
use Rattle.lists.specs.Questions.{of_list, question11}
use Rattle.lists.specs.NormalList.{total, normal_bytes, normal_ends}

-- What is asked where the normal forms of `words` are written: the questions of the list alone, and then room for the result, which is the forms' letters
-- and the ends. This is not document 01's question 14, which asks for the input's length: 01 does not have these calls, and a refusal for want of room only
-- bears that question's name.
abbrev pub of_reduced_list : List Word → List ℕ → List ℕ → ℕ → ℕ → Asked
of_reduced_list words bytes ends room room_ends =
    first_no (of_list bytes ends [] ∷ question11 (generators bytes ends) ∷ question14 (total words) room ∷ question14 (length words) room_ends ∷ [])

-- A list is handed over: where the questions pass, its letters go into the front of one lent slice and its ends into that of another; else nothing
-- changes. The answer is what `answered` says.
pub record HandsOver {Answer : Type 0} (asked : Asked) (answered : Asked → Answer) (letters ends before before_ends : List ℕ) (r : Answer) (after after_ends : List ℕ) : Type 0 where
  pub answer : r ≡ answered asked
  pub slice : after ≡ written asked letters before
  pub ends_slice : after_ends ≡ written asked ends before_ends

-- the same of the normal forms of `words`, by the questions of the list
abbrev pub ReducesTo : {Answer : Type 0} (words : List Word) (answered : Asked → Answer) (bytes ends before before_ends : List ℕ) (r : Answer) (after after_ends : List ℕ) → Type 0
ReducesTo words answered bytes ends before before_ends r after after_ends =
    HandsOver (of_reduced_list words bytes ends (length before) (length before_ends)) answered (normal_bytes words) (normal_ends 0 words) before before_ends r after after_ends

-- The normal forms of the generators go into the lent slices; the answer is m.
abbrev pub ReducesList : (bytes ends before before_ends : List ℕ) (r : Result Letters Refusal) (after after_ends : List ℕ) → Type 0
ReducesList bytes ends before before_ends r after after_ends =
    ReducesTo (generators bytes ends) (λ asked. length_or asked (total (generators bytes ends))) bytes ends before before_ends r after after_ends

-- the lengths of the given generators' forms, and of all forms that are written; or the refusal
abbrev pub lengths_or : Asked → ℕ → ℕ → Result Lengths Refusal
lengths_or (Ok _) given all = Ok (record { given = record { 0 = given }; all = record { 0 = all } })
lengths_or (Err refusal) given all = Err refusal

-- The normal forms of the generators and of their inverses go into the lent slices; the answer is the length of the first and of all. Question 11 is asked
-- of the given generators only: the inverse of (SR)^40 has 120 letters.
abbrev pub ReducesSigned : (bytes ends before before_ends : List ℕ) (r : Result Lengths Refusal) (after after_ends : List ℕ) → Type 0
ReducesSigned bytes ends before before_ends r after after_ends =
    ReducesTo (with_inverses (generators bytes ends)) (λ asked. lengths_or asked (total (generators bytes ends)) (total (with_inverses (generators bytes ends)))) bytes ends before
    before_ends r after after_ends
