-- What the inner functions that reduce a list ask for and promise. Assumes nothing: these are definitions.
use Rattle.std.specs.Prelude.{Result, Ok, Err, ◌≡◌, List, [], ◌∷◌, ℕ, ◌≤◌, length, take}
use Rattle.limits.specs.Limits.{most_generators}
use Rattle.refusals.specs.Questions.{Asked, passed, first_no, first_other, question14}
use Rattle.refusals.specs.declared.Refusal.{Refusal}
use Rattle.words.specs.declared.Letters.{Letters}
use Rattle.words.specs.Word.{Word}
use Rattle.products.specs.Product.{with_inverses}
use Rattle.lists.specs.declared.Lengths.{Lengths}
use Rattle.lists.specs.Questions.{question11, of_list}
use Rattle.lists.specs.NormalList.{total, normal_bytes, normal_ends}
use Rattle.lists.specs.Calls.{HandsOver, lengths_or}

-- every byte is a letter
abbrev pub AllLetters : List ℕ → Type 0
AllLetters bytes = length bytes ≤ first_other bytes

-- a list that has passed questions 7 to 10
abbrev pub Checked : List ℕ → List ℕ → Type 0
Checked bytes ends = of_list bytes ends [] ≡ passed

-- room for a list's letters and for its ends
abbrev pub of_room : List ℕ → List ℕ → List ℕ → List ℕ → Asked
of_room letters ends before before_ends = first_no (question14 (length letters) (length before) ∷ question14 (length ends) (length before_ends) ∷ [])

-- A reduced list: its letters and ends are those of the normal forms of `gens`, which pass questions 7 and 11. Many lists of generators have those forms,
-- and what is written is the same for each of them.
pub record ReducedFrom (gens : List Word) (letters ends : List ℕ) : Type 0 where
  pub letters_are : letters ≡ normal_bytes gens
  pub ends_are : ends ≡ normal_ends 0 gens
  pub few : length gens ≤ most_generators
  pub short : question11 gens ≡ passed

abbrev pub SomeReduced : List ℕ → List ℕ → Type 0
SomeReduced letters ends = (gens : List Word) × ReducedFrom gens letters ends

-- the normal forms of `words`, with `sum` letters together, stand at the front of one slice, and their ends at that of another
pub record InFront (words : List Word) (sum : ℕ) (out out_ends : List ℕ) : Type 0 where
  pub sums : sum ≡ total words
  pub letters : take sum out ≡ normal_bytes words
  pub ends : take (length words) out_ends ≡ normal_ends 0 words

-- The normal forms of generators are written, where none is too long; else the answer is the no of question 11.
abbrev pub WritesForms : (gens : List Word) (r : Result Letters Refusal) (out out_ends : List ℕ) → Type 0
WritesForms gens (Ok sum) out out_ends = (question11 gens ≡ passed) × InFront gens sum.0 out out_ends
WritesForms gens (Err refusal) out out_ends = question11 gens ≡ Err refusal

-- The inverses' forms are written behind those of a reduced list.
abbrev pub WritesSigned : (letters ends : List ℕ) (sum : ℕ) (out out_ends : List ℕ) → Type 0
WritesSigned letters ends sum out out_ends = (gens : List Word) → ReducedFrom gens letters ends → InFront (with_inverses gens) sum out out_ends

-- A reduced list is handed over with its inverses, where there is room for both.
abbrev pub HandsSigned : (letters ends before before_ends : List ℕ) (r : Result Lengths Refusal) (after after_ends : List ℕ) → Type 0
HandsSigned letters ends before before_ends r after after_ends =
    (gens : List Word) → ReducedFrom gens letters ends
    → HandsOver (of_room (normal_bytes (with_inverses gens)) (normal_ends 0 (with_inverses gens)) before before_ends) (λ asked. lengths_or asked (total gens) (total (with_inverses gens)))
    (normal_bytes (with_inverses gens)) (normal_ends 0 (with_inverses gens)) before before_ends r after after_ends
