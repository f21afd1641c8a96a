-- What the functions inside that turn a matrix into its normal form promise. Assumes nothing: these are definitions.
use Rattle.std.specs.Prelude.{◌≡◌, List, [], ◌∷◌, ℕ, ◌+◌, ◌≤◌, ◌<◌, length, drop}
use Rattle.limits.specs.Limits.{most_of_form}
use Rattle.unimodular.specs.Matrix.{Matrix, NormalFormOf}
use Rattle.words.specs.Word.{Word}
use Rattle.words.specs.Bytes.{bytes}
use Rattle.words.specs.declared.Ending.{Ending}
use Rattle.words.specs.declared.Ending.TheVariants.{Nothing, R, S, SS}
use Rattle.refusals.specs.Questions.{Asked, first_no, question12, question14}

-- room for the longest normal form that question 12 lets pass and one part more, by which a longer one is known
abbrev pub form_room : ℕ
form_room = most_of_form + 2

-- the number of an ending, by which `unimodular` names it
abbrev pub number : Ending → ℕ
number Nothing = 0
number R = 1
number S = 2
number SS = 3

-- The normal form of m stands in `form` from `at` on, unless fewer than two bytes are left before it: then question 12 refuses it.
pub record Spelled (m : Matrix) (form : List ℕ) (at : ℕ) : Type 0 where
  pub within : at ≤ length form
  pub letters : 2 ≤ at → (w : Word) → NormalFormOf m w → bytes w ≡ drop at form
  pub too_long : at < 2 → (w : Word) → NormalFormOf m w → most_of_form < length w

-- what is asked of a normal form of that many letters, and of the room for it
abbrev pub of_length : ℕ → ℕ → Asked
of_length letters room = first_no (question12 letters ∷ question14 most_of_form room ∷ [])
