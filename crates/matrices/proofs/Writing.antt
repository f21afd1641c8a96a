-- Questions 12 and 14 of a normal form. Assumes nothing.
use mathlib.Core.Path.{◌≡◌, ap}
use mathlib.Core.Bool.{Bool}
use mathlib.Core.List.{[], ◌∷◌}
use Prim.Native.Nat.{ℕ, ◌≤◌, ◌<◌}
use lib.Dec.{leb}
use borrow.Author.Tests.{le-leb, lt-leb}
use Rattle.limits.specs.Limits.{most_of_form}
use Rattle.refusals.specs.Questions.{Asked, passed, asks, first_no}
use Rattle.refusals.specs.declared.Refusal.TheVariants.{NormalFormTooLong, OutputTooShort}
use Rattle.std.specs.Prelude.{Err}
use Rattle.matrices.specs.Spelling.{of_length}

by_tests : Bool → Bool → Asked
by_tests s t = first_no (asks s NormalFormTooLong ∷ asks t OutputTooShort ∷ [])

module _ (letters room : ℕ) where
  pub letters_too_many : most_of_form < letters → of_length letters room ≡ Err NormalFormTooLong
  unfolding by_tests
  letters_too_many h = ap (λ (t : Bool). by_tests t (leb most_of_form room)) (lt-leb letters most_of_form h)

  pub letters_and_room : letters ≤ most_of_form → most_of_form ≤ room → of_length letters room ≡ passed
  unfolding by_tests
  letters_and_room h k = λ i. by_tests (le-leb letters most_of_form h i) (le-leb most_of_form room k i)
