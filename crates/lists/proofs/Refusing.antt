-- A list's questions, where the first of them are answered yes. Assumes nothing.
use Rattle.refusals.specs.Questions.{Asked, passed, asks, first_no, question8, question10}
use mathlib.Core.Path.{◌≡◌, ◌∙◌}
use mathlib.Core.List.{List, [], ◌∷◌, ◌++◌}
use Prim.Native.Nat.{ℕ, ◌≤◌}
use lib.Dec.{leb, eqb}
use lib.ListN.{length}
use borrow.Author.Tests.{le-leb, eq-eqb}
use Rattle.limits.specs.Limits.{most_generators, most_letters}
use Rattle.refusals.specs.declared.Refusal.TheVariants.{TooManyGenerators, TooManyLetters, EndsWrong}
use Rattle.refusals.proofs.Asking.{yes_first, passed_first, first_no_one}
use Rattle.lists.specs.Questions.{first_fall, last_end, question9, of_list}

module _ (ends : List ℕ) (letters : ℕ) where
  abbrev rest9 : List Asked
  rest9 = asks (eqb (last_end 0 ends) letters) (EndsWrong (length ends)) ∷ []

  none_falls : length ends ≤ first_fall 0 ends → question9 ends letters ≡ asks (eqb (last_end 0 ends) letters) (EndsWrong (length ends))
  none_falls h =
      yes_first (leb (length ends) (first_fall 0 ends)) (EndsWrong (first_fall 0 ends)) rest9 (le-leb (length ends) (first_fall 0 ends) h)
      ∙ first_no_one (asks (eqb (last_end 0 ends) letters) (EndsWrong (length ends)))

  pub ends_right : length ends ≤ first_fall 0 ends → last_end 0 ends ≡ letters → question9 ends letters ≡ passed
  ends_right h e = none_falls h ∙ simp (eq-eqb (last_end 0 ends) letters e)

module _ (bytes ends target : List ℕ) where
  abbrev from10 : List Asked
  from10 = question10 (bytes ++ target) ∷ []

  abbrev from9 : List Asked
  from9 = question9 ends (length bytes) ∷ from10

  abbrev from8 : List Asked
  from8 = question8 (length target) ∷ from9

  few_generators : length ends ≤ most_generators → of_list bytes ends target ≡ first_no (question8 (length bytes) ∷ from8)
  few_generators h = yes_first (leb (length ends) most_generators) TooManyGenerators (question8 (length bytes) ∷ from8) (le-leb (length ends) most_generators h)

  few_letters : length ends ≤ most_generators → length bytes ≤ most_letters → of_list bytes ends target ≡ first_no from8
  few_letters h k = few_generators h ∙ yes_first (leb (length bytes) most_letters) TooManyLetters from8 (le-leb (length bytes) most_letters k)

  lengths_right : length ends ≤ most_generators → length bytes ≤ most_letters → length target ≤ most_letters → of_list bytes ends target ≡ first_no from9
  lengths_right h k l = few_letters h k ∙ yes_first (leb (length target) most_letters) TooManyLetters from9 (le-leb (length target) most_letters l)

  pub by_letters : length ends ≤ most_generators → length bytes ≤ most_letters → length target ≤ most_letters → question9 ends (length bytes) ≡ passed
      → of_list bytes ends target ≡ question10 (bytes ++ target)
  by_letters h k l e = lengths_right h k l ∙ passed_first (question9 ends (length bytes)) from10 e ∙ first_no_one (question10 (bytes ++ target))
