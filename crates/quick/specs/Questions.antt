-- The questions at the door of the quick answer. 02, M-106: "The quick answer takes a list and a target only." So 7 to 12 concern it. Assumes nothing: these
-- are definitions.
use Rattle.std.specs.Prelude.{List, [], ◌∷◌, ℕ, length}
use Rattle.words.specs.Word.{Word, nf}
use Rattle.words.specs.Bytes.{word}
use Rattle.refusals.specs.Questions.{Asked, first_no, question12}
use Rattle.products.specs.Product.{generators}
use Rattle.lists.specs.Questions.{of_list, question11}

-- what is asked once the letters have passed: 11; 12
abbrev pub of_forms : List Word → Word → Asked
of_forms gens target = first_no (question11 gens ∷ question12 (length (nf target)) ∷ [])

-- What the quick answer asks, in rising order: 7, 8, 9 and 10; then 11; and 12.
abbrev pub of_quick : List ℕ → List ℕ → List ℕ → Asked
of_quick bytes ends target = first_no (of_list bytes ends target ∷ question11 (generators bytes ends) ∷ question12 (length (nf (word target))) ∷ [])
