-- The questions at the door of the unbounded verdict. 02, M-101: "Questions 13 and the witness part of 14 don't concern it." Assumes nothing: these are
-- definitions.
use Rattle.std.specs.Prelude.{List, [], ◌∷◌, ℕ, length}
use Rattle.words.specs.Word.{nf}
use Rattle.words.specs.Bytes.{word}
use Rattle.refusals.specs.Questions.{Asked, first_no, question12}
use Rattle.products.specs.Product.{generators}
use Rattle.lists.specs.Questions.{of_list, question11}
use Rattle.lists.specs.NormalList.{total}
use Rattle.sizes.specs.Questions.{side, of_tables}

-- what is asked once m and t are known: 12; 15
abbrev pub of_room : ℕ → ℕ → ℕ → ℕ → Asked
of_room m t first second = first_no (question12 t ∷ of_tables (side m t) first second ∷ [])

-- What the unbounded verdict asks, in rising order: 7, 8, 9 and 10; then 11; and 12 and 15.
abbrev pub of_reachable : List ℕ → List ℕ → List ℕ → ℕ → ℕ → Asked
of_reachable bytes ends target first second =
    first_no
    (of_list bytes ends target ∷ question11 (generators bytes ends) ∷ of_room (total (generators bytes ends)) (length (nf (word target))) first second ∷ [])
