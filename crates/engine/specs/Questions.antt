-- The questions at the door of the bounded verdict. Document 01, "The questions at the door". Assumes nothing: these are definitions.
use Rattle.std.specs.Prelude.{List, [], ◌∷◌, ℕ, length}
use Rattle.words.specs.Word.{Word, nf}
use Rattle.words.specs.Bytes.{word}
use Rattle.refusals.specs.Questions.{Asked, first_no}
use Rattle.products.specs.Product.{generators}
use Rattle.lists.specs.Questions.{of_list, question11}
use Rattle.lists.specs.NormalList.{total}
use Rattle.sizes.specs.Questions.{of_sizes}

-- What the bounded verdict asks, in rising order: 7, 8, 9 and 10; then 11; and 12 to 15. `letters` are the target's, where it is given by letters.
abbrev pub of_product : List ℕ → List ℕ → List ℕ → Word → ℕ → ℕ → ℕ → ℕ → Asked
of_product bytes ends letters target n first second witness =
    first_no
    (of_list bytes ends letters ∷ question11 (generators bytes ends)
    ∷ of_sizes (total (generators bytes ends)) (length (nf target)) n first second witness ∷ [])

abbrev pub of_verdict : List ℕ → List ℕ → List ℕ → ℕ → ℕ → ℕ → ℕ → Asked
of_verdict bytes ends target n first second witness = of_product bytes ends target (word target) n first second witness
