-- The questions at the door of the calls on signed lists. Document 02, M-103. Assumes nothing: these are definitions.
use Rattle.std.specs.Prelude.{List, [], ◌∷◌, ℕ, length}
use Rattle.limits.specs.Limits.{inverses_slice}
use Rattle.words.specs.Word.{nf}
use Rattle.words.specs.Bytes.{word}
use Rattle.refusals.specs.Questions.{Asked, first_no, question12, question14}
use Rattle.products.specs.Product.{generators, with_inverses}
use Rattle.lists.specs.Questions.{of_list, question11}
use Rattle.lists.specs.NormalList.{total}
use Rattle.sizes.specs.Questions.{side, of_bound, of_tables}

-- what is asked once m and t are known: 12; 13; 14 for the witness, and for the inverse slice, which "must hold 640 bytes"; 15
abbrev pub of_signed_sizes : ℕ → ℕ → ℕ → ℕ → ℕ → ℕ → ℕ → Asked
of_signed_sizes m t n first second witness inverses =
    first_no (question12 t ∷ of_bound n witness ∷ question14 inverses_slice inverses ∷ of_tables (side m t) first second ∷ [])

-- What the signed verdict asks, in rising order. 02: "For the limits of questions 7 and 11 only the given generators count; m counts the inverses as well."
abbrev pub of_signed : List ℕ → List ℕ → List ℕ → ℕ → ℕ → ℕ → ℕ → ℕ → Asked
of_signed bytes ends target n first second witness inverses =
    first_no
    (of_list bytes ends target ∷ question11 (generators bytes ends)
    ∷ of_signed_sizes (total (with_inverses (generators bytes ends))) (length (nf (word target))) n first second witness inverses ∷ [])

-- What the letters of a factor ask: 7 to 11, of the list alone, and 14 for the inverse slice.
abbrev pub of_factor : List ℕ → List ℕ → ℕ → Asked
of_factor bytes ends inverses = first_no (of_list bytes ends [] ∷ question11 (generators bytes ends) ∷ question14 inverses_slice inverses ∷ [])
