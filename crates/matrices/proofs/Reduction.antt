-- The questions that a word is asked for its matrix: 8 and 10, and then those of its normal form, which has the same matrix. Assumes nothing.
use mathlib.Core.Path.{◌≡◌, sym, ap, ◌∙◌}
use mathlib.Core.List.{List, [], ◌∷◌}
use Prim.Native.Nat.{ℕ}
use lib.ListN.{length}
use Rattle.words.specs.Word.{nf}
use Rattle.words.specs.Bytes.{word}
use Rattle.refusals.specs.Questions.{passed, first_no, question8, question10, question12, of_letters}
use Rattle.refusals.proofs.Asking.{first_no_passed}
use Rattle.unimodular.specs.Matrix.{Matrix, matrix_of, signed}
use Rattle.unimodular.proofs.Product.{determinant_word}
use Rattle.unimodular.proofs.Faithful.{normal_form_of_word}
use Rattle.matrices.specs.Questions.{question16, of_turned_word}
use Rattle.matrices.specs.Forming.{of_form}
use Rattle.matrices.proofs.Signs.{signed_sign}

module _ (w : List ℕ) where
  pub signed_nf : signed (matrix_of (nf (word w))) ≡ signed (matrix_of (word w))
  signed_nf = signed_sign (determinant_word (word w)) (normal_form_of_word (word w)).matrix

  -- the word and its normal form have the same matrix
  pub letters_passed : of_letters w ≡ passed → of_turned_word w ≡ of_form (nf (word w))
  letters_passed e =
      first_no_passed (question8 (length w) ∷ question10 w ∷ [])
      (question12 (length (nf (word w))) ∷ question16 (signed (matrix_of (word w))) ∷ []) e
      ∙ ap (λ (m : Matrix). first_no (question12 (length (nf (word w))) ∷ question16 m ∷ [])) (sym signed_nf)
