-- The matrix of a normal form: the product of its letters' matrices.
--     product_more           one letter more
--     form_short             what question 16 says of it, where question 12 is answered yes
-- Assumes nothing.
use mathlib.Core.Path.{◌≡◌, sym, ap, ◌∙◌}
use mathlib.Core.Bool.{Bool}
use mathlib.Core.List.{List, [], ◌∷◌, ◌++◌}
use Prim.Native.Nat.{ℕ, ◌+◌, ◌≤◌, ◌<◌}
use native.Mathlib.Numerals.{add-one}
use native.Mathlib.Omega.{arith}
use lib.ListN.{length, take, get_or, length-map, get_or-map}
use lib.Seq.{take-suc}
use borrow.Author.Tests.{le-leb}
use Rattle.limits.specs.Limits.{most_of_form}
use Rattle.words.specs.Word.{Letter, Word}
use Rattle.words.specs.Bytes.{letter, word}
use Rattle.refusals.specs.Questions.{asks, first_no}
use Rattle.refusals.specs.declared.Refusal.TheVariants.{NormalFormTooLong}
use Rattle.refusals.proofs.Asking.{first_no_one}
use Rattle.unimodular.specs.Matrix.{times, matrix_of_letter, matrix_of, signed}
use Rattle.unimodular.proofs.Product.{matrix_of_snoc}
use Rattle.matrices.specs.Questions.{question16}
use Rattle.matrices.specs.Forming.{of_form}

-- one letter more
pub product_more : (w : List ℕ) (i : ℕ) → i < length w →
    times (matrix_of (take i (word w))) (matrix_of_letter (letter (get_or w i 0))) ≡ matrix_of (take (i + 1) (word w))
product_more w i h =
    sym (matrix_of_snoc (take i (word w)) (letter (get_or w i 0)))
    ∙ ap (λ (x : Letter). matrix_of (take i (word w) ++ x ∷ [])) (sym (get_or-map letter w i 0))
    ∙ ap matrix_of (sym (take-suc (word w) i (letter 0) (omega (arith, length-map w letter))))
    ∙ ap (λ (n : ℕ). matrix_of (take n (word w))) (sym (add-one i))

module _ (w : Word) where
  pub form_short : length w ≤ most_of_form → of_form w ≡ question16 (signed (matrix_of w))
  form_short h =
      ap (λ (t : Bool). first_no (asks t NormalFormTooLong ∷ question16 (signed (matrix_of w)) ∷ [])) (le-leb (length w) most_of_form h)
      ∙ first_no_one (question16 (signed (matrix_of w)))
