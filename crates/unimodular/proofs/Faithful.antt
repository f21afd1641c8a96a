-- Words and their matrices say the same: two words are equal by the rules exactly when their matrices agree up to sign.
--     matrix_of_equal         the rules keep the matrix, up to sign
--     kernel                  a reduced word whose matrix is the unit matrix up to sign is empty
--     equal_of_matrix         words with the same matrix are equal
--     nf_iff_matrix           so the normal form and the matrix tell the same words apart
--     normal_form_unique, normal_form_of_word    a matrix has one normal form, and a word's matrix has the word's
-- Assumes nothing.
use mathlib.Core.Path.{◌≡◌, refl, sym, ap, ◌∙◌}
use mathlib.Core.Logic.{inl, ◌↔◌}
use mathlib.Core.List.{[], ◌++◌}
use Rattle.words.specs.Word.{Word, Equal, rr, sss, none, back, then, RR, SSS, nf, inverse}
use Rattle.words.proofs.Reduced.{Reduced}
use Rattle.words.proofs.NormalForm.{nf_reduced, nf_normal, nf_of_normal, nf_of_equal, equal_nf, equal_of_nf, equal_path}
use Rattle.words.proofs.Inverse.{word_inverse, inverse_word, inverse_unique}
use Rattle.unimodular.specs.Matrix.{Matrix, unit, times, UpToSign, matrix_of, NormalFormOf}
use Rattle.unimodular.proofs.Product.{unit_times, sign_refl, sign_negated, sign_sym, sign_trans, sign_times, matrix_of_append}
use Rattle.unimodular.proofs.Ending.{ending_is_nothing, ending_sign}
use Rattle.unimodular.proofs.LastPart.{nothing_of_ending}

-- a word whose matrix is the unit matrix, put in anywhere, does not change the matrix
insert_unit : (x n y : Word) → UpToSign (matrix_of n) unit → UpToSign (matrix_of (x ++ (n ++ y))) (matrix_of (x ++ y))
insert_unit x n y s =
    sign_trans (inl (matrix_of_append x (n ++ y) ∙ ap (times (matrix_of x)) (matrix_of_append n y)))
    (sign_trans (sign_times (sign_refl (matrix_of x)) (sign_times s (sign_refl (matrix_of y))))
    (inl (ap (times (matrix_of x)) (unit_times (matrix_of y)) ∙ sym (matrix_of_append x y))))

pub matrix_of_equal : {u v : Word} → Equal u v → UpToSign (matrix_of u) (matrix_of v)
matrix_of_equal (rr x y) = insert_unit x RR y (sign_negated unit)
matrix_of_equal (sss x y) = insert_unit x SSS y (sign_negated unit)
matrix_of_equal none = inl refl
matrix_of_equal (back e) = sign_sym (matrix_of_equal e)
matrix_of_equal (then e f) = sign_trans (matrix_of_equal e) (matrix_of_equal f)

pub kernel : (w : Word) → Reduced w → UpToSign (matrix_of w) unit → w ≡ []
kernel w h s = nothing_of_ending w h (ending_sign s ∙ ending_is_nothing unit refl)

pub equal_of_matrix : (u v : Word) → UpToSign (matrix_of u) (matrix_of v) → Equal u v
equal_of_matrix u v s = inverse_unique (inverse v) u v (then (equal_nf w) (equal_path (kernel (nf w) (nf_reduced w) trivial))) (inverse_word v)
  where
    w : Word
    w = u ++ inverse v

    trivial : UpToSign (matrix_of (nf w)) unit
    trivial =
        sign_trans (matrix_of_equal (back (equal_nf w)))
        (sign_trans (inl (matrix_of_append u (inverse v)))
        (sign_trans (sign_times s (sign_refl (matrix_of (inverse v))))
        (sign_trans (inl (sym (matrix_of_append v (inverse v)))) (matrix_of_equal (word_inverse v)))))

pub nf_iff_matrix : (u v : Word) → (nf u ≡ nf v) ↔ UpToSign (matrix_of u) (matrix_of v)
nf_iff_matrix u v = ((λ e. matrix_of_equal (equal_of_nf u v e)), (λ s. nf_of_equal (equal_of_matrix u v s)))

-- ---- the normal form of a matrix

pub normal_form_unique : (m : Matrix) (u v : Word) → NormalFormOf m u → NormalFormOf m v → u ≡ v
normal_form_unique m u v p q =
    sym (nf_of_normal u p.normal) ∙ (nf_iff_matrix u v).1 (sign_trans p.matrix (sign_sym q.matrix)) ∙ nf_of_normal v q.normal

pub normal_form_of_word : (w : Word) → NormalFormOf (matrix_of w) (nf w)
normal_form_of_word w = record {
  normal = nf_normal w;
  matrix = matrix_of_equal (back (equal_nf w));
}

pub normal_form_sign : {m n : Matrix} {w : Word} → UpToSign m n → NormalFormOf m w → NormalFormOf n w
normal_form_sign s p = record {
  normal = p.normal;
  matrix = sign_trans p.matrix s;
}
