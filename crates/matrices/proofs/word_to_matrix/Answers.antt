-- The word is reduced, and its normal form has the same matrix up to sign. Assumes nothing.
use Rattle.std.proofs.Common.{◌≡◌, take, refl, sym, ap, ◌∙◌}
use mathlib.Core.Path.{subst}
use Rattle.words.specs.Word.{Word, Normal, nf}
use Rattle.words.specs.Bytes.{word as word_of}
use Rattle.words.proofs.NormalForm.{nf_normal}
use Rattle.words.proofs.Answering.{reduce_passed, reduce_form}
use Rattle.words.proofs.Bytes.{word_bytes}
use Rattle.refusals.specs.Questions.{Asked}
use Rattle.unimodular.specs.Matrix.{Matrix, matrix_of, signed}
use Rattle.matrices.specs.Calls.{matrix_or}
use Rattle.matrices.specs.Forming.{of_form}
use Rattle.matrices.proofs.Reduction.{letters_passed, signed_nf}
use Rattle.matrices.proofs.word_to_matrix.Goals.{In_ok-len}
use Rattle.matrices.proofs.word_to_matrix.Goals as goal

-- the word that the reduction wrote
the_form : (c : In_ok-len) → word_of (take c.in_ok-len.field-0.kept.0 c.reduce.new.out) ≡ nf (word_of c.args.word.now)
the_form c =
    let w = c.args.word.now in
    ap word_of (reduce_form w _ _ _ c.reduce.ensures refl c.in_ok-len.was) ∙ word_bytes (nf (word_of w))

pub of_normal_form-requires : goal.of_normal_form-requires
of_normal_form-requires c =
    let w = c.args.word.now in
    subst Normal (sym (the_form (goal.at.of_normal_form-requires c).In_ok-len)) (nf_normal (word_of w))

pub returns : goal.returns
returns c =
    let w = c.args.word.now in
    c.of_normal_form.ensures
    ∙ ap (λ (x : Word). matrix_or (of_form x) (signed (matrix_of x))) (the_form (goal.at.returns c).In_ok-len)
    ∙ ap (λ (m : Matrix). matrix_or (of_form (nf (word_of w))) m) (signed_nf w)
    ∙ ap (λ (a : Asked). matrix_or a (signed (matrix_of (word_of w)))) (sym (letters_passed w (reduce_passed w _ _ _ c.reduce.ensures refl c.in_ok-len.was)))
