-- The matrix is turned into its normal form, which is answered by its letters, or refused. Assumes nothing.
use Rattle.std.proofs.Common.{◌≤◌, length, Err, refl, sym, ap, ◌∙◌, arith}
use lib.Seq.{length-take-le}
use Rattle.matrices.proofs.TurnedMatrix.{turned_form, turned_length, turned_short}
use Rattle.cards.specs.Lending.{held}
use Rattle.cards.proofs.MatrixAnswers.{form_answered, form_too_long, entries_refused}
use Rattle.cards.proofs.answering.answer_matrix.Goals.{In-Ok}
use Rattle.cards.proofs.answering.answer_matrix.Goals as goal

-- the length that was answered, by the normal form that there is
room : (c : In-Ok) → c.in-Ok.len.0 ≤ length c.matrix_to_word.new.out
room c =
    let r = c.matrix_to_word in
    let (w, p) = turned_form _ _ _ _ r.ensures c.in-Ok.is in
    omega (arith, turned_length _ _ _ _ r.ensures c.in-Ok.is w p, turned_short _ _ _ _ r.ensures c.in-Ok.is w p, r.auto.out)

pub slice_bounds-form-end : goal.slice_bounds-form-end
slice_bounds-form-end c = room (goal.at.slice_bounds-form-end c).In-Ok

pub slice_bounds-answer_letters-end : goal.slice_bounds-answer_letters-end
slice_bounds-answer_letters-end c = sym (length-take-le _ _ (room (goal.at.slice_bounds-answer_letters-end c).In-Ok))

pub returns-in-Ok-clause-answers : goal.returns-in-Ok-clause-answers
returns-in-Ok-clause-answers c =
    let l = c.answer_letters in
    let a = c.args in
    λ list listed. form_answered _ _ _ _ c.matrix_to_word.ensures a.n.0 list c.in-Ok.is (held a.lent.now) (held l.new.lent) (l.ensures.answers list listed)

pub returns-in-NormalFormTooLong-clause-answers : goal.returns-in-NormalFormTooLong-clause-answers
returns-in-NormalFormTooLong-clause-answers c =
    let l = c.answer_letters-in-NormalFormTooLong in
    let a = c.args in
    λ list listed.
    form_too_long _ _ _ _ c.matrix_to_word.ensures a.n.0 list (omega arith) (held a.lent.now) (c.in-Err.is ∙ ap Err c.in-NormalFormTooLong.is)
    (held l.new.lent) (l.ensures.answers list listed)

pub returns-in_default : goal.returns-in_default
returns-in_default c =
    let a = c.args in
    record {
      same_slices = (refl, refl, refl);
      answers = λ list listed.
          entries_refused _ _ _ _ c.matrix_to_word.ensures a.n.0 list (omega arith) (held a.lent.now) c.in-Err.is c.in_default.not-NormalFormTooLong;
    }
