-- The list is reduced, which says what question 11 does. Assumes nothing.
use mathlib.Core.Path.{refl, sym, subst}
use mathlib.Core.List.{[], ◌∷◌}
use lib.ListN.{length}
use Rattle.words.specs.Word.{nf}
use Rattle.words.specs.Bytes.{word}
use Rattle.refusals.specs.Questions.{Asked, question12}
use Rattle.refusals.proofs.Asking.{first_no_one}
use Rattle.products.specs.Product.{generators}
use Rattle.lists.specs.Questions.{question11}
use Rattle.lists.proofs.Passing.{list_alone}
use Rattle.lists.proofs.ReducedList.{list_too_long, list_short}
use Rattle.quick.specs.Calls.{AnsweredBy}
use Rattle.quick.proofs.ByQuestions.{first_refuses, first_passes}
use Rattle.std.proofs.lemmas.Result.{err_from_is_err_and}
use Rattle.quick.proofs.deciding.answer_checked.Goals as goal

pub returns-in_err-reduce_list : goal.returns-in_err-reduce_list
returns-in_err-reduce_list c =
    let a = c.args in
    let gens = generators a.bytes.now a.ends.now in
    let target = word a.target.now in
    let checked = list_alone a.bytes.now a.ends.now a.target.now c.requires in
    let p = err_from_is_err_and c.from_residual.result c.from_residual.ensures.1 in
    rw (p.1, p.2) (first_refuses gens target (question11 gens) (question12 (length (nf target)) ∷ [])
    (list_too_long a.bytes.now a.ends.now _ _ _ _ _ c.reduce_list.ensures checked refl refl c.in_err-reduce_list.was))

pub returns : goal.returns
returns c =
    let a = c.args in
    let gens = generators a.bytes.now a.ends.now in
    let target = word a.target.now in
    let checked = list_alone a.bytes.now a.ends.now a.target.now c.requires in
    let twelve = question12 (length (nf target)) in
    first_passes gens target (question11 gens) (twelve ∷ []) c.answer_short.result
    (list_short a.bytes.now a.ends.now _ _ _ _ _ c.reduce_list.ensures checked refl refl c.in_ok-reduce_list.was)
    (subst (λ (a : Asked). AnsweredBy a gens target c.answer_short.result) (sym (first_no_one twelve)) c.answer_short.ensures)
