-- A list that `flatten` does not refuse stands in the fronts of the two arrays, and the engine judges it. Assumes nothing.
use Rattle.std.proofs.Common.{◌≤◌, List, ℕ, length, take, None, Some, Ok, Err, refl, sym}
use mathlib.Core.Path.{subst₂}
use lib.Seq.{length-take-le}
use Rattle.std.proofs.lemmas.Result.{err_from_is_err_and}
use Rattle.words.specs.Bytes.{word}
use Rattle.engine.specs.Calls.{Lent, Verdict, JudgesProduct}
use Rattle.cards.specs.Card.{list_bytes, list_ends}
use Rattle.cards.specs.Reading.{Listed}
use Rattle.cards.specs.Lending.{held}
use Rattle.cards.proofs.FlatFronts.{flat_refused, listed_fronts, fronts_fit}
use Rattle.cards.proofs.ProductAnswers.{list_refused}
use Rattle.cards.proofs.answering.answer_letters.Goals.{In_ok-total}
use Rattle.cards.proofs.answering.answer_letters.Goals as goal

pub returns-in_err-total-clause-answers : goal.returns-in_err-total-clause-answers
returns-in_err-total-clause-answers c =
    let a = c.args in
    let p = err_from_is_err_and c.from_residual.result c.from_residual.ensures.1 in
    λ list listed.
    rw (p.1, p.2)
    (list_refused a.n.0 list a.target.now (word a.target.now) (held a.lent.now) (flat_refused list _ _ _ _ (c.in_err-total.ensures list listed) a.target.now))

-- the fronts that the list stands in are parts of the arrays
room : (c : In_ok-total) → (c.in_ok-total.field-0.0 ≤ length c.flatten.new.letters) × (c.args.list.count ≤ length c.flatten.new.ends)
room c =
    let l = c.args.list in
    fronts_fit l.bytes.now l.count _ _ _ _ c.in_ok-total.ensures c.requires c.flatten.auto.letters c.flatten.auto.ends

pub slice_bounds-letters-end : goal.slice_bounds-letters-end
slice_bounds-letters-end c = (room (goal.at.slice_bounds-letters-end c).In_ok-total).0

pub slice_bounds-judge-end : goal.slice_bounds-judge-end
slice_bounds-judge-end c = sym (length-take-le _ _ (room (goal.at.slice_bounds-judge-end c).In_ok-total).0)

pub slice_bounds-ends-end : goal.slice_bounds-ends-end
slice_bounds-ends-end c = (room (goal.at.slice_bounds-ends-end c).In_ok-total).1

pub slice_bounds-judge-end-2 : goal.slice_bounds-judge-end-2
slice_bounds-judge-end-2 c = sym (length-take-le _ _ (room (goal.at.slice_bounds-judge-end-2 c).In_ok-total).1)

-- what is judged of the fronts is judged of the list
of_list : (c : In_ok-total) (v : Verdict) (before after : Lent) (list : List (List ℕ)) → Listed c.args.list.bytes.now c.args.list.count list
    → JudgesProduct (take c.in_ok-total.field-0.0 c.flatten.new.letters) (take c.args.list.count c.flatten.new.ends) c.args.target.now (word c.args.target.now) c.args.n.0 v before after
    → JudgesProduct (list_bytes list) (list_ends 0 list) c.args.target.now (word c.args.target.now) c.args.n.0 v before after
of_list c v before after list listed judged =
    let a = c.args in
    let f = listed_fronts a.list.bytes.now a.list.count _ _ _ _ c.in_ok-total.ensures list listed in
    subst₂ (λ (letters ends : List ℕ). JudgesProduct letters ends a.target.now (word a.target.now) a.n.0 v before after) f.letters_front f.ends_front judged

pub returns-in_err-verdict-clause-answers : goal.returns-in_err-verdict-clause-answers
returns-in_err-verdict-clause-answers c =
    let u = (goal.at.returns-in_err-verdict-clause-answers c).In_ok-total in
    let p = err_from_is_err_and c.from_residual-in_err-verdict.result c.from_residual-in_err-verdict.ensures.1 in
    λ list listed. (Err c.in_err-verdict.field-0.0, rw (p.1, p.2) refl, of_list u _ _ _ list listed c.in_err-verdict.ensures)

pub returns-in-Some-clause-answers : goal.returns-in-Some-clause-answers
returns-in-Some-clause-answers c =
    let u = (goal.at.returns-in-Some-clause-answers c).In_ok-total in
    λ list listed. (Ok (Some c.in-Some.count), refl, of_list u _ _ _ list listed (rw c.in-Some.is at c.in_ok-verdict.ensures))

pub returns-in-None-clause-answers : goal.returns-in-None-clause-answers
returns-in-None-clause-answers c =
    let u = (goal.at.returns-in-None-clause-answers c).In_ok-total in
    λ list listed. (Ok None, refl, of_list u _ _ _ list listed (rw c.in-None.is at c.in_ok-verdict.ensures))
