-- The fields say a card, of which the answer is told. Assumes nothing.
use Rattle.std.proofs.Common.{◌≡◌, ◌-◌, ℕ, [], length, take, drop, refl, sym, ap, ◌∙◌, arith, rules}
use lib.Seq.{take_all}
use lib.ListN.{length-drop}
use Rattle.std.proofs.lemmas.Result.{err_from_is_err_and}
use Rattle.refusals.specs.declared.Refusal.TheVariants.{FieldCut}
use Rattle.fields.specs.Field.{Whole, Cut}
use Rattle.cards.specs.Card.{bound_field, fields}
use Rattle.cards.specs.Lending.{held}
use Rattle.cards.proofs.WholeReads.{behind_fields}
use Rattle.cards.proofs.CardEnds.{fields_said, no_bytes, spare_byte}
use Rattle.cards.proofs.answering.answer_fields.Goals.{In_ok-n, In_ok-goal, In_ok-list}
use Rattle.cards.proofs.answering.answer_fields.Goals as goal

bound_read : (c : In_ok-n) → bound_field c.args.map (drop 1 c.args.card.now) ≡ Whole c.in_ok-n.n.0 c.in_ok-n.rest.now
bound_read c =
    let card = c.args.card.now in
    let behind : take (length card - 1) (drop 1 card) ≡ drop 1 card = take_all (length card - 1) (drop 1 card) (omega (arith, length-drop 1 card)) in
    let (n, whole, same) = rw c.in_ok-n.ensures.ok_part at c.bound.ensures in
    ap (bound_field c.args.map) (sym behind) ∙ whole ∙ ap (λ (k : ℕ). Whole k c.in_ok-n.rest.now) (sym same)

pub returns-in_err-list-clause-answers : goal.returns-in_err-list-clause-answers
returns-in_err-list-clause-answers c =
    let at = goal.at.returns-in_err-list-clause-answers c in
    let p = err_from_is_err_and c.from_residual-in_err-list.result c.from_residual-in_err-list.ensures.1 in
    let (target, target_whole, says) = rw c.in_ok-goal.ensures.ok_part at c.target.ensures in
    let list_cut = rw c.in_err-list.ensures.ok_part at c.list.ensures in
    let value = rw c.in_err-list.ensures.ok_part at c.in_err-list.ensures.value in
    let cut : c.in_err-list.field-0.0 ≡ FieldCut (length c.args.card.now) = grind (arith, p.1, p.2, value) in
    let whole : fields c.args.map (drop 1 c.args.card.now) ≡ Cut = rw (bound_read at.In_ok-n, target_whole, list_cut) refl in
    rw (p.1, p.2, cut, whole) (refl, refl)

pub overflow_sub-result : goal.overflow_sub-result
overflow_sub-result c =
    let at = goal.at.overflow_sub-result c in
    let (target, target_whole, says) = rw c.in_ok-goal.ensures.ok_part at c.target.ensures in
    let (list, list_whole, (many, stand)) = rw c.in_ok-list.ensures.ok_part at c.list.ensures in
    let whole = fields_said c.args.map _ (bound_read at.In_ok-n) target_whole list_whole in
    omega (arith, behind_fields c.args.map (drop 1 c.args.card.now) whole, length-drop 1 c.args.card.now)

pub returns-then-not-is_empty-clause-answers : goal.returns-then-not-is_empty-clause-answers
returns-then-not-is_empty-clause-answers c =
    let at = goal.at.returns-then-not-is_empty-clause-answers c in
    let (target, target_whole, says) = rw c.in_ok-goal.ensures.ok_part at c.target.ensures in
    let (list, list_whole, (many, stand)) = rw c.in_ok-list.ensures.ok_part at c.list.ensures in
    rw (fields_said c.args.map _ (bound_read at.In_ok-n) target_whole list_whole)
    (spare_byte (record { bound = c.in_ok-n.n.0; target = target; list = list }) (held c.args.lent.now) (length c.args.card.now) c.in_ok-list.rest.now (search rules))

pub returns-clause-answers : goal.returns-clause-answers
returns-clause-answers c =
    let at = goal.at.returns-clause-answers c in
    let (target, target_whole, says) = rw c.in_ok-goal.ensures.ok_part at c.target.ensures in
    let (list, list_whole, (many, stand)) = rw c.in_ok-list.ensures.ok_part at c.list.ensures in
    let none : c.in_ok-list.rest.now ≡ [] = no_bytes c.in_ok-list.rest.now (search rules) in
    rw (fields_said c.args.map _ (bound_read at.In_ok-n) target_whole list_whole, none)
    (c.answer_goal.ensures.answers list target (stand ∙ ap (Whole list) none) says)
