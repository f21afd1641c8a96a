-- The parts in the way are asked for, and whether they are tight. Assumes nothing.
use mathlib.Core.Bool.{true}
use mathlib.Core.Path.{◌≡◌, sym, ap, subst, ◌∙◌}
use Prim.Native.Nat.{ℕ}
use lib.ListN.{length}
use Rattle.refusals.specs.Telling.{Tells}
use Rattle.refusals.proofs.Telling.{told}
use Rattle.derivations.specs.Derivations.{Alone, Tight}
use Rattle.derivations.specs.Ways.{world_of, parts_in, weight_in}
use Rattle.witness.specs.Marking.{PartsWithin, with_needs}
use Rattle.witness.proofs.Lowering.{tight_lower}
use Rattle.witness.proofs.Marks.{parts_within, marks_tight}
use Rattle.witness.proofs.marking.mark_way.Goals.{After-is_tight, Start}
use Rattle.witness.proofs.marking.mark_way.Goals as goal

tells : (c : After-is_tight) → Tells c.is_tight.result (Tight (weight_in (world_of c.args.setting.now)) c.args.x c.args.y c.parts-p.result)
tells c =
    subst (λ (weight : ℕ → ℕ → ℕ). Tells c.is_tight.result (Tight weight c.args.x c.args.y c.parts-p.result)) c.of.ensures c.is_tight.ensures

tight : (c : After-is_tight) → c.is_tight.result ≡ true
    → let a = c.args in
    let w = world_of a.setting.now in
    Tight (weight_in w) a.x a.y (parts_in w a.x a.y a.d)
tight c is_true =
    subst (Tight (weight_in (world_of c.args.setting.now)) c.args.x c.args.y) c.parts-p.ensures (told c.is_tight.result is_true (tells c))

pub need_parts-requires : goal.need_parts-requires
need_parts-requires c =
    let w = world_of c.args.setting.now in
    let a = c.args in
    let ps = parts_in w a.x a.y a.d in
    subst (PartsWithin a.setting.now.tree.count (length a.choices.now)) (sym c.parts-p.ensures)
    (parts_within w a.x a.y (length a.choices.now) ps c.requires.small.room
    (tight_lower w a.x a.y ps (tight (goal.at.need_parts-requires c).After-is_tight c.if-is_tight.true)))

pub returns-then-is_tight : goal.returns-then-is_tight
returns-then-is_tight c =
    let a = c.args in
    let same = c.parts-p.ensures in
    marks_tight (world_of c.args.setting.now) a.x a.y a.d c.alone.result c.requires.small.room (tight (goal.at.returns-then-is_tight c).After-is_tight c.if-is_tight.true)
    (c.need_parts.ensures ∙ ap (with_needs a.setting.now.tree.count a.choices.now) same)
    (λ is_true. subst (Alone a.x) same (told c.alone.result is_true c.alone.ensures))
