-- Block after block, downwards: one in which nothing is due is passed over. Assumes nothing.
use mathlib.Core.Path.{sym, subst}
use Prim.Native.Nat.{ℕ, ◌≤◌, ◌<◌}
use Rattle.refusals.proofs.Telling.{told_not}
use Rattle.derivations.specs.Ways.{world_of, highest}
use Rattle.witness.specs.Sweeping.{Marking}
use Rattle.witness.proofs.Places.{stands_row}
use Rattle.witness.proofs.MarkSweeps.{marks_none, passes_on, weight_begins}
use native.Mathlib.Omega.{arith}
use Rattle.witness.proofs.sweeping.mark_weight.Goals.{After-block_before-from, After-item_at-row, At-loop-end, Start}
use Rattle.witness.proofs.sweeping.mark_weight.Goals as goal

-- the block has a place
earlier : (c : After-block_before-from) → c.block_before-from.result < c.loop-end.end
earlier c = c.block_before-from.ensures.1 c.loop-end-test.true

-- the first number of the item at its first one
row : (c : After-item_at-row) → c.item_at-row.result.0 ≤ highest (world_of c.args.setting.now)
row c =
    let before_end : c.block_before-from.result < c.loop-end.end = c.block_before-from.ensures.1 c.loop-end-test.true in
    stands_row (world_of c.args.setting.now) c.block_before-from.result c.item_at-row.result.0 c.item_at-row.result.1
    (omega (arith, before_end, c.loop-end.invariant.2)) c.item_at-row.ensures

pub loop-end-init : goal.loop-end-init
loop-end-init c =
    let w = world_of c.args.setting.now in
    let a = c.args in
    let marking = weight_begins w a.k.0 c.requires.marking in (
      omega arith,
      omega arith,
      omega (arith, c.swept-end.ensures),
      marks_none w (subst (λ (m : ℕ). Marking w a.k.0 m a.choices.now) (sym c.swept-end.ensures) marking),
    )

pub loop-end-preserved : goal.loop-end-preserved
loop-end-preserved c =
    let v = c.loop-end.invariant in (
      v.0,
      v.1,
      omega (arith, v.2, earlier (goal.at.loop-end-preserved c).After-block_before-from),
      passes_on (world_of c.args.setting.now) c.args.k.0 c.block_before-from.result c.loop-end.end
          (told_not c.block_due.result c.if-block_due.false c.block_due.ensures) v.3,
    )
