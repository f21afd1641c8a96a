-- Place after place, downwards: what is due is marked, and what is not is passed over. Assumes nothing.
use mathlib.Core.Path.{◌≡◌}
use Prim.Native.Nat.{◌-◌, ◌<◌}
use Rattle.refusals.proofs.Telling.{told}
use Rattle.derivations.specs.Ways.{world_of, weight_in}
use Rattle.witness.specs.Choices.{cells, Item, Small}
use Rattle.witness.proofs.Places.{stands_row, stands_item, small_kept}
use Rattle.witness.proofs.MarkSweeps.{marks_on}
use native.Mathlib.Omega.{arith}
use Rattle.witness.proofs.sweeping.mark_block.Goals.{After-item_at-row, At-loop-p, In-loop-p, Start}
use Rattle.witness.proofs.sweeping.mark_block.Goals as goal

small : (c : At-loop-p) → Small (world_of c.args.setting.now) c.loop-p.choices
small c = small_kept (world_of c.args.setting.now) c.requires.small c.loop-p.invariant.4.keeps

-- the place that is looked at is one of the cells
inside : (c : In-loop-p) → c.loop-p.p - 1 < cells (world_of c.args.setting.now)
inside c = omega (arith, c.requires.from_le_end.1, c.loop-p.invariant.1, c.loop-p-test.true)

-- the item that stands there
item : (c : After-item_at-row)
    → Item (world_of c.args.setting.now) c.item_at-row.result.0 c.item_at-row.result.1
    × (weight_in (world_of c.args.setting.now) c.item_at-row.result.0 c.item_at-row.result.1
    ≡ c.args.k.0)
item c =
    let w = world_of c.args.setting.now in
    let due = told c.is_due.result c.if-is_due.true c.is_due.ensures in
    let before_end : c.loop-p.p - 1 < cells w = omega (arith, c.requires.from_le_end.1, c.loop-p.invariant.1, c.loop-p-test.true) in
    stands_item w c.args.k.0 (c.loop-p.p - 1) c.item_at-row.result.0 c.item_at-row.result.1
    (small_kept w c.requires.small c.loop-p.invariant.4.keeps) c.requires.le_k before_end c.item_at-row.ensures due.1

pub mark-requires : goal.mark-requires
mark-requires c = record {
  small = small (goal.at.mark-requires c).At-loop-p;
  item = (item (goal.at.mark-requires c).After-item_at-row).0;
}

pub loop-p-preserved-then-is_due : goal.loop-p-preserved-then-is_due
loop-p-preserved-then-is_due c =
    let w = world_of c.args.setting.now in
    let at = (goal.at.loop-p-preserved-then-is_due c).At-loop-p in
    let in_loop = (goal.at.loop-p-preserved-then-is_due c).In-loop-p in
    let there = item (goal.at.loop-p-preserved-then-is_due c).After-item_at-row in
    let v = c.loop-p.invariant in
    let p = c.loop-p.p in
    let x = c.item_at-row.result.0 in
    let y = c.item_at-row.result.1 in
    let stands = c.item_at-row.ensures in
    let before = c.loop-p-test.true in (
      omega (arith, before),
      omega (arith, v.1),
      stands.some,
      stands_row w (p - 1) x y (inside in_loop) stands,
      marks_on w c.loop-p.choices c.args.k.0 x y (small at).room there.0 there.1 c.mark.ensures p (omega (arith, before)) stands.is v.4,
    )
