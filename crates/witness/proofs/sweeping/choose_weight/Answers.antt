-- Block after block, up to the place before which all items stand; a block in which nothing is due is passed over. Assumes nothing.
use mathlib.Core.Path.{◌≡◌, subst}
use Prim.Native.Nat.{ℕ}
use Rattle.refusals.proofs.Telling.{told_not}
use Rattle.derivations.specs.Ways.{world_of}
use Rattle.witness.specs.Sweeping.{swept, Choosing}
use Rattle.witness.proofs.ItemChoices.{choosing_passes}
use Rattle.witness.proofs.ChoiceSweeps.{weight_leaves}
use native.Mathlib.Omega.{arith}
use Rattle.witness.proofs.sweeping.choose_weight.Goals.{At-loop-from, Start}
use Rattle.witness.proofs.sweeping.choose_weight.Goals as goal

pub loop-from-preserved : goal.loop-from-preserved
loop-from-preserved c =
    let v = c.loop-from.invariant in
    let stop = c.block_after-stop.result in
    let none = told_not c.block_due.result c.if-block_due.false c.block_due.ensures in (
      (c.block_after-stop.ensures.1, v.0.1),
      v.1,
      record { keeps = v.2.keeps; choosing = choosing_passes (world_of c.args.setting.now) c.args.k.0 c.loop-from.from stop none v.2.choosing },
    )

pub returns : goal.returns
returns c =
    let w = world_of c.args.setting.now in
    let k = c.args.k.0 in
    let v = c.loop-from.invariant in
    let all : c.loop-from.from ≡ swept w = omega (arith, c.loop-from-test.false, v.0.0, v.0.1) in
    record {
      keeps = v.2.keeps;
      choosing = weight_leaves w k (subst (λ (m : ℕ). Choosing w k m c.loop-from.choices) all v.2.choosing);
    }
