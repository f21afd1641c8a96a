-- After each turn the sweep has come to the place p. Where nothing is due it goes on; where something is, an item of weight k stands there, and a way is
-- chosen for it. Assumes nothing.
use mathlib.Core.Bool.{true}
use Prim.Native.Nat.{◌≤◌}
use Rattle.derivations.specs.Ways.{world_of, highest}
use Rattle.witness.specs.Sweeping.{ChoosesTo}
use Rattle.witness.proofs.sweeping.choose_block.Given as goal

abbrev pub invariant-loop-p : goal.invariant-loop-p
invariant-loop-p l =
    ((l.from ≤ l.p) × (l.p ≤ l.end))
    × ((1 ≤ l.x) × (l.x ≤ highest (world_of l.setting)))
    × ChoosesTo (world_of l.setting) l.k.0 l.k.0 l.p l.initial.choices true l.choices
