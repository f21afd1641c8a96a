-- Block after block, up to the place before which all items stand; a block in which nothing is due is passed over. Assumes nothing.
use mathlib.Core.Bool.{true}
use mathlib.Core.Path.{◌≡◌}
use Prim.Native.Nat.{◌-◌, ◌≤◌}
use Rattle.derivations.specs.Ways.{world_of, highest}
use Rattle.witness.specs.Sweeping.{swept, ChoosesTo}
use Rattle.witness.proofs.sweeping.choose_weight.Given as goal

abbrev pub invariant-loop-from : goal.invariant-loop-from
invariant-loop-from l =
    ((l.from ≤ l.end) × (l.end ≡ swept (world_of l.setting)))
    × ((1 ≤ l.x) × (l.x ≤ highest (world_of l.setting)))
    × ChoosesTo (world_of l.setting) l.k.0 l.k.0 l.from l.initial.choices true l.choices

abbrev pub decreases-loop-from : goal.decreases-loop-from
decreases-loop-from l = l.end - l.from
