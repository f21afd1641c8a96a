-- Block after block, downwards: one in which nothing is due is passed over. Assumes nothing.
use Prim.Native.Nat.{◌≤◌}
use Rattle.derivations.specs.Ways.{world_of, highest}
use Rattle.witness.specs.Sweeping.{swept, MarksTo}
use Rattle.witness.proofs.sweeping.mark_weight.Given as goal

abbrev pub invariant-loop-end : goal.invariant-loop-end
invariant-loop-end l =
    (1 ≤ l.x) × (l.x ≤ highest (world_of l.setting))
    × (l.end ≤ swept (world_of l.setting))
    × MarksTo (world_of l.setting) l.k.0 l.end l.initial.choices l.choices

abbrev pub decreases-loop-end : goal.decreases-loop-end
decreases-loop-end l = l.end
