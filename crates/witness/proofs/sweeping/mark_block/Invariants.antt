-- Place after place, downwards: what is due is marked, and what is not is passed over. Assumes nothing.
use Prim.Native.Nat.{◌≤◌}
use Rattle.derivations.specs.Ways.{world_of, highest}
use Rattle.witness.specs.Sweeping.{MarksTo}
use Rattle.witness.proofs.sweeping.mark_block.Given as goal

abbrev pub invariant-loop-p : goal.invariant-loop-p
invariant-loop-p l =
    (l.from ≤ l.p) × (l.p ≤ l.end) × (1 ≤ l.x) × (l.x ≤ highest (world_of l.setting))
    × MarksTo (world_of l.setting) l.k.0 l.p l.initial.choices l.choices
