-- Weight after weight, down to 1. Assumes nothing.
use Prim.Native.Nat.{◌+◌}
use Rattle.derivations.specs.Ways.{world_of}
use Rattle.witness.specs.Sweeping.{MarksTo}
use Rattle.witness.proofs.sweeping.mark_all.Given as goal

abbrev pub invariant-loop-k : goal.invariant-loop-k
invariant-loop-k l =
    MarksTo (world_of l.setting) (l.k + 1) 0 l.initial.choices l.choices
