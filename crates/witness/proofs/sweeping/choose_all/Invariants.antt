-- Weight after weight, from 1 up. Assumes nothing.
use mathlib.Core.Bool.{true}
use Prim.Native.Nat.{◌+◌}
use Rattle.derivations.specs.Ways.{world_of}
use Rattle.witness.specs.Sweeping.{ChoosesTo}
use Rattle.witness.proofs.sweeping.choose_all.Given as goal

abbrev pub invariant-loop-k : goal.invariant-loop-k
invariant-loop-k l =
    ChoosesTo (world_of l.setting) l.fn.most.0 (l.k + 1) 0 l.initial.choices true l.choices
