-- The ways are looked through, until one decides or there are no more. Assumes nothing.
use Rattle.derivations.specs.Ways.{world_of}
use Rattle.witness.specs.Choosing.{BestBelow, Undecided}
use Rattle.witness.proofs.choosing.best_way.Given as goal

abbrev pub invariant-loop-d : goal.invariant-loop-d
invariant-loop-d l = BestBelow (world_of l.setting) l.x l.y l.best l.d × Undecided (world_of l.setting) l.x l.y l.d
