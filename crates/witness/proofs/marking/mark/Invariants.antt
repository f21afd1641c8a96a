-- The item is marked, and the parts in its ways below d are wanted. Assumes nothing.
use Rattle.derivations.specs.Ways.{world_of}
use Rattle.witness.proofs.Marks.{WaysMarked}
use Rattle.witness.proofs.marking.mark.Given as goal

abbrev pub invariant-loop-d : goal.invariant-loop-d
invariant-loop-d l =
    WaysMarked (world_of l.setting) l.x l.y l.d l.initial.choices l.choices
