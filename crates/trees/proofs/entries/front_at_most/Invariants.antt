-- The answer tells of the entries passed so far. Assumes nothing.
use Rattle.refusals.specs.Telling.{Tells}
use Rattle.trees.specs.Bounds.{AtMost}
use Rattle.trees.proofs.entries.front_at_most.Given as goal

abbrev pub invariant-loop-x : goal.invariant-loop-x
invariant-loop-x l = Tells l.all (AtMost l.most l.s l.x-index)
