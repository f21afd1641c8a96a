-- The answer tells of the places passed so far. Assumes nothing.
use Rattle.refusals.specs.Telling.{Tells}
use Rattle.tables.specs.Levelling.{Without}
use Rattle.tables.proofs.passes.absent.Given as goal

abbrev pub invariant-loop-x : goal.invariant-loop-x
invariant-loop-x l = Tells l.none (Without l.low.0 l.high.0 l.table 0 l.x-index)
