-- The answer tells of the places passed so far. Assumes nothing.
use Rattle.refusals.specs.Telling.{Tells}
use Rattle.witness.specs.Due.{SomeDue}
use Rattle.witness.proofs.due.has_due.Given as goal

abbrev pub invariant-loop-p : goal.invariant-loop-p
invariant-loop-p l = Tells l.due (SomeDue l.state l.k l.choices l.counts 0 l.p)
