-- No place passed so far has the entry k. Assumes nothing.
use Rattle.tables.specs.Levelling.{Without}
use Rattle.tables.proofs.passes.find.Given as goal

abbrev pub invariant-loop-p : goal.invariant-loop-p
invariant-loop-p l = Without l.k.0 l.k.0 l.table l.from l.p
