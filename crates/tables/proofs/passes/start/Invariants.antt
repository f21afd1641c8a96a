-- The generators passed so far are relaxed. Assumes nothing.
use Rattle.levels.specs.Levels.{Relaxed}
use Rattle.levels.specs.Passes.{Upto}
use Rattle.tables.specs.Levelling.{StartTurn}
use Rattle.tables.proofs.passes.start.Given as goal

abbrev pub invariant-loop-j : goal.invariant-loop-j
invariant-loop-j l = Relaxed 1 (Upto (StartTurn l.tree.count l.tree.wholes.now) l.j) l.initial.table l.table
