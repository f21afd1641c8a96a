-- The columns before j are relaxed. Assumes nothing.
use Rattle.levels.specs.Levels.{Relaxed}
use Rattle.levels.specs.Passes.{Upto}
use Rattle.tables.specs.Relaxing.{RowTurn}
use Rattle.tables.proofs.rules.relax_row.Given as goal

abbrev pub invariant-loop-j : goal.invariant-loop-j
invariant-loop-j l = Relaxed l.k.0 (Upto (RowTurn l.count l.x l.y) l.j) l.initial.table l.table
