-- After some turns the first i rows are relaxed, and at most one is left. Assumes nothing.
use Prim.Native.Nat.{◌-◌, ◌≤◌}
use Rattle.levels.specs.Levels.{Relaxed}
use Rattle.levels.specs.Passes.{Upto}
use Rattle.tables.specs.Relaxing.{ColumnTurn}
use Rattle.tables.proofs.rules.relax_column.Given as goal

abbrev pub invariant-loop-i : goal.invariant-loop-i
invariant-loop-i l = (l.i ≤ l.count) × Relaxed l.k.0 (Upto (ColumnTurn l.count l.x l.y) l.i) l.initial.table l.table

abbrev pub decreases-loop-i : goal.decreases-loop-i
decreases-loop-i l = l.count - l.i
