-- The root's product is written, and then the others' in the order of the tree. Assumes nothing.
use Rattle.quick.proofs.Filling.{Filling}
use Rattle.quick.proofs.table.fill_row.Given as goal

abbrev pub invariant-loop-i : goal.invariant-loop-i
invariant-loop-i l = Filling l.image l.at l.initial.rows l.i l.rows
