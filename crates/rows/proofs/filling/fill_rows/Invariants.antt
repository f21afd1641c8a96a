-- Before turn i row 0 and i rows behind it are made. Assumes nothing.
use Rattle.rows.proofs.MadeRows.{Filling}
use Rattle.rows.proofs.filling.fill_rows.Given as goal

abbrev pub invariant-loop-i : goal.invariant-loop-i
invariant-loop-i l =
    Filling l.tree.count l.n.0 l.tree.children_r.now l.tree.children_s.now l.target l.table l.initial.rows l.rows l.i
