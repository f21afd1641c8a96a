-- The entries before v are read. Assumes nothing.
use Rattle.trees.specs.Tree.{at}
use Rattle.rows.specs.Rounds.{Rewritten, read_at}
use Rattle.rows.proofs.filling.read_row.Given as goal

abbrev pub invariant-loop-v : goal.invariant-loop-v
invariant-loop-v l = Rewritten (read_at l.n.0 l.children (at l.row)) l.initial.first l.first l.v
