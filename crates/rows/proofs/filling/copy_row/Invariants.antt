-- After q turns the first q entries are copied. Assumes nothing.
use Rattle.trees.specs.Tree.{at}
use Rattle.rows.specs.Rounds.{Rewritten}
use Rattle.rows.proofs.filling.copy_row.Given as goal

abbrev pub invariant-loop-q : goal.invariant-loop-q
invariant-loop-q l = Rewritten (at l.from) l.initial.to l.to l.q
