-- The entries before q are lowered. Assumes nothing.
use Rattle.std.proofs.Common.{min, ◌+◌}
use Rattle.trees.specs.Tree.{at}
use Rattle.rows.specs.Rounds.{Rewritten}
use Rattle.rows.proofs.filling.lower_row.Given as goal

abbrev pub invariant-loop-q : goal.invariant-loop-q
invariant-loop-q l = Rewritten (λ p. min (at l.initial.row p) (l.k + at l.from p)) l.initial.row l.row l.q
