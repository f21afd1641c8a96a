-- The children of all nodes passed so far agree. Assumes nothing.
use Rattle.std.proofs.Common.{ℕ, ◌<◌}
use Rattle.tables.specs.Nodes.{Agrees}
use Rattle.tables.proofs.fitting.agree.Given as goal

abbrev pub invariant-loop-p : goal.invariant-loop-p
invariant-loop-p l = (q : ℕ) → q < l.p → Agrees l.tree.letters.now l.tree.rests.now l.letter l.children q
