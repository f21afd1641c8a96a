-- All nodes passed so far are behind their rests. Assumes nothing.
use Rattle.std.proofs.Common.{ℕ, ◌<◌}
use Rattle.trees.specs.Tree.{at}
use Rattle.tables.proofs.fitting.rests_earlier.Given as goal

abbrev pub invariant-loop-p : goal.invariant-loop-p
invariant-loop-p l = (q : ℕ) → q < l.p → 0 < q → at l.rests q < q
