-- All numbers passed so far are below the bound. Assumes nothing.
use Rattle.std.proofs.Common.{ℕ, ◌<◌}
use Rattle.trees.specs.Tree.{at}
use Rattle.tables.proofs.fitting.all_below.Given as goal

abbrev pub invariant-loop-p : goal.invariant-loop-p
invariant-loop-p l = (q : ℕ) → q < l.p-index → at l.nodes q < l.bound
