-- The ends below i fit. Assumes nothing.
use Rattle.std.proofs.Common.{ℕ, ◌<◌}
use Rattle.trees.specs.Ends.{EndFits}
use Rattle.trees.proofs.fitting.ends_fit.Given as goal

abbrev pub invariant-loop-i : goal.invariant-loop-i
invariant-loop-i l = (k : ℕ) → k < l.i → EndFits l.ends l.limit k
