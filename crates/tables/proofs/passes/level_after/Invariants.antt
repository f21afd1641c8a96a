-- No entry passed so far lies above k and below the least one kept. Assumes nothing.
use Rattle.std.proofs.Common.{ℕ, ◌<◌, ◌≤◌}
use Rattle.levels.specs.Levels.{entry}
use Rattle.tables.proofs.passes.level_after.Given as goal

abbrev pub invariant-loop-x : goal.invariant-loop-x
invariant-loop-x l = (l.k.0 < l.least) × (l.least ≤ l.none) × ((p : ℕ) → p < l.x-index → l.k.0 < entry l.table p → l.least ≤ entry l.table p)
