-- The row's first place and its number go up together until the place is not behind the row, and then down until it is not before it. Assumes nothing.
use mathlib.Core.Path.{◌≡◌}
use Prim.Native.Nat.{ℕ, ◌+◌, ◌-◌, ◌*◌, ◌≤◌, ◌<◌}
use Rattle.trees.specs.Tree.{most_of_entry}
use Rattle.witness.proofs.due.item_at.Given as goal

-- the row of the first number x begins at `start`
abbrev pub Row : ℕ → ℕ → ℕ → Type 0
Row count x start = (1 ≤ x) × (start + count ≡ x * count)

abbrev pub invariant-loop-start : goal.invariant-loop-start
invariant-loop-start l = Row l.count l.x l.start × (l.x ≤ l.start + 1) × (l.start ≤ most_of_entry * most_of_entry)

abbrev pub decreases-loop-start : goal.decreases-loop-start
decreases-loop-start l = l.p - l.start

abbrev pub invariant-loop-start-2 : goal.invariant-loop-start-2
invariant-loop-start-2 l = Row l.count l.x l.start × (l.p < l.start + l.count)

abbrev pub decreases-loop-start-2 : goal.decreases-loop-start-2
decreases-loop-start-2 l = l.start
