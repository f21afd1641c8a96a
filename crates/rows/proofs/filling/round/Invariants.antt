-- Each entry is the least of what is read there and of the sums over the nodes before v. Assumes nothing.
use Rattle.std.proofs.Common.{◌≡◌, ℕ, ◌<◌, length}
use Rattle.trees.specs.Tree.{at}
use Rattle.rows.specs.Rounds.{least_sum}
use Rattle.rows.proofs.filling.round.Given as goal

abbrev pub invariant-loop-v : goal.invariant-loop-v
invariant-loop-v l =
    (length l.row ≡ length l.initial.row) × ((q : ℕ) → q < length l.initial.row → at l.row q ≡ least_sum (length l.initial.row) l.table (at l.first) q l.v)
