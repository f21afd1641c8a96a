-- The items so far are counted. Assumes nothing.
use Rattle.std.proofs.Common.{◌≡◌, count_by, ◌≤◌, take}
use Rattle.showing.proofs.lent.count.Given as goal

abbrev pub invariant-loop-item : goal.invariant-loop-item
invariant-loop-item g l =
    (l.count ≤ l.item-index) × (l.count ≡ count_by {X = g.row.T.Denot} (λ item. g.T.PartialEq.eq item l.value) (take l.item-index l.items))
