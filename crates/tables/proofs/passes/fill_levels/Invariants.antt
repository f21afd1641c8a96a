-- The passes of all levels below k are done. Assumes nothing.
use Prim.Native.Nat.{◌+◌, ◌-◌, ◌≤◌}
use Rattle.tables.proofs.Levelled.{Levelled}
use Rattle.tables.proofs.passes.fill_levels.Given as goal

abbrev pub invariant-loop-k : goal.invariant-loop-k
invariant-loop-k l =
    (1 ≤ l.k.0) × (l.k.0 ≤ l.n.0 + 1) × Levelled l.tree.count l.tree.letters.now l.tree.rests.now l.tree.wholes.now l.n.0 l.k.0 l.table

abbrev pub decreases-loop-k : goal.decreases-loop-k
decreases-loop-k l = l.n.0 + 1 - l.k.0
