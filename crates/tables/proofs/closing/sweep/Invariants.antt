-- The places before the pair are used. Those that `seek` passes over are not fresh. Assumes nothing.
use Prim.Native.Nat.{◌*◌, ◌-◌, ◌≤◌, ◌<◌}
use Rattle.tables.specs.Rules.{place, Rule}
use Rattle.tables.specs.Levelling.{Passes}
use Rattle.tables.specs.Closing.{Used}
use Rattle.tables.proofs.closing.sweep.Given as goal

abbrev pub invariant-loop-pair : goal.invariant-loop-pair
invariant-loop-pair l =
    (l.pair.column < l.tree.count) × (place l.tree.count l.pair.row l.pair.column ≤ l.tree.count * l.tree.count)
    × Passes (Used (Rule l.tree.count l.tree.letters.now l.tree.rests.now)) (place l.tree.count l.pair.row l.pair.column) l.initial.table l.table

abbrev pub decreases-loop-pair : goal.decreases-loop-pair
decreases-loop-pair l = l.tree.count * l.tree.count - place l.tree.count l.pair.row l.pair.column
