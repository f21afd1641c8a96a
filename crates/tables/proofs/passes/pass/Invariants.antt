-- Where no entry lies above the level, a pass changes nothing. In the loop the places before the pair are visited.
-- Those that `seek` passes over are without the level. Assumes nothing.
use Prim.Native.Nat.{◌*◌, ◌-◌, ◌≤◌, ◌<◌}
use Rattle.tables.specs.Rules.{place, Rule}
use Rattle.tables.specs.Levelling.{Visited, Passes}
use Rattle.tables.proofs.passes.pass.Given as goal

abbrev pub invariant-loop-pair : goal.invariant-loop-pair
invariant-loop-pair l =
    (l.pair.column < l.tree.count) × (place l.tree.count l.pair.row l.pair.column ≤ l.tree.count * l.tree.count)
    × Passes (Visited (Rule l.tree.count l.tree.letters.now l.tree.rests.now) l.k.0) (place l.tree.count l.pair.row l.pair.column) l.initial.table l.table

abbrev pub decreases-loop-pair : goal.decreases-loop-pair
decreases-loop-pair l = l.tree.count * l.tree.count - place l.tree.count l.pair.row l.pair.column
