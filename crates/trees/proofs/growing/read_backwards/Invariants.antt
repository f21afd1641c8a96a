-- The bytes from the end down to i are read. Assumes nothing.
use Rattle.std.proofs.Common.{◌≤◌}
use Rattle.trees.specs.Growing.{node_slices}
use Rattle.trees.proofs.Growth.{ReadTo}
use Rattle.trees.proofs.growing.read_backwards.Given as goal

abbrev pub invariant-loop-i : goal.invariant-loop-i
invariant-loop-i l =
    (l.from ≤ l.i)
    × ReadTo l.bytes l.end l.count (node_slices l.initial.letters l.initial.rests l.initial.children_r l.initial.children_s) l.i (node_slices l.letters l.rests l.children_r l.children_s)
    l.place.node l.place.count
