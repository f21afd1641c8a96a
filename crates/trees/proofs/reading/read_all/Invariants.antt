-- The first i generators are read. Assumes nothing.
use Rattle.trees.specs.Growing.{node_slices, Remains, Read}
use Rattle.trees.proofs.reading.read_all.Given as goal

abbrev pub invariant-loop-i : goal.invariant-loop-i
invariant-loop-i l =
    Read l.bytes l.ends l.i l.count (node_slices l.letters l.rests l.children_r l.children_s) l.wholes
    × Remains l.count (node_slices l.initial.letters l.initial.rests l.initial.children_r l.initial.children_s) (node_slices l.letters l.rests l.children_r l.children_s)
