-- Each entry is the least of what is read there and of the sums over the nodes before v. Assumes nothing.
use Rattle.std.proofs.Common.{length, arith}
use Rattle.trees.specs.Tree.{at}
use Rattle.rows.proofs.Sums.{sum_low}
use Rattle.rows.proofs.filling.round.Goals as goal

pub lower_from-requires-clause-at_most : goal.lower_from-requires-clause-at_most
lower_from-requires-clause-at_most c = λ q h.
    let l = c.loop-v in
    let a = c.args in
    omega (arith, c.requires.low q (omega arith), l.invariant.1 q (omega arith), sum_low (length c.copy_from_slice.new.self) a.table.now (at a.first.now) q l.v)
