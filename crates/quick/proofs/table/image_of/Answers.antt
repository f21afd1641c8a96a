-- The letters of a word, one after the other. Assumes nothing.
use native.Mathlib.Omega.{arith}
use lib.Dec.{lit<}
use Rattle.quick.proofs.Walking.{walking_begins, walking_more}
use Rattle.quick.proofs.table.image_of.Goals as goal

pub loop-letter-init : goal.loop-letter-init
loop-letter-init c = walking_begins c.args.letters.now (lit< tt)

pub loop-letter-preserved : goal.loop-letter-preserved
loop-letter-preserved c =
    let l = c.loop-letter in
    let w = c.args.letters.now in
    walking_more w l.k l.letter-index (omega arith) l.invariant c.column_of.ensures c.times_letter-k.ensures
