-- One byte more is stored. Assumes nothing.
use Rattle.std.proofs.Common.{add-one, arith, ◌∙◌}
use lib.Seq.{take-suc}
use Rattle.answers.proofs.Storing.{stores_then}
use Rattle.answers.proofs.writing.Line.put.Goals as goal

pub loop-byte-preserved : goal.loop-byte-preserved
loop-byte-preserved c =
    let l = c.loop-byte in
    record {
      same_slice = c.put_byte.ensures.same_slice ∙ l.invariant.same_slice;
      stores = rw (add-one, take-suc c.args.text.now l.byte-index 0 (omega arith)) (stores_then l.invariant.stores c.put_byte.ensures.stores);
    }
