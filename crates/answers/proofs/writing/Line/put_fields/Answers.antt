-- The field of one factor more is stored. Assumes nothing.
use Rattle.std.proofs.Common.{add-one, arith, ◌∙◌}
use lib.Seq.{take-suc}
use Rattle.answers.proofs.Fields.{fields_last}
use Rattle.answers.proofs.Storing.{stores_then}
use Rattle.answers.proofs.writing.Line.put_fields.Goals as goal

pub loop-factor-preserved : goal.loop-factor-preserved
loop-factor-preserved c =
    let l = c.loop-factor in
    let more = c.put_field.ensures in
    record {
      same_slice = more.same_slice ∙ l.invariant.same_slice;
      stores = rw (add-one, take-suc c.args.factors.now l.factor-index 0 (omega arith), fields_last) (stores_then l.invariant.stores more.stores);
      upper_bound = omega (arith, more.upper_bound);
    }
