-- A part of the stack is copied. Assumes nothing.
use Rattle.std.proofs.Common.{refl, sym, arith}
use lib.Seq.{length-take-le}
use Rattle.slices.proofs.Slices.{pasted_front}
use Rattle.words.proofs.write_out.Goals as goal

pub returns : goal.returns
returns c =
    let a = c.args in
    record {
      result_value = refl;
      out_after = pasted_front c.copy_at.ensures (omega (arith, length-take-le a.len a.stack.now (omega arith)));
    }
