-- Before turn i row 0 and i rows behind it are made. Assumes nothing.
use Rattle.std.proofs.Common.{◌≡◌, ◌∙◌, length, arith}
use Rattle.rows.proofs.MadeRows.{path_rows, filling_more, filling_rest}
use Rattle.rows.proofs.filling.fill_rows.Goals as goal

pub loop-i-preserved : goal.loop-i-preserved
loop-i-preserved c = filling_more c.requires c.loop-i.invariant c.read_letter.ensures.next_row

pub returns : goal.returns
returns c =
    let l = c.loop-i in
    let all : l.i ≡ length c.args.target.now = omega arith in
    let row = c.copy_row.ensures in
    record {
      right = rw (← all) (path_rows l.invariant);
      long = l.invariant.long ∙ row.long;
      kept = rw (← all) (filling_rest c.requires row l.invariant);
    }
