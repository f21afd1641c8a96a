-- The letters arrive at the stack, which is then copied out. Assumes nothing.
use mathlib.Core.Path.{sym, ◌∙◌}
use lib.ListN.{length-map}
use Rattle.words.specs.Bytes.{letter}
use Rattle.words.proofs.Writing.{held_writes, held_accounts}
use Rattle.words.proofs.reduce_on.Goals as goal

pub returns : goal.returns
returns c =
    let w = c.args.word.now in
    let arrived = c.arrive_all-top.ensures in
    let told = held_writes _ _ _ _ arrived.held _ _ _ (c.write_out.ensures.result_value, c.write_out.ensures.out_after) in
    record {
      kept_value = told.0;
      accounts = held_accounts _ _ _ _ arrived.held _ _ (arrived.result_value ∙ sym (length-map w letter)) arrived.pairs_value;
      out_after = told.1;
    }
