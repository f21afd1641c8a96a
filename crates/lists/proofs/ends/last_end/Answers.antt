-- The last end stands at the last place. Assumes nothing.
use Rattle.std.proofs.Common.{sym, ◌∙◌, arith}
use Rattle.lists.proofs.Rising.{last_end_lem}
use Rattle.lists.proofs.ends.last_end.Goals as goal

pub returns-in-len1-up : goal.returns-in-len1-up
returns-in-len1-up c = c.from.ensures ∙ sym (last_end_lem 0 c.args.ends.now (omega arith))
