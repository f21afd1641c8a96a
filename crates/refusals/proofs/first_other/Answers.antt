-- Where every byte is a letter, the first other is the length. Assumes nothing.
use Rattle.std.proofs.Common.{arith}
use Rattle.refusals.proofs.Telling.{told}
use Rattle.refusals.proofs.FirstOther.{first_other_within}
use Rattle.refusals.proofs.first_other.Goals as goal

pub returns-then-all_letters : goal.returns-then-all_letters
returns-then-all_letters c = omega (arith, told _ c.if-all_letters.true c.all_letters.ensures, first_other_within c.args.word.now)
