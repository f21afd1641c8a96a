-- The answer so far tells whether the bytes so far are letters.
use Rattle.std.proofs.Common.{◌≤◌}
use Rattle.refusals.specs.Telling.{Tells}
use Rattle.refusals.specs.Questions.{first_other}
use Rattle.refusals.proofs.all_letters.Given as goal

abbrev pub invariant-loop-byte : goal.invariant-loop-byte
invariant-loop-byte l = Tells l.all (l.byte-index ≤ first_other l.word)
