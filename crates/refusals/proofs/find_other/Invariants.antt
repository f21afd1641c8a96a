-- The first i bytes are letters, so the first other byte is i and then some.
use Rattle.std.proofs.Common.{◌≡◌, ◌+◌, drop}
use Rattle.refusals.specs.Questions.{first_other}
use Rattle.refusals.proofs.find_other.Given as goal

abbrev pub invariant-loop-i : goal.invariant-loop-i
invariant-loop-i l = first_other l.word ≡ l.i + first_other (drop l.i l.word)
