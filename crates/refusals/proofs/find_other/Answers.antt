-- A letter passes, and another byte is the first. Assumes nothing.
use Rattle.std.proofs.Common.{◌≤◌, length, sym, ap, ◌∙◌, arith, drop_of_length-le}
use Rattle.refusals.specs.Questions.{first_other}
use Rattle.refusals.proofs.FirstOther.{first_other_more, first_other_here}
use Rattle.refusals.proofs.find_other.Goals as goal

pub loop-i-preserved : goal.loop-i-preserved
loop-i-preserved c =
    let l = c.loop-i in
    omega (arith, l.invariant, first_other_more c.args.word.now l.i (omega arith) (sym c.is_letter.ensures ∙ c.if-not-is_letter.false))

pub returns-then-not-is_letter : goal.returns-then-not-is_letter
returns-then-not-is_letter c =
    let l = c.loop-i in
    omega (arith, l.invariant, first_other_here c.args.word.now l.i (omega arith) (sym c.is_letter.ensures ∙ c.if-not-is_letter.true))

pub returns : goal.returns
returns c =
    let l = c.loop-i in
    let end : length c.args.word.now ≤ l.i = omega arith in
    omega (arith, l.invariant, ap first_other (drop_of_length-le c.args.word.now end))
