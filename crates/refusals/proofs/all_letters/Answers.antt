-- Each turn tells of one byte more. Assumes nothing.
use Rattle.std.proofs.Common.{arith}
use Rattle.refusals.proofs.Telling.{tells_same, tells_both}
use Rattle.refusals.proofs.FirstOther.{letter_before, letter_passed}
use Rattle.refusals.proofs.all_letters.Goals as goal

pub loop-byte-preserved : goal.loop-byte-preserved
loop-byte-preserved c =
    let l = c.loop-byte in
    let w = c.args.word.now in
    let i = l.byte-index in
    tells_both l.all c.letter_too-all.result (λ passed letter. letter_passed w i passed (omega arith) letter) (λ next. omega arith)
    (λ next. letter_before w i (omega arith)) l.invariant c.letter_too-all.ensures

pub returns : goal.returns
returns c =
    let l = c.loop-byte in
    tells_same l.all (λ passed. omega arith) (λ all. omega arith) l.invariant
