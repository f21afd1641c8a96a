-- The length that `short_after` answers says where the letters start, and the test that they are whole. Assumes nothing.
use Rattle.std.proofs.Common.{arith}
use Rattle.fields.proofs.LetterSpans.{length_fits, span_whole}
use Rattle.fields.proofs.letters_after.Goals as goal

pub returns : goal.returns
returns c =
    let a = c.args in
    span_whole a.card.now a.at c.in_ok-len.ensures (omega (arith, length_fits a.card.now a.at c.in_ok-len.ensures))
