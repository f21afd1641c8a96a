-- The line is measured, and written where it fits. Assumes nothing.
use Rattle.std.proofs.Common.{◌≡◌, ◌≤◌, length, true, sym, arith}
use native.Mathlib.Nat.{zero-add}
use borrow.Author.Tests.{le-leb}
use Rattle.answers.specs.Line.{line}
use Rattle.answers.specs.Calls.{witnessed}
use Rattle.answers.proofs.Storing.{stores_front}
use Rattle.answers.proofs.write_line.Goals as goal

pub returns : goal.returns
returns c =
    let a = c.args in
    let stored = c.write.ensures in
    let there : witnessed a.answer a.witness.now ≡ true = sym (c.if-not-witnessed.ensures) in
    let room : length (line a.answer a.witness.now) ≤ length a.out.now = omega (arith, c.write-len.ensures.end_is) in
    rw (stored.end_is, zero-add (length (line a.answer a.witness.now)), stores_front room stored)
    (record {
      answer_is = rw (there, le-leb _ _ room);
      slice_is = rw (there, le-leb _ _ room);
    })
