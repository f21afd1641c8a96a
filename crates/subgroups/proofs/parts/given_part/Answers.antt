-- By the test. Assumes nothing.
use mathlib.Core.Bool.{false}
use mathlib.Core.Path.{ap}
use Prim.Native.Nat.{ℕ}
use lib.ListN.{length, get_or}
use borrow.Author.Tests.{lt-ltb, le-ltb}
use Rattle.subgroups.specs.declared.Part.{Part}
use Rattle.subgroups.proofs.parts.given_part.Goals as goal

pub returns-then-i-ends : goal.returns-then-i-ends
returns-then-i-ends c =
    let a = c.args in
    let part : ℕ → Part = λ start. record { inverse = false; start = start; end = get_or a.ends.now a.i 0 } in
    rw (lt-ltb a.i (length a.ends.now) c.if-i-ends.true) (ap part c.end_before.ensures)

pub returns : goal.returns
returns c =
    let a = c.args in
    rw (le-ltb a.i (length a.ends.now) c.if-i-ends.false) c.no_part.ensures
