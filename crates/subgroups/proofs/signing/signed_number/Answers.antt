-- By the tests. Assumes nothing.
use borrow.Author.Tests.{lt-ltb, le-ltb}
use Rattle.subgroups.proofs.signing.signed_number.Goals as goal

pub returns-then-i-generators : goal.returns-then-i-generators
returns-then-i-generators c = simp (lt-ltb _ _ c.if-i-generators.true)

pub returns-then-j-lt-INVERSE : goal.returns-then-j-lt-INVERSE
returns-then-j-lt-INVERSE c = simp (le-ltb _ _ c.if-i-generators.false, lt-ltb _ _ c.if-j-lt-INVERSE.true)

pub returns : goal.returns
returns c = simp (le-ltb _ _ c.if-i-generators.false, le-ltb _ _ c.if-j-lt-INVERSE.false)
