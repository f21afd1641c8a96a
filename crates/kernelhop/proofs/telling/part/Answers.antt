-- By the test. Assumes nothing.
use Rattle.kernelhop.proofs.telling.part.Goals as goal

pub returns-then-part : goal.returns-then-part
returns-then-part c = simp c.if-part.true

pub returns : goal.returns
returns c = simp c.if-part.false
