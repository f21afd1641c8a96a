-- The one comparison is that of the definition. Assumes nothing.
use mathlib.Core.Path.{refl}
use borrow.Author.Tests.{lt-ltb, le-ltb}
use Rattle.words_trial.proofs.next_column.Goals as goal

pub returns-then-next-period : goal.returns-then-next-period
returns-then-next-period c = rw (lt-ltb _ _ c.if-next-period.true) refl

pub returns : goal.returns
returns c = rw (le-ltb _ _ c.if-next-period.false) refl
