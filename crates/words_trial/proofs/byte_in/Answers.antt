-- By whether the column is the first. Assumes nothing.
use mathlib.Core.Path.{refl}
use borrow.Author.Tests.{eq-eqb, ne_eqb}
use Rattle.words_trial.proofs.byte_in.Goals as goal

pub returns-then-column-eq0 : goal.returns-then-column-eq0
returns-then-column-eq0 c = rw (eq-eqb _ _ c.if-column-eq0.true) refl

pub returns : goal.returns
returns c = rw (ne_eqb _ _ c.if-column-eq0.false) refl
