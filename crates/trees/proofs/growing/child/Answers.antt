-- The one argument for either letter, at the letter of the byte. Assumes nothing.
use mathlib.Core.Path.{refl, sym}
use Rattle.words.specs.Word.{R, S}
use Rattle.words.proofs.Bytes.{letter_r, letter_s}
use Rattle.trees.proofs.Growth.{r_not_s, grows_swap}
use Rattle.trees.proofs.growing.child.Goals as goal

pub returns-then-byte-eq82 : goal.returns-then-byte-eq82
returns-then-byte-eq82 c =
    rw (letter_r _ c.if-byte-eq82.true) (c.child_by.ensures R S r_not_s refl)

pub returns : goal.returns
returns c =
    rw (letter_s _ c.if-byte-eq82.false) (grows_swap _ _ (c.child_by-2.ensures S R (λ e. r_not_s (sym e)) refl))
