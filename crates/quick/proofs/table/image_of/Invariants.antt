-- The letters of a word, one after the other. Assumes nothing.
use Rattle.quick.proofs.Walking.{Walking}
use Rattle.quick.proofs.table.image_of.Given as goal

abbrev pub invariant-loop-letter : goal.invariant-loop-letter
invariant-loop-letter l = Walking l.letters l.k l.letter-index
