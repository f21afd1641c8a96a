-- The generators' images are taken in one after the other, until the target's is marked. Assumes nothing.
use Rattle.quick.proofs.MarksDecide.{Taking}
use Rattle.quick.proofs.deciding.answer_images.Given as goal

abbrev pub invariant-loop-end : goal.invariant-loop-end
invariant-loop-end l = Taking l.bytes l.ends l.target l.from l.end-index l.rows l.marks
