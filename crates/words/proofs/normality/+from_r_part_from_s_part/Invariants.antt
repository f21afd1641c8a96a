-- The two functions that test normality by parts. Each one's measure is what is left of the word.
use Rattle.std.proofs.Common.{length}
use Rattle.words.proofs.normality.+from_r_part_from_s_part.Given as goal

abbrev pub decreases-from_r_part : goal.decreases-from_r_part
decreases-from_r_part l = length l.word.now

abbrev pub decreases-from_s_part : goal.decreases-from_s_part
decreases-from_s_part l = length l.word.now
