-- What places lead to that were used is led to. A sweep that finds a fresh place brings the sum of all entries down. Assumes nothing.
use Rattle.levels.proofs.Closing.{total}
use Rattle.tables.proofs.Closed.{Swept}
use Rattle.tables.proofs.closing.close_pairs.Given as goal

abbrev pub invariant-loop-table : goal.invariant-loop-table
invariant-loop-table l = Swept l.tree.count l.tree.letters.now l.tree.rests.now l.tree.wholes.now l.table

abbrev pub decreases-loop-table : goal.decreases-loop-table
decreases-loop-table l = total l.table
