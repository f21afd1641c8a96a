-- After i turns the first i entries are carried. Assumes nothing.
use Rattle.std.proofs.Common.{◌≡◌, length}
use Rattle.std.proofs.Math.Seq.{paste}
use Rattle.search.proofs.carrying.carry.Given as goal

abbrev pub invariant-loop-i : goal.invariant-loop-i
invariant-loop-i l = (l.table ≡ paste l.initial.table l.at l.rows l.i) × (length l.table ≡ length l.initial.table)
