-- After i turns the first i bytes are copied. Assumes nothing.
use Rattle.std.proofs.Common.{◌≡◌, length}
use Rattle.std.proofs.Math.Seq.{paste}
use Rattle.slices.proofs.copying.copy_fitting.Given as goal

abbrev pub invariant-loop-i : goal.invariant-loop-i
invariant-loop-i l = (l.to ≡ paste l.initial.to l.at l.from l.i) × (length l.to ≡ length l.initial.to)
