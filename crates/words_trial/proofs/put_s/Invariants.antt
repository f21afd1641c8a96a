-- One place after the other is done, and its column is carried along. Assumes nothing.
use mathlib.Core.Path.{◌≡◌}
use Prim.Native.Nat.{◌-◌, ◌≤◌}
use lib.ListN.{length}
use Rattle.words_trial.specs.Period.{with_s}
use Rattle.words_trial.proofs.Period.{done}
use Rattle.words_trial.proofs.put_s.Given as goal

abbrev pub invariant-loop-i : goal.invariant-loop-i
invariant-loop-i l = (length l.word ≡ length l.initial.word) × (l.column ≤ l.i) × (done l.period l.i l.column l.word ≡ with_s l.period 0 l.initial.word)

abbrev pub decreases-loop-i : goal.decreases-loop-i
decreases-loop-i l = length l.initial.word - l.i
