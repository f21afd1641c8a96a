-- What stands from `at` on is what was taken off. Each turn takes a part off, so `at` falls. Assumes nothing.
use mathlib.Core.Path.{◌≡◌}
use Prim.Native.Nat.{◌≤◌}
use lib.ListN.{length}
use Rattle.matrices.specs.Entries.{matrix}
use Rattle.matrices.proofs.Parts.{Spelling}
use Rattle.matrices.proofs.spelling.spell.Given as goal

abbrev pub invariant-loop-at : goal.invariant-loop-at
invariant-loop-at l = (length l.form ≡ length l.initial.form) × (l.at ≤ length l.form) × Spelling (matrix l.initial.left) (matrix l.left) l.form l.at

abbrev pub decreases-loop-at : goal.decreases-loop-at
decreases-loop-at l = l.at
