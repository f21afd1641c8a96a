-- The numbers before the index are signed, the others as they were. Assumes nothing.
use mathlib.Core.Path.{◌≡◌}
use Rattle.subgroups.specs.Signing.{signed_byte}
use Rattle.subgroups.proofs.SignedFactors.{mapped}
use Rattle.subgroups.proofs.signing.sign.Given as goal

abbrev pub invariant-loop-number : goal.invariant-loop-number
invariant-loop-number l = l.series ≡ mapped (signed_byte l.generators) l.initial.series l.number-index
