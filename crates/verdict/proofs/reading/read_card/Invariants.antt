use Rattle.std.proofs.Common.{◌≡◌, length, take, ◌-◌, ◌≤◌}
use Rattle.std.specs.Io.KnownBytes.{Consumes}
use Rattle.verdict.proofs.reading.read_card.Given as goal

abbrev pub invariant-loop-used : goal.invariant-loop-used
invariant-loop-used g l = (l.used ≤ length l.card) × (length l.card ≡ length l.initial.card) × Consumes (g.R.Read.remaining l.initial.input) (g.R.Read.remaining l.input) (take l.used l.card)

abbrev pub decreases-loop-used : goal.decreases-loop-used
decreases-loop-used g l = length l.card - l.used
