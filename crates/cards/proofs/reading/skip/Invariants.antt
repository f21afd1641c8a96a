-- The generators that remain lead behind all of them.
use Rattle.std.proofs.Common.{◌-◌}
use Rattle.cards.specs.Card.{generator_fields}
use Rattle.cards.proofs.Skipping.{Remaining}
use Rattle.cards.proofs.reading.skip.Given as goal

abbrev pub invariant-loop : goal.invariant-loop
invariant-loop l = Remaining (generator_fields l.count l.card) (l.count - l.counter) l.rest
