-- What stands between the two places, and behind them. Assumes nothing.
use Rattle.fields.specs.Field.{letters_field}
use Rattle.cards.proofs.LettersRead.{letters_said}
use Rattle.cards.proofs.reading.letters.Goals as goal

pub returns : goal.returns
returns c = letters_said c.args.card.now (letters_field c.args.card.now) _ c.in_ok-span.ensures
