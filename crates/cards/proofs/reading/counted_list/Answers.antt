-- The number says how many generators there are. Assumes nothing.
use Rattle.cards.proofs.LettersRead.{counted_said}
use Rattle.cards.proofs.reading.counted_list.Goals as goal

pub returns : goal.returns
returns c =
    let (list, whole) = c.in_ok-card.ensures in
    let (counted, many) = counted_said c.args.card.now c.in_ok-count.ensures whole in
    (list, counted, (many, whole))
