-- An entry of the constant table. Assumes nothing.
use Rattle.quick.specs.Table.{last_letters}
use Rattle.quick.proofs.table.last_letter_of.Goals as goal

pub returns : goal.returns
unfolding last_letters
returns c = c.from.ensures
