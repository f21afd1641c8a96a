-- An entry of the constant table. Assumes nothing.
use mathlib.Core.Path.{refl}
use Rattle.quick.specs.Table.{parents}
use Rattle.quick.proofs.table.parent_of.Goals as goal

pub returns : goal.returns
unfolding parents
returns c = refl
