-- The sum is stored where it is less. Assumes nothing.
use mathlib.Core.Path.{refl}
use Rattle.levels.proofs.Relaxing.{relaxed_one}
use Rattle.tables.proofs.relaxing.relax_from.Goals as goal

pub returns : goal.returns
returns c =
    let a = c.args in
    rw c.relax.ensures (relaxed_one a.table.now a.from a.to refl c.requires.to_in_bounds)
