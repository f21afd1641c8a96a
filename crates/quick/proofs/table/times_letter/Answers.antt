-- An entry of the constant table, by its rule. Assumes nothing.
use mathlib.Core.Path.{ap, ◌∙◌}
use Prim.Native.Nat.{ℕ, ◌+◌, ◌*◌}
use lib.ListN.{get_or}
use Rattle.quick.specs.Table.{products}
use Rattle.quick.proofs.Tables.{products_at}
use Rattle.quick.proofs.table.times_letter.Goals as goal

pub returns : goal.returns
unfolding products
returns c =
    let a = c.args in
    let p = c.requires in
    ap (λ (i : ℕ). get_or products (2 * i + a.column) 0) c.from.ensures ∙ products_at a.k a.column p.k_bound p.column_bound
