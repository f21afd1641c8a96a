-- The min of the old entry and the sum is stored. Assumes nothing.
use mathlib.Core.Path.{refl, sym, subst}
use Prim.Native.Nat.{ℕ}
use lib.ListN.{set}
use Rattle.levels.specs.Levels.{Relaxed}
use Rattle.levels.specs.Passes.{Only}
use Rattle.levels.proofs.Relaxing.{relaxed_one}
use Rattle.tables.proofs.relaxing.lower.Goals as goal

pub returns : goal.returns
returns c =
    let a = c.args in
    let t = a.table.now in
    subst (λ (v : ℕ). Relaxed a.k.0 (Only a.from a.to) t (set t a.to v)) (sym c.min.ensures)
    (relaxed_one t a.from a.to refl c.requires.to_in_bounds)
