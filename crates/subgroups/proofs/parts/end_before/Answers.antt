-- Behind the first end each is the one before the next. Assumes nothing.
use mathlib.Core.Path.{◌≡◌, sym, ap}
use mathlib.Core.List.{◌∷◌}
use Prim.Native.Nat.{ℕ, suc, ◌-◌}
use lib.ListN.{get_or}
use native.Mathlib.Omega.{arith}
use Rattle.subgroups.proofs.parts.end_before.Goals as goal

pub returns : goal.returns
returns c =
    let a = c.args in
    let next : a.i ≡ suc (a.i - 1) = omega (arith, c.if-i-eq0.false) in
    sym (ap (λ (k : ℕ). get_or (0 ∷ a.ends.now) k 0) next)
