-- A store at the height comes to lie on top. Assumes nothing.
use mathlib.Core.Path.{ap, ◌∙◌}
use mathlib.Core.List.{List, ◌∷◌}
use Prim.Native.Nat.{ℕ, ◌<◌}
use native.Mathlib.Omega.{arith}
use lib.ListN.{length}
use Rattle.limits.specs.Limits.{most_factors}
use Rattle.witness.proofs.Stacked.{length_stacked, stacked_push}
use Rattle.witness.proofs.stacks.Stack.push.Goals as goal

pub returns : goal.returns
returns c =
    let a = c.args in
    let s = c.self.inside in
    let room : s.height < most_factors = omega (arith, length_stacked s.xs s.ys s.height, ap length c.self.view_is, c.requires.0) in
    stacked_push s.xs s.ys s.height a.x a.y (omega arith) (omega arith) ∙ ap (λ (is : List (ℕ × ℕ)). (a.x, a.y) ∷ is) c.self.view_is
