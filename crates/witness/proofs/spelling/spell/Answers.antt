-- The walk goes on until the stack is empty. Assumes nothing.
use mathlib.Core.Path.{refl, ap, ◌∙◌}
use mathlib.Core.Logic.{inr}
use mathlib.Core.List.{List, ◌∷◌}
use Prim.Native.Nat.{ℕ}
use native.Mathlib.Omega.{arith}
use Rattle.witness.proofs.Halfway.{halfway_start, halfway_done}
use Rattle.witness.proofs.spelling.spell.Goals as goal

pub loop-stack-init : goal.loop-stack-init
loop-stack-init c =
    let p = c.requires in
    let settled = p.all_settled _ _ p.item p.coded in
    let alone = c.push.ensures ∙ ap (λ (is : List (ℕ × ℕ)). (c.args.x, c.args.y) ∷ is) c.clear.ensures in (
      refl,
      (
        settled.series,
        settled.firsts,
        halfway_start _ _ _ _ _ _ _ p.item.1 (inr p.coded) p.y_bound p.y_in_bounds settled.firsts alone,
      ),
    )

pub returns : goal.returns
returns c =
    let v = c.loop-stack.invariant.1 in
    halfway_done _ _ _ _ _ v.0 _ _ _ v.1 (omega (arith, c.height.ensures, c.loop-stack-test.false)) v.2
