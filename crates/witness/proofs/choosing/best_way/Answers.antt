-- The ways are looked through, until one decides or there are no more. Assumes nothing.
use mathlib.Core.Path.{◌≡◌, subst}
use native.Mathlib.Omega.{arith}
use Rattle.derivations.specs.Ways.{world_of}
use Rattle.witness.specs.Choosing.{BestBelow}
use Rattle.witness.proofs.Best.{looked_through}
use Rattle.witness.proofs.choosing.best_way.Goals as goal

pub loop-d-init : goal.loop-d-init
loop-d-init c = ((λ e l. absurd (omega arith)), (λ e l. absurd (omega arith)))

pub returns : goal.returns
returns c =
    let l = c.loop-d in
    let a = c.args in
    let all : l.d ≡ c.ways-many.result = omega arith in
    looked_through c.requires _ c.ways-many.ensures l.best
    (subst (BestBelow (world_of a.setting.now) a.x a.y l.best) all l.invariant.0)
