-- A way that is tight is a candidate, since none before it decides. Assumes nothing.
use mathlib.Core.Path.{subst}
use Prim.Native.Nat.{ℕ}
use Rattle.refusals.specs.Telling.{Tells}
use Rattle.refusals.proofs.Telling.{told_not}
use Rattle.derivations.specs.Derivations.{Tight}
use Rattle.derivations.specs.Ways.{world_of, weight_in}
use Rattle.witness.proofs.Best.{tried_loose}
use Rattle.witness.proofs.choosing.try_way.Goals.{After-is_tight}
use Rattle.witness.proofs.choosing.try_way.Goals as goal

tells : (c : After-is_tight) → Tells c.is_tight.result (Tight (weight_in (world_of c.args.setting.now)) c.args.x c.args.y c.parts-p.result)
tells c =
    subst (λ (weight : ℕ → ℕ → ℕ). Tells c.is_tight.result (Tight weight c.args.x c.args.y c.parts-p.result)) c.of.ensures c.is_tight.ensures

pub returns : goal.returns
returns c =
    let loose = told_not _ c.if-is_tight.false (tells (goal.at.returns c).After-is_tight) in
    tried_loose c.requires.choosable _ _ c.parts-p.ensures loose _ c.requires.best_below
