-- There is room, and the target's item weighs enough and not too much; else there is no series. Assumes nothing.
use mathlib.Core.Path.{◌≡◌, sym, subst}
use Prim.Native.Nat.{ℕ}
use Rattle.refusals.proofs.Telling.{told}
use Rattle.derivations.specs.Ways.{world_of, weight_in, whole}
use Rattle.witness.specs.Witness.{Fits}
use Rattle.witness.proofs.Results.{room_fits, fits_less, writes_unfit, writes_more}
use native.Mathlib.Omega.{arith}
use Rattle.witness.proofs.first_series.Goals.{else-k-gt0-via-then-k-gt0+else-k-n, else-k-gt0-via-else-k-gt0, After-weight-k, Start}
use Rattle.witness.proofs.first_series.Goals as goal

fits : (c : After-weight-k) → (Fits (world_of c.args.setting.now) c.args.n.0 c.args.choices.now c.args.witness.now)
fits c = room_fits (world_of c.args.setting.now) (told c.has_room.result c.if-has_room.true c.has_room.ensures)

-- what was weighed is the target's item
here : (c : After-weight-k) → weight_in (world_of c.args.setting.now) c.whole-x.result 0 ≡ c.weight-k.result
here c = subst (λ (weighs : ℕ → ℕ → ℕ). weighs c.whole-x.result 0 ≡ c.weight-k.result) c.of.ensures (sym c.weight-k.ensures.0)

weighs : (c : After-weight-k) → weight_in (world_of c.args.setting.now) (whole (world_of c.args.setting.now)) 0 ≡ c.weight-k.result
weighs c =
    subst (λ (m : ℕ). weight_in (world_of c.args.setting.now) m 0 ≡ c.weight-k.result) c.whole-x.ensures (here c)

pub write-requires : goal.write-requires
write-requires c =
    let k = c.weight-k.result in record {
      fits = fits_less (world_of c.args.setting.now) k c.args.n.0 (omega (arith, c.if-k-n.true)) (fits (goal.at.write-requires c).After-weight-k) (weighs (goal.at.write-requires c).After-weight-k);
      x_value = c.whole-x.ensures;
      le_k = (omega (arith, c.if-k-gt0.true), here (goal.at.write-requires c).After-weight-k);
    }

pub returns-then-k-n : goal.returns-then-k-n
returns-then-k-n c =
    writes_more (world_of c.args.setting.now) c.weight-k.result c.args.n.0 (omega (arith, c.if-k-n.true)) (fits (goal.at.returns-then-k-n c).After-weight-k)
    (weighs (goal.at.returns-then-k-n c).After-weight-k) _ _ c.write.result c.write.ensures

pub returns-else-k-gt0 : goal.returns-else-k-gt0
returns-else-k-gt0 c =
    let w = world_of c.args.setting.now in
    let is = weighs (goal.at.returns-else-k-gt0 c).After-weight-k in
    elim c.else-k-gt0.branch [
      | else-k-gt0-via-then-k-gt0+else-k-n b ↦ writes_unfit w c.args.n.0 _ (λ _ derivable. omega (arith, derivable.within, is, b.if-k-n.false))
      | else-k-gt0-via-else-k-gt0 b ↦ writes_unfit w c.args.n.0 _ (λ _ derivable. omega (arith, derivable.some, is, b.if-k-gt0.false))
    ]
