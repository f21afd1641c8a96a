-- What follows from a pass in which place after place is used. Assumes nothing.
use mathlib.Core.Path.{◌≡◌, ap, ◌∙◌}
use mathlib.Core.List.{List}
use Prim.Native.Nat.{ℕ, ◌≤◌, ◌<◌}
use native.Mathlib.Nat.{le_refl}
use native.Mathlib.Decide.{dec_lt}
use native.Mathlib.Omega.{arith}
use Rattle.levels.specs.Levels.{entry, Rules}
use Rattle.levels.specs.Passes.{Bounded}
use Rattle.levels.proofs.Closing.{use_falls, use_clears, use_bounded}
use Rattle.tables.specs.Levelling.{Passes, begin, visit}
use Rattle.tables.specs.Closing.{Used, used, skipped}
use Rattle.tables.proofs.Visiting.{passes_falls}

module _ {Rule : Rules} where
  pub used_bounded : {n N : ℕ} (z : ℕ) (t t' : List ℕ) → Used Rule z t t' → Bounded n N t → Bounded n N t'
  used_bounded z t t' (used fresh run) bounded = use_bounded t fresh run bounded
  used_bounded z t t' (skipped other same) bounded = rw same bounded

  pub used_falls : (z : ℕ) (t t' : List ℕ) → Used Rule z t t' → (p : ℕ) → entry t' p ≤ entry t p
  used_falls z t t' (used fresh run) p = use_falls t fresh run p
  used_falls z t t' (skipped other same) p = rw same (le_refl _)

  used_clears : (z : ℕ) (t t' : List ℕ) → Used Rule z t t' → entry t z ≤ 1 → entry t' z ≡ 0
  used_clears z t t' (used fresh run) small = use_clears t fresh run
  used_clears z t t' (skipped other same) small = rw same (omega arith)

  -- a place that was led to when the pass began is used when the pass has come by
  pub passes_clear : {z : ℕ} {t t' : List ℕ} → Passes (Used Rule) z t t' → (p : ℕ) → p < z → entry t p ≤ 1 → entry t' p ≡ 0
  passes_clear begin p inside small = absurd (omega arith)
  passes_clear (visit {z} {t} {t'} {t''} run last) p inside small =
      elim (dec_lt p z) [
        | yes earlier ↦ omega (arith, passes_clear run p earlier small, used_falls z t' t'' last p)
        | no now ↦
            let here : p ≡ z = omega arith in
            ap (entry t'') here ∙ used_clears z t' t'' last (omega (arith, passes_falls used_falls run p, ap (entry t') here))
      ]
