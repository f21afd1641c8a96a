-- Tight parts are lower than their item, and so come before it where a sweep goes up. Assumes nothing.
use mathlib.Core.Logic.{inl, inr}
use mathlib.Core.Path.{◌≡◌}
use Prim.Native.Nat.{ℕ, ◌≤◌}
use native.Mathlib.Omega.{arith}
use Rattle.derivations.specs.Derivations.{Tight}
use Rattle.derivations.specs.Ways.{World, weight_in}
use Rattle.derivations.specs.declared.Parts.{Parts}
use Rattle.derivations.specs.declared.Parts.TheVariants.{One, Two, Nothing}
use Rattle.witness.specs.Choices.{Item}
use Rattle.witness.specs.Marking.{Lower}
use Rattle.witness.specs.Sweeping.{place_of, Below, Above}
use Rattle.witness.proofs.Places.{lower_place}

module _ (w : World) (x y : ℕ) where
  -- what is asked of each part: if it is no factor, it is an item, and lower
  abbrev pub PartLower : ℕ → ℕ → Type 0
  PartLower a b = 1 ≤ a → Item w a b × Lower w x y a b

  abbrev pub PartsLower : Parts → Type 0
  PartsLower (One a b) = PartLower a b
  PartsLower (Two a b c d) = PartLower a b × PartLower c d
  PartsLower Nothing = ⊥

  pub tight_lower : (ps : Parts) → Tight (weight_in w) x y ps → PartsLower ps
  tight_lower (One a b) t = λ first. ((first, t.1), inr (t.2, t.0))
  tight_lower (Two a b c d) t =
      let s = t.0 in
      let u = t.1 in
      let sum = t.2 in (λ first. ((first, s), inl (omega arith)), λ first. ((first, u), inl (omega arith)))
  tight_lower Nothing t = absurd t

  -- what is lower than an item is yet to come where a sweep goes down, and is not where it goes up
  pub lower_below : (k a b : ℕ) → Item w a b → weight_in w x y ≡ k → Lower w x y a b → Below w k (place_of w x y) a b
  lower_below k a b item weighs (inl lighter) = inl (omega arith)
  lower_below k a b item weighs (inr (same, first)) = inr (omega arith, lower_place w x y a b first item)

  pub lower_not_above : (k a b : ℕ) → Item w a b → weight_in w x y ≡ k → Lower w x y a b → Above w k (place_of w x y) a b → ⊥
  lower_not_above k a b item weighs (inl lighter) (inl heavier) = omega arith
  lower_not_above k a b item weighs (inl lighter) (inr (same, behind)) = omega arith
  lower_not_above k a b item weighs (inr (same, first)) (inl heavier) = omega arith
  lower_not_above k a b item weighs (inr (same, first)) (inr (same', behind)) = omega (arith, lower_place w x y a b first item)
