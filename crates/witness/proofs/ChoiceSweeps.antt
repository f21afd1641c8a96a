-- A sweep that chooses goes up through the weights, and through the places of each.
--     due_item, due_marked             the place at which it stands: an item is due
--     chooses_then, chooses_stops      one call after the other, until the sweep stops
--     weight_leaves                    one weight after the other
-- Assumes nothing.
use mathlib.Core.Logic.{inl, inr}
use mathlib.Core.Bool.{Bool, true, false}
use mathlib.Core.Path.{◌≡◌, ap, subst, ◌∙◌}
use mathlib.Core.List.{List}
use Prim.Native.Nat.{ℕ, ◌+◌, ◌≤◌, ◌<◌}
use native.Mathlib.Decide.{dec_lt}
use native.Mathlib.Omega.{arith}
use Rattle.trees.specs.Tree.{at}
use Rattle.derivations.specs.Ways.{World, weight_in}
use Rattle.witness.specs.Choices.{marked, choice_at, Item, Small}
use Rattle.witness.specs.Due.{DueAt, StandsAt}
use Rattle.witness.specs.Sweeping.{swept, Above}
use Rattle.witness.specs.Sweeping.{Choosing, Stuck, ChoosingOr, ChoosesTo}
use Rattle.witness.proofs.Places.{item_swept, stands_item, keeps_then}
use Rattle.witness.proofs.ItemChoices.{choosing_moves}

module _ (w : World) where
  -- ---- where the sweep stands

  -- what is due there is an item of that weight, and marked
  module _ (choices : List ℕ) (k p x y : ℕ) (stands : StandsAt w.count p x y) (due : DueAt marked k choices w.counts p) where
    pub due_item : Small w choices → 1 ≤ k → p < swept w → Item w x y × (weight_in w x y ≡ k)
    due_item small some inside = stands_item w k p x y small some (omega arith) stands due.1

    pub due_marked : choice_at w.count choices x y ≡ marked
    due_marked = ap (at choices) stands.is ∙ due.0

  -- where the sweep stands at the first place, all that weighs no less is ahead
  above_first : (k a b : ℕ) → k ≤ weight_in w a b → Above w k 0 a b
  above_first k a b heavy = elim (dec_lt k (weight_in w a b)) [ yes heavier ↦ inl heavier | no same ↦ inr (omega arith, omega arith) ]

  -- ---- where the sweep begins

  -- ---- one call after the other

  stuck_more : (k m : ℕ) → k ≤ m → Stuck w k → Stuck w m
  stuck_more k m more stuck = λ n within attained. stuck n (omega arith) attained

  -- the sweep goes on, or stops
  module _ {most k p k' p' few : ℕ} {before between after : List ℕ} (r : Bool) (so_far : ChoosesTo w most k p before true between)
      (next : ChoosesTo w few k' p' between r after) where
    pub chooses_then : r ≡ true → ChoosesTo w most k' p' before true after
    chooses_then goes_on =
        record {
          keeps = keeps_then w so_far.keeps next.keeps;
          choosing = subst (λ (b : Bool). ChoosingOr w few k' p' b after) goes_on next.choosing;
        }

    pub chooses_stops : (k'' p'' : ℕ) → r ≡ false → few ≤ most → ChoosesTo w most k'' p'' before false after
    chooses_stops k'' p'' stops within =
        record {
          keeps = keeps_then w so_far.keeps next.keeps;
          choosing = stuck_more few most within (subst (λ (b : Bool). ChoosingOr w few k' p' b after) stops next.choosing);
        }

  -- ---- one weight after the other

  -- no item stands behind the last place
  pub weight_leaves : {choices : List ℕ} (k : ℕ) → Choosing w k (swept w) choices → Choosing w (k + 1) 0 choices
  weight_leaves {choices} k choosing = choosing_moves w (k + 1) 0 moves choosing
    where
      moves : (a b : ℕ) → Item w a b → choice_at w.count choices a b ≡ marked → Above w k (swept w) a b → Above w (k + 1) 0 a b
      moves a b item is (inl heavier) = above_first (k + 1) a b (omega arith)
      moves a b item is (inr (same, behind)) = absurd (omega (arith, item_swept w a b item))
