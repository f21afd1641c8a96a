-- Stacks of items that are still to be spelled. Assumes nothing: these are definitions.
use Rattle.std.specs.Prelude.{◌≡◌, List, [], ◌∷◌, ◌++◌, ℕ, zero, suc, ◌+◌, ◌*◌, ◌≤◌, ◌<◌}
use Rattle.limits.specs.Limits.{most_factors}
use Rattle.trees.specs.Tree.{at, most_of_entry}
use Rattle.derivations.specs.Derivations.{Firsts}
use Rattle.derivations.specs.Ways.{World, parts_in, weight_in, highest}
use Rattle.derivations.proofs.Steps.{steps}
use Rattle.derivations.specs.declared.Parts.{Parts}
use Rattle.derivations.specs.declared.Parts.TheVariants.{One, Two, Nothing}
use Rattle.witness.specs.Choices.{Done}

-- the items of a stack of that height, from the top down; and those of parts
abbrev pub stacked : List ℕ → List ℕ → ℕ → List (ℕ × ℕ)
stacked xs ys zero = []
stacked xs ys (suc h) = (at xs h, at ys h) ∷ stacked xs ys h

abbrev pub items_of : Parts → List (ℕ × ℕ)
items_of (One a b) = (a, b) ∷ []
items_of (Two a b c d) = (a, b) ∷ (c, d) ∷ []
items_of Nothing = []

-- their numbers fit in entries
abbrev pub Entries : List (ℕ × ℕ) → Type 0
Entries [] = Unit {0}
Entries (i ∷ is) = (i.0 ≤ most_of_entry) × (i.1 ≤ most_of_entry) × Entries is

module _ (w : World) where
  -- what items weigh together, and what their spelling is still to cost: a number that falls where an item is taken apart
  abbrev pub weight_of : List (ℕ × ℕ) → ℕ
  weight_of [] = 0
  weight_of (i ∷ is) = weight_in w i.0 i.1 + weight_of is

  abbrev pub steps_left : List (ℕ × ℕ) → ℕ
  steps_left [] = 0
  steps_left (i ∷ is) = steps (2 * suc (highest w)) (weight_in w i.0 i.1) i.0 + steps_left is

  -- the first series of items, one behind the other
  pub data Spelled : List (ℕ × ℕ) → List ℕ → Type 0 where
    none : Spelled [] []
    more : {x y : ℕ} {is : List (ℕ × ℕ)} {r s : List ℕ} → Firsts (parts_in w) (weight_in w) x y r → Spelled is s → Spelled ((x, y) ∷ is) (r ++ s)

module _ (w : World) (choice : ℕ → ℕ → ℕ) where
  -- each weighs 1 or more, and can be spelled
  abbrev pub Ready : List (ℕ × ℕ) → Type 0
  Ready [] = Unit {0}
  Ready (i ∷ is) = (1 ≤ weight_in w i.0 i.1) × Done w choice i.0 i.1 × Ready is

  -- A stack of such items, with no more factors to spell than there can be.
  pub record Standing (is : List (ℕ × ℕ)) : Type 0 where
    pub ready : Ready is
    pub light : weight_of w is ≤ most_factors

  -- The item on top gave way to its parts: the stack spells what it spelled, weighs what it weighed, and costs less.
  pub record TakenApart (is is₁ : List (ℕ × ℕ)) : Type 0 where
    pub standing : Standing is₁
    pub weighs : weight_of w is₁ ≡ weight_of w is
    pub spells : (r : List ℕ) → Spelled w is r → Spelled w is₁ r
    pub falls : steps_left w is₁ < steps_left w is
