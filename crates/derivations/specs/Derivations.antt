-- The first series of an item, from what its parts are in each way and what each item weighs. Items are pairs of numbers, and those with a first
-- number of 0 are factors; which other items there are, and which parts they have, is left open here. Assumes nothing: these are definitions.
use Rattle.std.specs.Prelude.{◌≡◌, List, [], ◌∷◌, ◌++◌, ℕ, ◌+◌, ◌≤◌, ◌<◌}
use Rattle.products.proofs.Order.{NoLater}
use Rattle.derivations.specs.declared.Parts.{Parts}
use Rattle.derivations.specs.declared.Parts.TheVariants.{One, Two, Nothing}

-- An item is decided by its first way of this kind: its parts are one item, or, at first number 1, begin with a factor, and later ways with a greater.
abbrev pub Alone : ℕ → Parts → Type 0
Alone x (One a b) = Unit {0}
Alone x (Two a b c d) = x ≡ 1
Alone x Nothing = ⊥

module _ (weight : ℕ → ℕ → ℕ) where
  -- The parts weigh what the item weighs, each 1 or more; and one alone has a lower first number, so that nothing goes round in a circle.
  abbrev pub Tight : ℕ → ℕ → Parts → Type 0
  Tight x y (One a b) = (a < x) × (1 ≤ weight a b) × (weight a b ≡ weight x y)
  Tight x y (Two a b c d) = (1 ≤ weight a b) × (1 ≤ weight c d) × (weight a b + weight c d ≡ weight x y)
  Tight x y Nothing = ⊥

module _ (parts : ℕ → ℕ → ℕ → Parts) (weight : ℕ → ℕ → ℕ) where
  -- a way whose parts are tight, and no way before it decides
  pub record Candidate (x y d : ℕ) : Type 0 where
    pub tight : Tight weight x y (parts x y d)
    pub undecided : (e : ℕ) → e < d → Tight weight x y (parts x y e) → Alone x (parts x y e) → ⊥

  mutual
    -- A factor's series is itself; another item's is that of its parts in a candidate, no later than that of its parts in any candidate.
    pub data Firsts : ℕ → ℕ → List ℕ → Type 0 where
      factor : {j : ℕ} → weight 0 j ≡ 1 → Firsts 0 j (j ∷ [])
      chosen : {x y : ℕ} {r : List ℕ} (d : ℕ) → 1 ≤ x → Candidate x y d → Joins (parts x y d) r
          → (others : (e : ℕ) → Candidate x y e → List ℕ) → ((e : ℕ) (c : Candidate x y e) → Joins (parts x y e) (others e c))
          → ((e : ℕ) (c : Candidate x y e) → NoLater r (others e c)) → Firsts x y r

    -- the first series of parts, one behind the other
    pub data Joins : Parts → List ℕ → Type 0 where
      one : {a b : ℕ} {r : List ℕ} → Firsts a b r → Joins (One a b) r
      two : {a b c d : ℕ} {r s : List ℕ} → Firsts a b r → Firsts c d s → Joins (Two a b c d) (r ++ s)

  -- Every item that weighs between 1 and n is a factor or has tight parts in some way.
  abbrev pub Attained : ℕ → Type 0
  Attained n = (x y : ℕ) → 1 ≤ x → 1 ≤ weight x y → weight x y ≤ n → (d : ℕ) × Tight weight x y (parts x y d)
