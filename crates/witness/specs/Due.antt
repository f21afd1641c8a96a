-- What is due in a sweep, at the plain places of the choices and the counts, which have one layout; and the item at a place.
-- Assumes nothing: these are definitions.
use Rattle.std.specs.Prelude.{◌≡◌, List, ℕ, ◌-◌, ◌≤◌, ◌<◌}
use Rattle.trees.specs.Tree.{at}
use Rattle.tables.specs.Rules.{place}

-- the choice is in that state, and the weight is k
abbrev pub Due : ℕ → ℕ → ℕ → ℕ → Type 0
Due state k choice weight = (choice ≡ state) × (weight ≡ k)

module _ (state k : ℕ) (choices counts : List ℕ) where
  abbrev pub DueAt : ℕ → Type 0
  DueAt p = Due state k (at choices p) (at counts p)

  -- at some place from `from` up to `end`
  abbrev pub SomeDue : ℕ → ℕ → Type 0
  SomeDue from end = (p : ℕ) × (from ≤ p) × (p < end) × DueAt p

-- the item (x, y) stands at the place p
pub record StandsAt (count p x y : ℕ) : Type 0 where
  pub some : 1 ≤ x
  pub column : y < count
  pub is : place count (x - 1) y ≡ p
