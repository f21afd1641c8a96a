-- Which rules each function relaxes at a pair of nodes (x, y), whose entry is the level. Assumes nothing: these are definitions.
use Rattle.std.specs.Prelude.{◌⊎◌, List, ℕ, ◌*◌, ◌≤◌, ◌<◌}
use Rattle.limits.specs.Limits.{most_factors}
use Rattle.trees.specs.Tree.{most_of_entry}
use Rattle.levels.specs.Levels.{Uses}
use Rattle.levels.specs.Passes.{Only, Upto, Bounded}
use Rattle.tables.specs.Rules.{place}
use Rattle.tables.specs.Nodes.{Front}

-- A table with a row and a column for each of `count` nodes, at a level. All sums of a level and an entry fit 16 bits.
pub record Ready (count k : ℕ) (t : List ℕ) : Type 0 where
  pub few : count ≤ most_of_entry
  pub positive : 1 ≤ k
  pub small : k ≤ most_factors
  pub bounded : Bounded most_factors (count * count) t

module _ (count : ℕ) where
  -- the conclusion (a, b) of a rule with one premise
  abbrev pub One : ℕ → ℕ → Uses
  One a b = Only (count * count) (place count a b)

  -- a is Q's by way of a node of which P is true
  abbrev pub Through : (ℕ → Type 0) → (ℕ → ℕ → Type 0) → ℕ → Type 0
  Through P Q a = (m : ℕ) × (m < count) × P m × Q m a

  -- what two numbers use where both are nodes
  abbrev pub Inside : ℕ → ℕ → (ℕ → ℕ → Uses) → Uses
  Inside a b Y q c = (a < count) × (b < count) × Y a b q c

  -- what the nodes a of which P is true and the nodes b of which Q is true use together
  abbrev pub Joins : (ℕ → Type 0) → (ℕ → Type 0) → (ℕ → ℕ → Uses) → Uses
  Joins P Q Y q c = (a : ℕ) × (b : ℕ) × (a < count) × (b < count) × P a × Q b × Y a b q c

  -- F with (x, y) first: (x, j) from (y, j). F with (x, y) second: (i, y) from (i, x).
  abbrev pub RowTurn : ℕ → ℕ → ℕ → Uses
  RowTurn x y j = Only (place count y j) (place count x j)

  abbrev pub ColumnTurn : ℕ → ℕ → ℕ → Uses
  ColumnTurn x y i = Only (place count i x) (place count i y)

  abbrev pub UsesF : ℕ → ℕ → Uses
  UsesF x y q c = Upto (RowTurn x y) count q c ⊎ Upto (ColumnTurn x y) count q c

  module _ (letters rests : List ℕ) where
    -- B and G for the letter R
    abbrev pub UsesR : ℕ → ℕ → Uses
    UsesR x y q c =
        Joins (λ a. Front count letters rests 82 a x) (λ b. Front count letters rests 82 y b) One q c
        ⊎ Joins (λ a. Front count letters rests 82 a x) (λ b. Front count letters rests 82 b y) One q c

    -- C and D: two S's in front of x, or two fewer of y
    abbrev pub UsesTwoS : ℕ → ℕ → Uses
    UsesTwoS x y q c =
        Joins (Through (λ m. Front count letters rests 83 m x) (λ m a. Front count letters rests 83 a m)) (λ b. Front count letters rests 83 y b) One q c
        ⊎ Joins (λ a. Front count letters rests 83 a x) (Through (λ m. Front count letters rests 83 y m) (λ m b. Front count letters rests 83 m b)) One q c

    -- C, D, and G for the letter S
    abbrev pub UsesS : ℕ → ℕ → Uses
    UsesS x y q c = UsesTwoS x y q c ⊎ Joins (λ a. Front count letters rests 83 a x) (λ b. Front count letters rests 83 b y) One q c

    -- E, where a is S in front of x and y is S in front of v. For each b that is S in front of some t: with (x, y) first, (a, t) from (v, b);
    -- with (x, y) second, (b, v) from (t, a).
    abbrev pub TripleTurn : ℕ → ℕ → ℕ → Uses
    TripleTurn a v b q c =
        (t : ℕ) × (t < count) × Front count letters rests 83 b t
        × (Only (place count v b) (place count a t) q c ⊎ Only (place count t a) (place count b v) q c)

    abbrev pub Triples : ℕ → ℕ → Uses
    Triples a v = Upto (TripleTurn a v) count

    abbrev pub UsesE : ℕ → ℕ → Uses
    UsesE x y = Joins (λ a. Front count letters rests 83 a x) (λ v. Front count letters rests 83 y v) Triples
