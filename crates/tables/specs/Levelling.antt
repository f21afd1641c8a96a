-- What a pass over the table does, and what the table of pairs is when all levels are done: numbers only.
-- Assumes nothing: these are definitions.
use Rattle.std.specs.Prelude.{◌≡◌, List, [], ◌∷◌, ℕ, ◌+◌, ◌*◌, ◌≤◌, ◌<◌, length}
use Rattle.trees.specs.Tree.{at}
use Rattle.levels.specs.Levels.{entry, Rules, Using, Relaxed, Closed}
use Rattle.levels.specs.Passes.{Bounded, Sound, Only, Upto, NoneBetween}
use Rattle.tables.specs.Rules.{place, Rule}

-- A place is visited at level k: where its entry is k, the rules that use it are relaxed; else nothing changes.
pub data Visited (Rule : Rules) (k z : ℕ) (before after : List ℕ) : Type 0 where
  relaxed : entry before z ≡ k → Relaxed k (Using Rule z) before after → Visited Rule k z before after
  skipped : (entry before z ≡ k → ⊥) → after ≡ before → Visited Rule k z before after

-- the first z places are visited, one after the other; `Visits` says what the visit of a place does
pub data Passes (Visits : ℕ → List ℕ → List ℕ → Type 0) : ℕ → List ℕ → List ℕ → Type 0 where
  begin : {t : List ℕ} → Passes Visits 0 t t
  visit : {z : ℕ} {t t' t'' : List ℕ} → Passes Visits z t t' → Visits z t' t'' → Passes Visits (z + 1) t t''

-- no place from `from` up to `end` has an entry from `low` to `high`
abbrev pub Without : ℕ → ℕ → List ℕ → ℕ → ℕ → Type 0
Without low high t from end = (p : ℕ) → p < end → from ≤ p → low ≤ entry t p → entry t p ≤ high → ⊥

-- z is the first place from `from` on with the entry k, or `last` where none before it has that entry
pub record Sought (k : ℕ) (t : List ℕ) (from last z : ℕ) : Type 0 where
  pub behind : from ≤ z
  pub inside : z ≤ last
  pub without : Without k k t from z
  pub stops : z < last → entry t z ≡ k

-- the least entry above k, or n + 1
pub record NextLevel (n : ℕ) (t : List ℕ) (k next : ℕ) : Type 0 where
  pub above : k < next
  pub bounded : next ≤ n + 1
  pub none_between : NoneBetween (length t) t k next

module _ (count : ℕ) (wholes : List ℕ) where
  -- rule A: each generator leads from nothing to its own node
  abbrev pub StartTurn : ℕ → ℕ → ℕ → Type 0
  StartTurn j = Only (count * count) (place count 0 (at wholes j))

  abbrev pub Starts : ℕ → ℕ → Type 0
  Starts = Upto StartTurn (length wholes)

module _ (count : ℕ) (letters rests wholes : List ℕ) (weight : List ℕ → ℕ) where
  -- v is made at the place z by rule A, where a generator has its weight, and the rules B to G
  pub data Made : ℕ → ℕ → Type 0 where
    whole : (j : ℕ) → j < length wholes → Made (place count 0 (at wholes j)) (weight (j ∷ []))
    one : {p q c v : ℕ} → Rule count letters rests p q c → count * count ≤ q → Made p v → Made c v
    two : {p q c v v' : ℕ} → Rule count letters rests p q c → Made p v → Made q v' → Made c (v + v')

  -- The table is full: its entries are made by the rules, and no rule makes less, up to n.
  pub record Full (n : ℕ) (t : List ℕ) : Type 0 where
    pub bounded : Bounded n (count * count) t
    pub starts : (j : ℕ) → j < length wholes → entry t (place count 0 (at wholes j)) ≤ weight (j ∷ [])
    pub closed : Closed (Rule count letters rests) n t
    pub made : Sound Made n t
