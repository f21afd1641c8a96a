-- Which items are needed: the parts of a needed item's candidates. Assumes nothing: these are definitions.
use Rattle.std.specs.Prelude.{Bool, true, ◌⊎◌, ◌≡◌, List, ℕ, ◌-◌, ◌≤◌, ◌<◌, eqb, length, drop, set}
use Rattle.refusals.specs.Telling.{pick}
use Rattle.tables.specs.Rules.{place}
use Rattle.derivations.specs.Derivations.{Alone, Tight, Candidate}
use Rattle.derivations.specs.Ways.{World, parts_in, weight_in}
use Rattle.derivations.specs.declared.Parts.{Parts}
use Rattle.derivations.specs.declared.Parts.TheVariants.{One, Two, Nothing}
use Rattle.witness.specs.Choices.{needed, marked, choice_at, cells, Item}

-- ---- an item and parts become needed

module _ (count : ℕ) where
  -- a factor, or an item that has its choice among so many
  abbrev pub Within : ℕ → ℕ → ℕ → Type 0
  Within room x y = 1 ≤ x → place count (x - 1) y < room

  abbrev pub PartsWithin : ℕ → Parts → Type 0
  PartsWithin room (One a b) = Within room a b
  PartsWithin room (Two a b c d) = Within room a b × Within room c d
  PartsWithin room Nothing = Unit {0}

  -- an item that is no factor becomes needed where it is not wanted yet
  abbrev pub with_need : List ℕ → ℕ → ℕ → List ℕ
  with_need choices x y =
      pick (eqb x 0) choices (pick (eqb (choice_at count choices x y) 0) (set choices (place count (x - 1) y) needed) choices)

  abbrev pub with_needs : List ℕ → Parts → List ℕ
  with_needs choices (One a b) = with_need choices a b
  with_needs choices (Two a b c d) = with_need (with_need choices a b) c d
  with_needs choices Nothing = choices

-- ---- what marking an item does

-- The item (a, b) weighs less than (x, y), or as much and has a lower first number: so do tight parts.
abbrev pub Lower : World → ℕ → ℕ → ℕ → ℕ → Type 0
Lower w x y a b = (weight_in w a b < weight_in w x y) ⊎ ((weight_in w a b ≡ weight_in w x y) × (a < x))

module _ (choice : ℕ → ℕ → ℕ) where
  -- a factor, or an item that is needed, marked or chosen
  abbrev pub Wanted : ℕ → ℕ → Type 0
  Wanted x y = (x ≡ 0) ⊎ (1 ≤ choice x y)

  abbrev pub PartsWanted : Parts → Type 0
  PartsWanted (One a b) = Wanted a b
  PartsWanted (Two a b c d) = Wanted a b × Wanted c d
  PartsWanted Nothing = ⊥

-- the parts of every candidate are wanted
abbrev pub Closed : World → (ℕ → ℕ → ℕ) → ℕ → ℕ → Type 0
Closed w choice x y = (d : ℕ) → Candidate (parts_in w) (weight_in w) x y d → PartsWanted choice (parts_in w x y d)

-- what stands behind the choices remains, and so does the length
pub record Keeps (w : World) (before after : List ℕ) : Type 0 where
  pub long : length after ≡ length before
  pub behind : drop (cells w) after ≡ drop (cells w) before

-- Items become needed that were not wanted, all of them lower than (x, y); the others remain as they were.
pub record Grows (w : World) (x y : ℕ) (before after : List ℕ) : Type 0 where
  pub keeps : Keeps w before after
  pub each : (a b : ℕ) → Item w a b
      → (choice_at w.count after a b ≡ choice_at w.count before a b)
      ⊎ ((choice_at w.count before a b ≡ 0) × (choice_at w.count after a b ≡ needed) × Lower w x y a b)

-- The parts in the way d are wanted where they are tight; `r` says that the item is decided by them.
pub record MarksWay (w : World) (x y d : ℕ) (before : List ℕ) (r : Bool) (after : List ℕ) : Type 0 where
  pub grows : Grows w x y before after
  pub wanted : Tight (weight_in w) x y (parts_in w x y d) → PartsWanted (choice_at w.count after) (parts_in w x y d)
  pub decided : r ≡ true → Tight (weight_in w) x y (parts_in w x y d) × Alone x (parts_in w x y d)

-- The item is marked, and the parts of its candidates are wanted.
pub record Marks (w : World) (x y : ℕ) (before after : List ℕ) : Type 0 where
  pub grows : Grows w x y (set before (place w.count (x - 1) y) marked) after
  pub closed : Closed w (choice_at w.count after) x y
