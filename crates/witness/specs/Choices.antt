-- The table of choices. It has the layout of the counts: item (p + 1, y) has its choice at p * count + y. An entry is 0 where the item is not needed,
-- `needed` or `marked` while it is to be chosen, and else d + 1 where the way d is chosen. Assumes nothing: these are definitions.
use Rattle.std.specs.Prelude.{Bool, true, false, ◌⊎◌, ◌≡◌, List, ℕ, suc, ◌-◌, ◌*◌, ◌≤◌, ◌<◌, length, set}
use Rattle.limits.specs.Limits.{most_letters, most_states}
use Rattle.trees.specs.Tree.{at}
use Rattle.tables.specs.Rules.{place}
use Rattle.derivations.specs.Derivations.{Tight, Candidate, Firsts, Joins}
use Rattle.derivations.specs.Ways.{World, parts_in, weight_in, highest}
use Rattle.derivations.specs.declared.Parts.{Parts}
use Rattle.derivations.specs.declared.Parts.TheVariants.{One, Two, Nothing}

abbrev pub needed : ℕ
needed = 65535

abbrev pub marked : ℕ
marked = 65534

-- the choice of an item that is no factor
abbrev pub choice_at : ℕ → List ℕ → ℕ → ℕ → ℕ
choice_at count choices x y = at choices (place count (x - 1) y)

-- a way is chosen
abbrev pub Coded : ℕ → Type 0
Coded c = (1 ≤ c) × (c < marked)

-- how many entries the counts and the choices have
abbrev pub cells : World → ℕ
cells w = highest w * w.count

-- an item that is no factor
abbrev pub Item : World → ℕ → ℕ → Type 0
Item w x y = (1 ≤ x) × (1 ≤ weight_in w x y)

-- Some nodes, and no more than a list has; a target that question 8 lets pass; generators whose numbers fit in bytes; and a choice for each item.
pub record Small (w : World) (choices : List ℕ) : Type 0 where
  pub some : 1 ≤ w.count
  pub few : w.count ≤ most_states
  pub short : length w.target ≤ most_letters
  pub numbers : length w.wholes ≤ 256
  pub room : cells w ≤ length choices

module _ (w : World) (choice : ℕ → ℕ → ℕ) where
  -- The series of an item can be spelled: it is a factor, or a way is chosen.
  abbrev pub Done : ℕ → ℕ → Type 0
  Done x y = (x ≡ 0) ⊎ Coded (choice x y)

  abbrev pub PartsDone : Parts → Type 0
  PartsDone (One a b) = Done a b
  PartsDone (Two a b c d) = Done a b × Done c d
  PartsDone Nothing = ⊥

  -- The way that is chosen spells the first series of the item, and can be spelled.
  pub record Settled (x y : ℕ) : Type 0 where
    pub way : ℕ
    pub is : choice x y ≡ suc way
    pub tight : Tight (weight_in w) x y (parts_in w x y way)
    pub done : PartsDone (parts_in w x y way)
    pub series : List ℕ
    pub firsts : Firsts (parts_in w) (weight_in w) x y series
    pub joins : Joins (parts_in w) (weight_in w) (parts_in w x y way) series

  -- every way that is chosen
  abbrev pub AllSettled : Type 0
  AllSettled = (x y : ℕ) → Item w x y → Coded (choice x y) → Settled x y

  -- the parts of every candidate can be spelled
  abbrev pub CandidatesDone : ℕ → ℕ → Type 0
  CandidatesDone x y = (d : ℕ) → Candidate (parts_in w) (weight_in w) x y d → PartsDone (parts_in w x y d)

-- A way is chosen that spells the first series of the item.
pub record Chosen (w : World) (x y : ℕ) (before after : List ℕ) : Type 0 where
  pub way : ℕ
  pub few : suc way < marked
  pub written : after ≡ set before (place w.count (x - 1) y) (suc way)
  pub candidate : Candidate (parts_in w) (weight_in w) x y way
  pub series : List ℕ
  pub firsts : Firsts (parts_in w) (weight_in w) x y series
  pub joins : Joins (parts_in w) (weight_in w) (parts_in w x y way) series

-- A way is chosen, or no way is tight and nothing changes.
abbrev pub Chooses : World → ℕ → ℕ → List ℕ → Bool → List ℕ → Type 0
Chooses w x y before true after = Chosen w x y before after
Chooses w x y before false after = ((d : ℕ) → Tight (weight_in w) x y (parts_in w x y d) → ⊥) × (after ≡ before)
