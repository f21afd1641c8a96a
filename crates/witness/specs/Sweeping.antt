-- The sweeps over all items, by their weight and their place. Assumes nothing: these are definitions.
use Rattle.std.specs.Prelude.{Bool, true, false, ◌⊎◌, ◌≡◌, List, ℕ, ◌-◌, ◌≤◌, ◌<◌, min, length}
use Rattle.tables.specs.Rules.{place}
use Rattle.derivations.specs.Derivations.{Attained}
use Rattle.derivations.specs.Ways.{World, parts_in, weight_in, whole}
use Rattle.witness.specs.Choices.{needed, marked, choice_at, cells, Coded, Item, Settled}
use Rattle.witness.specs.Marking.{Closed, Keeps}

-- where the choice of an item and its count stand; and all items stand before this place
abbrev pub place_of : World → ℕ → ℕ → ℕ
place_of w x y = place w.count (x - 1) y

abbrev pub swept : World → ℕ
swept w = min (cells w) (length w.counts)

module _ (w : World) (k p : ℕ) where
  -- The sweep goes down and stands behind the places before p, at the weight k: the item is yet to come.
  abbrev pub Below : ℕ → ℕ → Type 0
  Below a b = (weight_in w a b < k) ⊎ ((weight_in w a b ≡ k) × (place_of w a b < p))

  -- and where it goes up, and stands at the place p
  abbrev pub Above : ℕ → ℕ → Type 0
  Above a b = (k < weight_in w a b) ⊎ ((weight_in w a b ≡ k) × (p ≤ place_of w a b))

  module _ (choices : List ℕ) where
    -- an item while items are marked
    pub data MarkState (a b : ℕ) : Type 0 where
      unwanted : choice_at w.count choices a b ≡ 0 → MarkState a b
      pending : choice_at w.count choices a b ≡ needed → Below a b → MarkState a b
      closed : choice_at w.count choices a b ≡ marked → Closed w (choice_at w.count choices) a b → MarkState a b

    -- an item while items are chosen
    pub data ChoiceState (a b : ℕ) : Type 0 where
      untouched : choice_at w.count choices a b ≡ 0 → ChoiceState a b
      ahead : choice_at w.count choices a b ≡ marked → Closed w (choice_at w.count choices) a b → Above a b → ChoiceState a b
      settled : Coded (choice_at w.count choices a b) → Settled w (choice_at w.count choices) a b → ChoiceState a b

    -- All items that are needed are yet to come, and the target's item is one, and is wanted.
    pub record Marking : Type 0 where
      pub states : (a b : ℕ) → Item w a b → MarkState a b
      pub item : 1 ≤ weight_in w (whole w) 0
      pub root : 1 ≤ choice_at w.count choices (whole w) 0

    -- All items that are marked are yet to come, and the target's item is one, and is wanted.
    pub record Choosing : Type 0 where
      pub states : (a b : ℕ) → Item w a b → ChoiceState a b
      pub item : 1 ≤ weight_in w (whole w) 0
      pub root : 1 ≤ choice_at w.count choices (whole w) 0

-- A marking sweep has come to the weight k and the place p.
pub record MarksTo (w : World) (k p : ℕ) (before after : List ℕ) : Type 0 where
  pub keeps : Keeps w before after
  pub marking : Marking w k p after

-- Some item that weighs at most `most` has no tight parts.
abbrev pub Stuck : World → ℕ → Type 0
Stuck w most = (n : ℕ) → most ≤ n → Attained (parts_in w) (weight_in w) n → ⊥

-- A choosing sweep has come to the weight k and the place p; or it is stuck.
abbrev pub ChoosingOr : World → ℕ → ℕ → ℕ → Bool → List ℕ → Type 0
ChoosingOr w most k p true after = Choosing w k p after
ChoosingOr w most k p false after = Stuck w most

pub record ChoosesTo (w : World) (most k p : ℕ) (before : List ℕ) (r : Bool) (after : List ℕ) : Type 0 where
  pub keeps : Keeps w before after
  pub choosing : ChoosingOr w most k p r after
