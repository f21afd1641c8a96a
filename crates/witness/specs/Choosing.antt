-- What is kept while the ways of an item are looked through. Assumes nothing: these are definitions.
use Rattle.std.specs.Prelude.{Bool, Option, None, Some, List, ℕ, suc, ◌≤◌, ◌<◌}
use Rattle.std.specs.declared.ops.ControlFlow.{ControlFlow}
use Rattle.std.specs.declared.ops.ControlFlow.TheVariants.{Continue, Break}
use Rattle.limits.specs.Limits.{most_factors}
use Rattle.refusals.specs.Telling.{Tells}
use Rattle.products.specs.Product.{Before}
use Rattle.products.proofs.Order.{NoLater}
use Rattle.derivations.specs.Derivations.{Alone, Tight, Candidate, Joins}
use Rattle.derivations.specs.Ways.{World, parts_in, weight_in}
use Rattle.witness.specs.Choices.{choice_at, marked, Item, Small, AllSettled, CandidatesDone}

-- A way can be chosen for the item: what `choose` asks for.
pub record Choosable (w : World) (choices : List ℕ) (x y : ℕ) : Type 0 where
  pub small : Small w choices
  pub item : Item w x y
  pub light : weight_in w x y ≤ most_factors
  pub settled : AllSettled w (choice_at w.count choices)
  pub done : CandidatesDone w (choice_at w.count choices) x y

module _ (w : World) (x y : ℕ) where
  -- Are the parts in the way d spelled before those in the way e?
  abbrev pub TellsBefore : ℕ → ℕ → Bool → Type 0
  TellsBefore d e b =
      (r s : List ℕ) → Joins (parts_in w) (weight_in w) (parts_in w x y d) r → Joins (parts_in w) (weight_in w) (parts_in w x y e) s → Tells b (Before r s)

  -- A candidate below d that is no later than any other.
  pub record Leads (b d : ℕ) : Type 0 where
    pub below : b < d
    pub candidate : Candidate (parts_in w) (weight_in w) x y b
    pub series : List ℕ
    pub joins : Joins (parts_in w) (weight_in w) (parts_in w x y b) series
    pub first : (e : ℕ) → e < d → Candidate (parts_in w) (weight_in w) x y e
        → (s : List ℕ) × Joins (parts_in w) (weight_in w) (parts_in w x y e) s × NoLater series s

  -- the best way below d; or none, and no way below d is tight
  abbrev pub BestBelow : Option ℕ → ℕ → Type 0
  BestBelow None d = (e : ℕ) → e < d → Tight (weight_in w) x y (parts_in w x y e) → ⊥
  BestBelow (Some b) d = Leads b d

  -- no way below d decides
  abbrev pub Undecided : ℕ → Type 0
  Undecided d = (e : ℕ) → e < d → Tight (weight_in w) x y (parts_in w x y e) → Alone x (parts_in w x y e) → ⊥

  -- the way d decides: it is tight, and the item is decided by it
  abbrev pub Decides : ℕ → Type 0
  Decides d = Tight (weight_in w) x y (parts_in w x y d) × Alone x (parts_in w x y d)

  -- The way d was tried: what is best now where it does not decide, and where it does.
  abbrev pub Tried : ℕ → ControlFlow ℕ (Option ℕ) → Type 0
  Tried d (Continue best) = BestBelow best (suc d) × (Decides d → ⊥)
  Tried d (Break b) = Leads b (suc d) × Decides d

  -- A way that is the best of all candidates.
  pub record Foremost (b : ℕ) : Type 0 where
    pub bound : ℕ
    pub leads : Leads b bound
    pub all : (e : ℕ) → Candidate (parts_in w) (weight_in w) x y e → e < bound
    pub few : suc b < marked

  -- the best way of all; or none, and no way is tight
  abbrev pub BestOfAll : Option ℕ → Type 0
  BestOfAll None = (d : ℕ) → Tight (weight_in w) x y (parts_in w x y d) → ⊥
  BestOfAll (Some b) = Foremost b
