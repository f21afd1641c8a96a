-- The steps from what is ready to a verdict: inner contracts of the unbounded verdict. Assumes nothing: these are definitions.
use Rattle.std.specs.Prelude.{Bool, ◌≡◌, List, ℕ, ◌*◌, length, drop}
use Rattle.words.specs.Word.{Word}
use Rattle.sizes.specs.Questions.{side}
use Rattle.reach.specs.Questions.{of_room}
use Rattle.reach.specs.Calls.{Lent, Reached, ReachedRight, ReachedBy}

-- A verdict before the tables are zeroed: beyond q × q they remain.
pub record Decides (q : ℕ) (gens : List Word) (target : Word) (verdict : Bool) (before after : Lent) : Type 0 where
  pub right : ReachedRight gens target verdict
  pub first : drop (q * q) after.first ≡ drop (q * q) before.first
  pub second : drop (q * q) after.second ≡ drop (q * q) before.second

-- The verdict on a form by reduced generators of m letters together, after questions 12 and 15.
abbrev pub ReachesForm : ℕ → List Word → Word → Reached → Lent → Lent → Type 0
ReachesForm m gens form r before after =
    ReachedBy (of_room m (length form) (length before.first) (length before.second)) (side m (length form)) gens form r before after
