-- What the unbounded verdict promises. 02, M-101. Assumes nothing: these are definitions.
use Rattle.std.specs.Prelude.{Bool, true, false, Result, Ok, Err, ◌≡◌, List, ℕ, length}
use Rattle.words.specs.Word.{Word, nf}
use Rattle.words.specs.Bytes.{word}
use Rattle.refusals.specs.declared.Refusal.{Refusal}
use Rattle.refusals.specs.Questions.{Asked}
use Rattle.products.specs.Product.{generators, YesRight, NoRight, plain}
use Rattle.lists.specs.NormalList.{total}
use Rattle.sizes.specs.Questions.{side}
use Rattle.sizes.specs.Zeroing.{zeroed}
use Rattle.reach.specs.Questions.{of_reachable}

-- What is lent to be written: two tables of 16-bit numbers.
pub record Lent : Type 0 where
  pub first : List ℕ
  pub second : List ℕ

-- Yes or no; or why the call refuses.
abbrev pub Reached : Type 0
Reached = Result Bool Refusal

-- A verdict on the target, by the list's generators. 02: "Yes holds exactly when some series of generator numbers, of any length, multiplies to the target."
-- M-105: "a product has one factor or more". No holds exactly when none does.
abbrev pub ReachedRight : List Word → Word → Bool → Type 0
ReachedRight gens target true = YesRight (plain gens) target
ReachedRight gens target false = NoRight (plain gens) target

-- By what the questions say: a refusal changes nothing lent; a verdict is right, and both tables are zeroed for the side q, "as the bounded verdict does".
abbrev pub ReachedBy : Asked → ℕ → List Word → Word → Reached → Lent → Lent → Type 0
ReachedBy (Err refusal) q gens target r before after = (r ≡ Err refusal) × (after ≡ before)
ReachedBy (Ok _) q gens target (Ok verdict) before after =
    ReachedRight gens target verdict × (after.first ≡ zeroed q before.first) × (after.second ≡ zeroed q before.second)
ReachedBy (Ok _) q gens target (Err refusal) before after = ⊥

abbrev pub Reaches : List ℕ → List ℕ → List ℕ → Reached → Lent → Lent → Type 0
Reaches bytes ends target r before after =
    ReachedBy (of_reachable bytes ends target (length before.first) (length before.second))
    (side (total (generators bytes ends)) (length (nf (word target))))
    (generators bytes ends) (word target) r before after
