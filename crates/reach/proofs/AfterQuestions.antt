-- A verdict with what is lent, by what the questions say. Assumes nothing.
use mathlib.Core.Path.{◌≡◌, refl, sym, subst}
use mathlib.Core.List.{List}
use Prim.Native.Nat.{ℕ, ◌*◌, ◌≤◌}
use lib.ListN.{length}
use Rattle.refusals.specs.Questions.{Asked, passed}
use Rattle.std.specs.Prelude.{Ok, Err, Bool}
use Rattle.words.specs.Word.{Word}
use Rattle.refusals.specs.declared.Refusal.{Refusal}
use Rattle.sizes.specs.Zeroing.{Zeroes}
use Rattle.sizes.proofs.Zeroed.{table_zeroed}
use Rattle.reach.specs.Calls.{Lent, ReachedBy}
use Rattle.reach.specs.Deciding.{Decides}

module _ (asked : Asked) (q : ℕ) (gens : List Word) (target : Word) where
  pub reached_refused : {refusal : Refusal} (lent : Lent) → asked ≡ Err refusal → ReachedBy asked q gens target (Err refusal) lent lent
  reached_refused {refusal} lent e = subst (λ (a : Asked). ReachedBy a q gens target (Err refusal) lent lent) (sym e) (refl, refl)

  -- it is decided, and then both tables are zeroed
  pub reached_decided : (verdict : Bool) (before middle after : Lent) → asked ≡ passed → Decides q gens target verdict before middle
      → q * q ≤ length middle.first → Zeroes q middle.first after.first
      → q * q ≤ length middle.second → Zeroes q middle.second after.second
      → ReachedBy asked q gens target (Ok verdict) before after
  reached_decided verdict before middle after e decides room f room₂ s =
      subst (λ (a : Asked). ReachedBy a q gens target (Ok verdict) before after) (sym e) (
        decides.right,
        table_zeroed q before.first middle.first after.first decides.first room f,
        table_zeroed q before.second middle.second after.second decides.second room₂ s,
      )
