-- A verdict with what is lent, by what the questions say. Assumes nothing.
use mathlib.Core.Path.{◌≡◌, refl, sym, subst}
use Prim.Native.Nat.{ℕ, ◌*◌, ◌≤◌}
use lib.ListN.{length}
use Rattle.refusals.specs.Questions.{Asked, passed}
use Rattle.std.specs.Prelude.{Err}
use Rattle.words.specs.Word.{Word}
use Rattle.products.specs.Product.{Family}
use Rattle.refusals.specs.declared.Refusal.{Refusal}
use Rattle.engine.specs.Calls.{Verdict, Lent, VerdictRight, Judged}
use Rattle.sizes.specs.Zeroing.{Zeroes}
use Rattle.sizes.proofs.Zeroed.{table_zeroed}
use Rattle.engine.specs.Judging.{Settled}

module _ (q : ℕ) (family : Family) (target : Word) (n : ℕ) where
  pub judged_refused : (asked : Asked) {refusal : Refusal} (lent : Lent) → asked ≡ Err refusal → Judged asked q family target n (Err refusal) lent lent
  judged_refused asked {refusal} lent e = subst (λ (a : Asked). Judged a q family target n (Err refusal) lent lent) (sym e) (refl, refl)

  -- where the questions have passed the verdict is the settled one
  pub judged_passed : (asked : Asked) (r : Verdict) (before after : Lent) → asked ≡ passed → Judged passed q family target n r before after
      → Judged asked q family target n r before after
  judged_passed asked r before after e judged = subst (λ (a : Asked). Judged a q family target n r before after) (sym e) judged

  -- a verdict is settled, and then both tables are zeroed
  pub judged_settled : (r : Verdict) (before middle after : Lent) → Settled q family target n r before middle
      → q * q ≤ length middle.first → Zeroes q middle.first after.first
      → q * q ≤ length middle.second → Zeroes q middle.second after.second
      → after.witness ≡ middle.witness → Judged passed q family target n r before after
  judged_settled r before middle after settled room f room₂ s w = (
    subst (VerdictRight family target n r before.witness) (sym w) settled.right,
    table_zeroed q before.first middle.first after.first settled.first room f,
    table_zeroed q before.second middle.second after.second settled.second room₂ s,
  )
