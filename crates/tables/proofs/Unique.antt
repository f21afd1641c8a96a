-- There is one full table: each entry is the least number that the rules make, or n + 1. So what `fill` promises leaves no choice. Assumes nothing.
use mathlib.Core.Path.{◌≡◌, refl, sym, ◌∙◌}
use mathlib.Core.List.{List}
use Prim.Native.Nat.{ℕ, ◌*◌, ◌≤◌, ◌<◌}
use native.Mathlib.Decide.{dec_lt}
use native.Mathlib.Omega.{arith}
use lib.ListN.{get_or-eq_default}
use lib.Seq.{ext_get_or}
use Rattle.std.specs.Prelude.{Result, Ok, Err}
use Rattle.trees.specs.declared.Unfit.{Unfit}
use Rattle.trees.proofs.Remaining.{same_parts}
use Rattle.levels.specs.Levels.{entry}
use Rattle.tables.specs.Levelling.{Made, whole, one, two, Full}
use Rattle.tables.specs.Filling.{Fills}

module _ {count : ℕ} {letters rests wholes : List ℕ} {weight : List ℕ → ℕ} {n : ℕ} where
  pub made_least : {t : List ℕ} {c v : ℕ} → Full count letters rests wholes weight n t → Made count letters rests wholes weight c v → v ≤ n → entry t c ≤ v
  made_least full (whole j inside) small = full.starts j inside
  made_least {t} full (one {p} {q} {c} rule past made) small =
      let none : entry t q ≡ 0 = get_or-eq_default t 0 {n = q} (omega (arith, full.bounded.long)) in
      let low = made_least full made small in
      omega (arith, full.closed p q c rule (omega arith))
  made_least {t} full (two {p} {q} {c} rule made made') small =
      let low = made_least full made (omega arith) in
      let low' = made_least full made' (omega arith) in
      omega (arith, full.closed p q c rule (omega arith))

  no_higher : {t t' : List ℕ} → Full count letters rests wholes weight n t → Full count letters rests wholes weight n t'
      → (p : ℕ) → p < count * count → entry t p ≤ entry t' p
  no_higher {t} {t'} full full' p inside =
      elim (dec_lt n (entry t' p)) [
        | yes above ↦ omega (arith, full.bounded.high p inside)
        | no within ↦ made_least full (full'.made p (omega (arith, full'.bounded.long)) (omega arith)) (omega arith)
      ]

  pub full_unique : {t t' : List ℕ} → Full count letters rests wholes weight n t → Full count letters rests wholes weight n t' → t ≡ t'
  full_unique {t} {t'} full full' =
      ext_get_or 0 t t' (full.bounded.long ∙ sym full'.bounded.long)
      (λ p inside.
      let within : p < count * count = omega (arith, full.bounded.long) in
      omega (arith, no_higher full full' p within, no_higher full' full p within))

-- Two outcomes that meet the contract are one: the answer, and the whole table.
pub fills_unique : (weight : List ℕ → ℕ) (count : ℕ) (letters rests children_r children_s wholes : List ℕ) (n : ℕ) (before after after' : List ℕ) (r r' : Result Unit Unfit)
    → Fills weight count letters rests children_r children_s wholes n before r after → Fills weight count letters rests children_r children_s wholes n before r' after'
    → (r ≡ r') × (after ≡ after')
fills_unique weight count letters rests children_r children_s wholes n before after after' (Ok _) (Ok _) f f' =
    (refl, same_parts (count * count) after after' (full_unique f.1.full f'.1.full) (f.1.kept ∙ sym f'.1.kept))
fills_unique weight count letters rests children_r children_s wholes n before after after' (Ok _) (Err _) f f' = absurd (f'.0 f.0)
fills_unique weight count letters rests children_r children_s wholes n before after after' (Err _) (Ok _) f f' = absurd (f.0 f'.0)
fills_unique weight count letters rests children_r children_s wholes n before after after' (Err _) (Err _) f f' = (refl, f.1 ∙ sym f'.1)
