-- The card that its fields say, and what is answered where it goes on behind its last field: question 4, at the first byte behind.
-- Assumes nothing.
use mathlib.Core.Path.{◌≡◌, refl}
use mathlib.Core.List.{List, [], ◌∷◌}
use Prim.Native.Nat.{ℕ, ◌-◌, ◌<◌}
use native.Mathlib.Omega.{arith}
use lib.ListN.{length}
use Rattle.std.specs.Prelude.{Err}
use Rattle.refusals.specs.declared.Refusal.TheVariants.{SpareByte}
use Rattle.engine.specs.Calls.{Lent}
use Rattle.fields.specs.Field.{Whole}
use Rattle.cards.specs.Card.{Target, Card, bound_field, target_field, list_field, fields}
use Rattle.cards.specs.Calls.{AnswersRead}

pub fields_said : (map : ℕ) (bs : List ℕ) {n : ℕ} {target : Target} {list : List (List ℕ)} {after_n after_target rest : List ℕ}
    → bound_field map bs ≡ Whole n after_n → target_field map after_n ≡ Whole target after_target → list_field map after_target ≡ Whole list rest
    → fields map bs ≡ Whole (record { bound = n; target = target; list = list }) rest
fields_said map bs bound goal list = rw (bound, goal, list) refl

pub no_bytes : (bs : List ℕ) → length bs ≡ 0 → bs ≡ []
no_bytes [] e = refl
no_bytes (b ∷ bs) e = absurd (omega arith)

pub spare_byte : (said : Card) (lent : Lent) (size : ℕ) (rest : List ℕ) → 0 < length rest
    → AnswersRead size (Whole said rest) (Err (SpareByte (size - length rest))) lent lent
spare_byte said lent size [] h = absurd (omega arith)
spare_byte said lent size (spare ∷ rest) h = (refl, refl)
