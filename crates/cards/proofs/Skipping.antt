-- Generators that are passed over one by one. Assumes nothing.
use mathlib.Core.Path.{◌≡◌, refl}
use mathlib.Core.List.{List, ◌∷◌}
use Prim.Native.Nat.{ℕ, suc}
use Rattle.std.specs.Prelude.{Option, None, Some}
use Rattle.std.specs.Borrow.{Bor}
use Rattle.fields.specs.Field.{Read, Whole, Cut, next, letters_field}
use Rattle.cards.specs.Card.{generator_fields}
use Rattle.cards.specs.Reading.{Skips}

-- a generator in front does not change what stands behind the others
skipped_front : (letters : List ℕ) (others : Read (List (List ℕ))) (r : Option (Bor (List ℕ))) → Skips others r
    → Skips (next others (λ (list : List (List ℕ)) (rest : List ℕ). Whole (letters ∷ list) rest)) r
skipped_front letters (Whole list rest) None e = absurd (cc)
skipped_front letters (Whole list rest) (Some r) (others, e) = (letters ∷ list, cc)
skipped_front letters Cut None e = refl
skipped_front letters Cut (Some r) (others, e) = absurd (cc)

-- what is answered of the `left` generators at the front of `rest` is answered of all
abbrev pub Remaining : Read (List (List ℕ)) → ℕ → List ℕ → Type 0
Remaining all left rest = (r : Option (Bor (List ℕ))) → Skips (generator_fields left rest) r → Skips all r

module _ (all : Read (List (List ℕ))) (left : ℕ) (rest : List ℕ) (now : Remaining all left rest) (fewer : ℕ) (n : left ≡ suc fewer) where
  pub one_cut : letters_field rest ≡ Cut → Skips all None
  one_cut cut = now None (rw (n, cut) refl)

  pub one_passed : {letters behind : List ℕ} → letters_field rest ≡ Whole letters behind → Remaining all fewer behind
  one_passed {letters} {behind} whole r h = now r (rw (n, whole) (skipped_front letters (generator_fields fewer behind) r h))
