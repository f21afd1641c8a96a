-- Two stacks of items, compared by what they spell. Assumes nothing: these are definitions.
use Rattle.std.specs.Prelude.{Bool, ◌≡◌, List, ℕ, ◌+◌, ◌<◌}
use Rattle.std.specs.declared.ops.ControlFlow.{ControlFlow}
use Rattle.std.specs.declared.ops.ControlFlow.TheVariants.{Continue, Break}
use Rattle.refusals.specs.Telling.{Tells}
use Rattle.products.specs.Product.{Before}
use Rattle.derivations.specs.Ways.{World}
use Rattle.witness.specs.Stacks.{steps_left, Spelled, Standing}
use Rattle.witness.specs.declared.comparing.Tops.{Tops}
use Rattle.witness.specs.declared.comparing.Tops.TheVariants.{Same, Differ, First, Second}

-- whether what the first items spell is before what the second spell
abbrev pub Answers : World → List (ℕ × ℕ) → List (ℕ × ℕ) → Bool → Type 0
Answers w is js b = (r s : List ℕ) → Spelled w is r → Spelled w js s → Tells b (Before r s)

-- What is told of the items (x, y) and (u, v): that they are the same, that they are two factors and which of them is the smaller, or one that is no
-- factor.
abbrev pub TopsTell : ℕ → ℕ → ℕ → ℕ → Tops → Type 0
TopsTell x y u v Same = (x ≡ u) × (y ≡ v)
TopsTell x y u v (Differ b) = (x ≡ 0) × (u ≡ 0) × (y ≡ v → ⊥) × Tells b (y < v)
TopsTell x y u v First = 0 < x
TopsTell x y u v Second = 0 < u

module _ (w : World) (choice : ℕ → ℕ → ℕ) (is js : List (ℕ × ℕ)) where
  -- Both stacks stand again, and the answer for them is the answer for those that were.
  pub record GoingOn (is₁ js₁ : List (ℕ × ℕ)) : Type 0 where
    pub first : Standing w choice is₁
    pub second : Standing w choice js₁
    pub same : (b : Bool) → Answers w is₁ js₁ b → Answers w is js b

  -- And what they are still to cost fell.
  pub record GoesOn (is₁ js₁ : List (ℕ × ℕ)) : Type 0 where
    pub on : GoingOn is₁ js₁
    pub falls : steps_left w is₁ + steps_left w js₁ < steps_left w is + steps_left w js

  -- the comparison goes on, or is over
  abbrev pub Compares : ControlFlow Bool (Unit {0}) → List (ℕ × ℕ) → List (ℕ × ℕ) → Type 0
  Compares (Continue _) is₁ js₁ = GoesOn is₁ js₁
  Compares (Break b) is₁ js₁ = Answers w is js b
