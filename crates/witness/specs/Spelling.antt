-- What is kept while a series is spelled. Assumes nothing: these are definitions.
use Rattle.std.specs.Prelude.{◌≡◌, List, ◌++◌, ℕ, ◌≤◌, ◌<◌, length, take, drop}
use Rattle.derivations.specs.Ways.{World}
use Rattle.witness.specs.Stacks.{steps_left, Spelled, Standing}

module _ (w : World) (choice : ℕ → ℕ → ℕ) where
  -- The series r is spelled in part: its front is written, where `old` was, and the stack spells the rest.
  pub record Halfway (old r : List ℕ) (is : List (ℕ × ℕ)) (witness : List ℕ) (written : ℕ) : Type 0 where
    pub standing : Standing w choice is
    pub rest : List ℕ
    pub spelled : Spelled w is rest
    pub series : take written witness ++ rest ≡ r
    pub room : length r ≤ length witness
    pub within : written ≤ length witness
    pub behind : drop written witness ≡ drop written old

  -- One step further: whatever was spelled in part still is, and less is to be done.
  pub record Further (is : List (ℕ × ℕ)) (witness : List ℕ) (written : ℕ) (is₁ : List (ℕ × ℕ)) (witness₁ : List ℕ) (written₁ : ℕ) : Type 0 where
    pub spells : (old r : List ℕ) → Halfway old r is witness written → Halfway old r is₁ witness₁ written₁
    pub falls : steps_left w is₁ < steps_left w is
