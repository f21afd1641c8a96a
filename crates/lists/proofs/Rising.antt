-- The last of a list's ends, and ends that never fall. Assumes nothing.
use mathlib.Core.Bool.{Bool, true, false}
use mathlib.Core.Path.{◌≡◌, refl, ap, ◌∙◌}
use mathlib.Core.List.{List, [], ◌∷◌}
use Prim.Native.Nat.{ℕ, zero, suc, ◌-◌, ◌≤◌, ◌<◌}
use native.Mathlib.Nat.{not-suc-le-zero, le_of_suc-le-suc}
use native.Mathlib.Omega.{arith}
use lib.Dec.{leb}
use lib.ListN.{length, get_or}
use borrow.Author.Tests.{leb-true}
use Rattle.refusals.specs.Telling.{pick}
use Rattle.lists.specs.Questions.{first_fall, last_end}

pub last_end_lem : (from : ℕ) (ends : List ℕ) → 0 < length ends → last_end from ends ≡ get_or ends (length ends - 1) 0
last_end_lem from [] h = absurd (omega arith)
last_end_lem from (end ∷ []) h = refl
last_end_lem from (end ∷ next ∷ ends) h =
    let place : suc (length (next ∷ ends) - 1) ≡ length (end ∷ next ∷ ends) - 1 = omega arith in
    last_end_lem end (next ∷ ends) (omega arith) ∙ ap (λ (i : ℕ). get_or (end ∷ next ∷ ends) i 0) place

-- ---- what it says that no end falls

-- no end is below the one before it, the first not below `from`
pub data Rising : ℕ → List ℕ → Type 0 where
  none : {from : ℕ} → Rising from []
  next : {from end : ℕ} {ends : List ℕ} → from ≤ end → Rising end ends → Rising from (end ∷ ends)

rising_by : (from end : ℕ) (ends : List ℕ) (b : Bool) → leb from end ≡ b → (length ends ≤ first_fall end ends → Rising end ends)
    → suc (length ends) ≤ pick b (suc (first_fall end ends)) 0 → Rising from (end ∷ ends)
rising_by from end ends true e later h = next (leb-true from end e) (later (le_of_suc-le-suc h))
rising_by from end ends false e later h = absurd (not-suc-le-zero h)

pub rising_of : (from : ℕ) (ends : List ℕ) → length ends ≤ first_fall from ends → Rising from ends
rising_of from [] h = none
rising_of from (end ∷ ends) h = rising_by from end ends (leb from end) refl (rising_of end ends) h

pub rising_last : {from : ℕ} {ends : List ℕ} → Rising from ends → from ≤ last_end from ends
rising_last none = omega arith
rising_last (next {from} {end} {ends} h r) = omega (arith, rising_last r)

-- each end is at most the last
pub rising_within : {from : ℕ} {ends : List ℕ} → Rising from ends → (i : ℕ) → i < length ends → get_or ends i 0 ≤ last_end from ends
rising_within none i h = absurd (not-suc-le-zero h)
rising_within (next h r) zero k = rising_last r
rising_within (next h r) (suc i) k = rising_within r i (le_of_suc-le-suc k)
