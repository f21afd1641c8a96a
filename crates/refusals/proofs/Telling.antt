-- What a test that was asked tells. Assumes nothing.
use mathlib.Core.Bool.{Bool, true, false, false≢true}
use mathlib.Core.Path.{◌≡◌, refl, subst}
use Prim.Native.Nat.{ℕ}
use lib.Dec.{eqb}
use borrow.Author.Tests.{eq-eqb, eqb-true}
use Rattle.refusals.specs.Telling.{Tells}

pub told : {P : Type 0} (r : Bool) → r ≡ true → Tells r P → P
told {P} r is_true tells = subst (λ (b : Bool). Tells b P) is_true tells

pub told_not : {P : Type 0} (r : Bool) → r ≡ false → Tells r P → P → ⊥
told_not {P} r is_false tells = subst (λ (b : Bool). Tells b P) is_false tells

-- the same answer to another question that is as hard
pub tells_same : {P Q : Type 0} (r : Bool) → (P → Q) → (Q → P) → Tells r P → Tells r Q
tells_same true to from p = to p
tells_same false to from p = λ q. p (from q)

-- where Q is true, an answer tells of itself and Q together
pub tells_with : {Q : Type 0} (r : Bool) → Q → Tells r ((r ≡ true) × Q)
tells_with true q = (refl, q)
tells_with false q = λ both. false≢true both.0

-- P and Q are asked one after the other, to tell of R, which is both
pub tells_both : {P Q R : Type 0} (so_far r : Bool) → (P → Q → R) → (R → P) → (R → Q) → Tells so_far P → Tells r ((so_far ≡ true) × Q) → Tells r R
tells_both true true both to_p to_q p more = both p more.1
tells_both true false both to_p to_q p more = λ all. more (refl, to_q all)
tells_both false true both to_p to_q p more = absurd (false≢true more.0)
tells_both false false both to_p to_q p more = λ all. p (to_p all)

pub tells_eqb : {P : Type 0} (a b : ℕ) → (a ≡ b → P) → (P → a ≡ b) → Tells (eqb a b) P
tells_eqb {P} a b to from = by (eqb a b) (λ e. to (eqb-true a b e)) (λ p. eq-eqb a b (from p))
  where
    by : (r : Bool) → (r ≡ true → P) → (P → r ≡ true) → Tells r P
    by true equal back = equal refl
    by false equal back = λ p. false≢true (back p)
