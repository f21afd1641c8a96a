-- Signed 64-bit arithmetic. The machine holds bits, and reads back the number that they stand for; a number that fits is read back as it was.
-- Each law here takes operands that are known and gives the result's fit and what is read back from it, so that a proof mirrors its code.
--     read                   a number that fits is read back as it was
--     computes               what equals a number that is small enough fits, and is read back as that number
--     sum, difference, product, negation    the operations, of operands that are small enough
-- Assumes nothing.
use mathlib.Core.Path.{◌≡◌, ap, ap₂, ◌∙◌}
use Prim.Native.Nat.{◌+◌, ◌*◌, ◌^◌, ◌≤◌, ◌<◌}
use native.Mathlib.Omega.{arith}
use lib.IntN.{ℤ, pos, negsuc, neg_ℤ, nat_abs, ◌+ℤ◌, ◌-ℤ◌, ◌*ℤ◌, +ℤ_idl}
use lib.Signed.{mag}
use mir.Syntax.{w64}
use mir.Val.{SFits, to_z, of_z}
use mir.ValLaws.{to_z-of_z}
use Rattle.unimodular.proofs.Integers.{nat_abs-negℤ, nat_abs-+ℤ, nat_abs-*ℤ}

-- what is read back where x is held
abbrev pub reading : ℤ → ℤ
reading x = to_z w64 (of_z w64 x)

mag_nat_abs : (x : ℤ) → mag x ≤ nat_abs x
mag_nat_abs (pos n) = omega arith
mag_nat_abs (negsuc n) = omega arith

pub fits : (x : ℤ) → nat_abs x < 2 ^ 63 → SFits w64 x
fits x h = record { sfits = omega (arith, mag_nat_abs x) }

pub read : (x : ℤ) → nat_abs x < 2 ^ 63 → reading x ≡ x
read x h = to_z-of_z w64 x (fits x h)

-- X fits, and x is read back from it
pub record Computes (X x : ℤ) : Type 0 where
  pub within : SFits w64 X
  pub value : reading X ≡ x

pub computes : {X x : ℤ} → X ≡ x → nat_abs x < 2 ^ 63 → Computes X x
computes {X} {x} e h = rw e (record { within = fits x h; value = read x h })

module _ {X Y x y : ℤ} (p : X ≡ x) (q : Y ≡ y) where
  pub sum : nat_abs x + nat_abs y < 2 ^ 63 → Computes (X +ℤ Y) (x +ℤ y)
  sum h = computes (ap₂ ◌+ℤ◌ p q) (omega (arith, nat_abs-+ℤ x y))

  pub difference : nat_abs x + nat_abs y < 2 ^ 63 → Computes (X -ℤ Y) (x -ℤ y)
  difference h = computes (ap₂ ◌-ℤ◌ p q) (omega (arith, nat_abs-+ℤ x (neg_ℤ y), nat_abs-negℤ y))

  pub product : nat_abs x * nat_abs y < 2 ^ 63 → Computes (X *ℤ Y) (x *ℤ y)
  product h = computes (ap₂ ◌*ℤ◌ p q) (omega (arith, nat_abs-*ℤ x y))

-- a negation is computed as 0 less the number
pub negation : {X x : ℤ} → X ≡ x → nat_abs x < 2 ^ 63 → Computes (pos 0 -ℤ X) (neg_ℤ x)
negation {X} {x} p h = computes (ap (λ (z : ℤ). pos 0 -ℤ z) p ∙ +ℤ_idl (neg_ℤ x)) (omega (arith, nat_abs-negℤ x))
