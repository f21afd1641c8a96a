-- What determinant 1 says of the entries without their signs, and of the signs alone.
--     no_first_column, ..    no column and no row is 0, and the columns are not equal
--     diagonal, antidiagonal    rows of which one has the first entry larger and one the second have nothing else in them
--     diagonal_unit          with nothing off the diagonal it is the unit matrix, up to sign
--     opposite_rows          if the entries of one row have opposite signs, then so do the other's
-- Assumes nothing.
use mathlib.Core.Path.{◌≡◌, refl, sym, ap, ◌∙◌}
use mathlib.Core.Logic.{◌⊎◌, inl, inr}
use mathlib.Core.Bool.{false, true≢false}
use Prim.Native.Nat.{ℕ, zero, suc, ◌+◌, ◌*◌, ◌≤◌, ◌<◌}
use native.Mathlib.Nat.{mul-le-mul}
use native.Mathlib.Omega.{arith}
use lib.IntN.{ℤ, pos, negsuc, neg_ℤ, nat_abs, ◌-ℤ◌, ◌*ℤ◌, pos-ne-negsuc, +ℤ_idr}
use Rattle.unimodular.specs.Matrix.{Matrix, unit, determinant, UpToSign}
use Rattle.unimodular.proofs.Integers.{num, minus, ◌⊕◌, ◌⊗◌, plus, less, value_is}
use Rattle.unimodular.proofs.Integers.{over, under, Is, over-negℤ, under-negℤ, nat_abs-*ℤ, nat_abs_neighbours}
use Rattle.unimodular.proofs.Product.{entries}
use Rattle.unimodular.proofs.Rows.{signs_agree, Opposite, same_of_test, test_of_same, same_turned, opposite_turned, opposite_negated}
use Rattle.unimodular.proofs.Ending.{columns_agree, either_false, false_unless}

-- ---- without signs

-- ps and qr are neighbours
abbrev Apart : ℕ → ℕ → ℕ → ℕ → Type 0
Apart p q r s = (p * s ≡ q * r + 1) ⊎ (q * r ≡ p * s + 1)

apart_diagonal : (p q r s : ℕ) → Apart p q r s → q < p → r < s → (q ≡ 0) × (r ≡ 0)
apart_diagonal p q r s (inl e) k l = let wide : suc q * suc r ≤ p * s = mul-le-mul k l in (omega arith, omega arith)
apart_diagonal p q r s (inr e) k l = let wide : suc q * suc r ≤ p * s = mul-le-mul k l in absurd (omega arith)

apart_turned : (p q r s : ℕ) → Apart p q r s → Apart q p s r
apart_turned p q r s (inl e) = inr e
apart_turned p q r s (inr e) = inl e

module _ (m : Matrix) (e : determinant m ≡ pos 1) where
  apart : Apart (nat_abs m.a) (nat_abs m.b) (nat_abs m.c) (nat_abs m.d)
  apart = rw (nat_abs-*ℤ m.a m.d, nat_abs-*ℤ m.b m.c) at (nat_abs_neighbours (m.a *ℤ m.d) (m.b *ℤ m.c) e)

  independent : nat_abs m.a * nat_abs m.d ≡ nat_abs m.b * nat_abs m.c → ⊥
  independent f = go apart
    where
      go : Apart (nat_abs m.a) (nat_abs m.b) (nat_abs m.c) (nat_abs m.d) → ⊥
      go (inl k) = omega arith
      go (inr k) = omega arith

  pub no_first_column : nat_abs m.a ≡ 0 → nat_abs m.c ≡ 0 → ⊥
  no_first_column p q = independent (rw (p, q) (omega arith))

  pub no_second_column : nat_abs m.b ≡ 0 → nat_abs m.d ≡ 0 → ⊥
  no_second_column p q = independent (rw (p, q) (omega arith))

  pub no_first_row : nat_abs m.a ≡ 0 → nat_abs m.b ≡ 0 → ⊥
  no_first_row p q = independent (rw (p, q) (omega arith))

  pub no_second_row : nat_abs m.c ≡ 0 → nat_abs m.d ≡ 0 → ⊥
  no_second_row p q = independent (rw (p, q) (omega arith))

  pub no_equal_columns : nat_abs m.a ≡ nat_abs m.b → nat_abs m.c ≡ nat_abs m.d → ⊥
  no_equal_columns p q = independent (rw (p, q) (omega arith))

  pub diagonal : nat_abs m.b < nat_abs m.a → nat_abs m.c < nat_abs m.d → (nat_abs m.b ≡ 0) × (nat_abs m.c ≡ 0)
  diagonal = apart_diagonal (nat_abs m.a) (nat_abs m.b) (nat_abs m.c) (nat_abs m.d) apart

  pub antidiagonal : nat_abs m.a < nat_abs m.b → nat_abs m.d < nat_abs m.c → (nat_abs m.a ≡ 0) × (nat_abs m.d ≡ 0)
  antidiagonal =
      apart_diagonal (nat_abs m.b) (nat_abs m.a) (nat_abs m.d) (nat_abs m.c)
      (apart_turned (nat_abs m.a) (nat_abs m.b) (nat_abs m.c) (nat_abs m.d) apart)

-- with nothing off the diagonal the determinant leaves two signs
pub diagonal_unit : (m : Matrix) → determinant m ≡ pos 1 → nat_abs m.b ≡ 0 → nat_abs m.c ≡ 0 → UpToSign unit m
diagonal_unit m e p q = go (one m.a ones.0) (one m.d ones.1)
  where
    none : (x : ℤ) → nat_abs x ≡ 0 → x ≡ pos 0
    none (pos n) z = ap pos z
    none (negsuc n) z = absurd (omega arith)

    one : (x : ℤ) → nat_abs x ≡ 1 → (x ≡ pos 1) ⊎ (x ≡ negsuc 0)
    one (pos n) z = inl (ap pos z)
    one (negsuc n) z = inr (ap negsuc (omega arith))

    factors : (x y : ℕ) → x * y ≡ 1 → (x ≡ 1) × (y ≡ 1)
    factors zero y z = absurd (omega arith)
    factors (suc x) zero z = absurd (omega arith)
    factors (suc x) (suc y) z = (omega arith, omega arith)

    product : m.a *ℤ m.d ≡ pos 1
    product = sym (+ℤ_idr (m.a *ℤ m.d)) ∙ sym (λ i. (m.a *ℤ m.d) -ℤ (none m.b p i *ℤ none m.c q i)) ∙ e

    ones : (nat_abs m.a ≡ 1) × (nat_abs m.d ≡ 1)
    ones = factors (nat_abs m.a) (nat_abs m.d) (sym (nat_abs-*ℤ m.a m.d) ∙ ap nat_abs product)

    go : (m.a ≡ pos 1) ⊎ (m.a ≡ negsuc 0) → (m.d ≡ pos 1) ⊎ (m.d ≡ negsuc 0) → UpToSign unit m
    go (inl x) (inl t) = inl (sym (entries x (none m.b p) (none m.c q) t))
    go (inl x) (inr t) = absurd (pos-ne-negsuc 1 0 (sym product ∙ (λ i. x i *ℤ t i)))
    go (inr x) (inl t) = absurd (pos-ne-negsuc 1 0 (sym product ∙ (λ i. x i *ℤ t i)))
    go (inr x) (inr t) = inr (sym (entries (ap neg_ℤ x) (ap neg_ℤ (none m.b p)) (ap neg_ℤ (none m.c q)) (ap neg_ℤ t)))

-- ---- the signs

-- the determinant is 1, in natural numbers
abbrev Unimodular : ℤ → ℤ → ℤ → ℤ → Type 0
Unimodular x y z t = Is (pos 1) (plus (num x ⊗ num t ⊕ minus (num y ⊗ num z))) (less (num x ⊗ num t ⊕ minus (num y ⊗ num z)))

unimodular : (m : Matrix) → determinant m ≡ pos 1 → Unimodular m.a m.b m.c m.d
unimodular m e = rw e at (value_is (num m.a ⊗ num m.d ⊕ minus (num m.b ⊗ num m.c)))

-- the other row, where the first is p + 1 and -(q + 1)
other_row : (p q : ℕ) (z t : ℤ) → suc p * over t + suc q * over z ≡ suc p * under t + suc q * under z + 1 → Opposite z t
other_row p q (pos zero) (pos l) e = inr (refl, refl)
other_row p q (pos zero) (negsuc l) e = inl (refl, refl)
other_row p q (pos (suc k)) (pos zero) e = inl (refl, refl)
other_row p q (pos (suc k)) (pos (suc l)) e = absurd (omega arith)
other_row p q (pos (suc k)) (negsuc l) e = inl (refl, refl)
other_row p q (negsuc k) (pos l) e = inr (refl, refl)
other_row p q (negsuc k) (negsuc l) e = absurd (omega arith)

opposite_first : (x y z t : ℤ) → Unimodular x y z t → signs_agree x y ≡ false → Opposite x y × Opposite z t
opposite_first (pos zero) y z t e f = absurd (true≢false f)
opposite_first (pos (suc p)) (pos n) z t e f = absurd (true≢false f)
opposite_first (pos (suc p)) (negsuc q) z t e f = (inl (refl, refl), other_row p q z t (omega arith))
opposite_first (negsuc p) (pos zero) z t e f = absurd (true≢false f)
opposite_first (negsuc p) (pos (suc q)) z t e f =
    (inr (refl, refl), opposite_negated z t (other_row p q (neg_ℤ z) (neg_ℤ t) (rw (over-negℤ z, over-negℤ t, under-negℤ z, under-negℤ t) (omega arith))))
opposite_first (negsuc p) (negsuc n) z t e f = absurd (true≢false f)

pub opposite_rows : (m : Matrix) → determinant m ≡ pos 1 → columns_agree m ≡ false → Opposite m.a m.b × Opposite m.c m.d
opposite_rows m e f = go (either_false (signs_agree m.a m.b) (signs_agree m.c m.d) f)
  where
    -- the matrix turned by half a turn has the same determinant
    half_turn : (x y z t : ℤ) → Unimodular x y z t → Unimodular t z y x
    half_turn x y z t h = omega arith

    turned : (x y : ℤ) → signs_agree x y ≡ false → signs_agree y x ≡ false
    turned x y f = false_unless (signs_agree y x) (λ s. true≢false (sym (test_of_same x y (same_turned y x (same_of_test y x s))) ∙ f))

    go : (signs_agree m.a m.b ≡ false) ⊎ (signs_agree m.c m.d ≡ false) → Opposite m.a m.b × Opposite m.c m.d
    go (inl k) = opposite_first m.a m.b m.c m.d (unimodular m e) k
    go (inr k) =
        let h = opposite_first m.d m.c m.b m.a (half_turn m.a m.b m.c m.d (unimodular m e)) (turned m.c m.d k) in
        (opposite_turned m.b m.a h.1, opposite_turned m.d m.c h.0)
