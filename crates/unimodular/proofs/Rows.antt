-- Two numbers side by side, as the columns of a matrix show them in one row: their signs agree, or are opposite. The number 0
-- goes with either sign. Under the columns' sum and the sign these change as the absolute values say.
--     signs_agree, at_least, is_zero   the tests
--     Same, Opposite                what they say, in natural numbers
-- Assumes nothing.
use mathlib.Core.Path.{◌≡◌, refl, sym, ap₂, ◌∙◌}
use mathlib.Core.Logic.{◌⊎◌, inl, inr}
use mathlib.Core.Bool.{Bool, true, false, not, false≢true}
use Prim.Native.Nat.{zero, suc, ◌+◌, ◌≤◌, ◌<◌}
use native.Mathlib.Omega.{arith}
use lib.Dec.{T, leb, leb→le, le→leb, nleb→lt}
use lib.IntN.{ℤ, pos, negsuc, neg_ℤ, nat_abs, ◌+ℤ◌, +ℤ_comm}
use Rattle.refusals.specs.Telling.{pick}
use Rattle.unimodular.proofs.Integers.{over, under, num, ◌⊕◌, value_is, side, nat_abs_parts, nat_abs-negℤ, over-negℤ, under-negℤ}

-- ---- the tests

abbrev pub is_zero : ℤ → Bool
is_zero (pos zero) = true
is_zero (pos (suc n)) = false
is_zero (negsuc n) = false

abbrev pub negative : ℤ → Bool
negative (pos n) = false
negative (negsuc n) = true

abbrev pub positive : ℤ → Bool
positive (pos zero) = false
positive (pos (suc n)) = true
positive (negsuc n) = false

-- neither is negative, or neither is positive
abbrev pub signs_agree : ℤ → ℤ → Bool
signs_agree x y = pick (negative x) (not (positive y)) (pick (positive x) (not (negative y)) true)

-- the first is at least the second, without their signs
abbrev pub at_least : ℤ → ℤ → Bool
at_least x y = leb (nat_abs y) (nat_abs x)

-- ---- what they say

abbrev pub Same : ℤ → ℤ → Type 0
Same x y = ((under x ≡ 0) × (under y ≡ 0)) ⊎ ((over x ≡ 0) × (over y ≡ 0))

abbrev pub Opposite : ℤ → ℤ → Type 0
Opposite x y = ((under x ≡ 0) × (over y ≡ 0)) ⊎ ((over x ≡ 0) × (under y ≡ 0))

pub zero_of_test : (x : ℤ) → is_zero x ≡ true → nat_abs x ≡ 0
zero_of_test (pos zero) t = refl
zero_of_test (pos (suc n)) t = absurd (false≢true t)
zero_of_test (negsuc n) t = absurd (false≢true t)

pub test_of_zero : (x : ℤ) → nat_abs x ≡ 0 → is_zero x ≡ true
test_of_zero (pos zero) e = refl
test_of_zero (pos (suc n)) e = absurd (omega arith)
test_of_zero (negsuc n) e = absurd (omega arith)

pub same_of_test : (x y : ℤ) → signs_agree x y ≡ true → Same x y
same_of_test (pos zero) (pos n) t = inl (refl, refl)
same_of_test (pos zero) (negsuc n) t = inr (refl, refl)
same_of_test (pos (suc m)) (pos n) t = inl (refl, refl)
same_of_test (pos (suc m)) (negsuc n) t = absurd (false≢true t)
same_of_test (negsuc m) (pos zero) t = inr (refl, refl)
same_of_test (negsuc m) (pos (suc n)) t = absurd (false≢true t)
same_of_test (negsuc m) (negsuc n) t = inr (refl, refl)

pub test_of_same : (x y : ℤ) → Same x y → signs_agree x y ≡ true
test_of_same (pos zero) y h = refl
test_of_same (pos (suc m)) (pos n) h = refl
test_of_same (pos (suc m)) (negsuc n) (inl h) = absurd (omega arith)
test_of_same (pos (suc m)) (negsuc n) (inr h) = absurd (omega arith)
test_of_same (negsuc m) (pos zero) h = refl
test_of_same (negsuc m) (pos (suc n)) (inl h) = absurd (omega arith)
test_of_same (negsuc m) (pos (suc n)) (inr h) = absurd (omega arith)
test_of_same (negsuc m) (negsuc n) h = refl

pub le_of_test : (x y : ℤ) → at_least x y ≡ true → nat_abs y ≤ nat_abs x
le_of_test x y t = leb→le (nat_abs y) (nat_abs x) (rw t tt)

pub test_of_le : (x y : ℤ) → nat_abs y ≤ nat_abs x → at_least x y ≡ true
test_of_le x y l = of_T (at_least x y) (le→leb (nat_abs y) (nat_abs x) l)
  where
    of_T : (t : Bool) → T t → t ≡ true
    of_T true h = refl
    of_T false h = absurd h

pub less_of_test : (x y : ℤ) → at_least x y ≡ false → nat_abs x < nat_abs y
less_of_test x y t = nleb→lt (nat_abs y) (nat_abs x) (rw t tt)

-- the tests do not see the sign of both
pub is_zero_negated : (x : ℤ) → is_zero (neg_ℤ x) ≡ is_zero x
is_zero_negated (pos zero) = refl
is_zero_negated (pos (suc n)) = refl
is_zero_negated (negsuc n) = refl

pub signs_agree_negated : (x y : ℤ) → signs_agree (neg_ℤ x) (neg_ℤ y) ≡ signs_agree x y
signs_agree_negated (pos zero) y = refl
signs_agree_negated (pos (suc m)) (pos zero) = refl
signs_agree_negated (pos (suc m)) (pos (suc n)) = refl
signs_agree_negated (pos (suc m)) (negsuc n) = refl
signs_agree_negated (negsuc m) (pos zero) = refl
signs_agree_negated (negsuc m) (pos (suc n)) = refl
signs_agree_negated (negsuc m) (negsuc n) = refl

pub at_least_negated : (x y : ℤ) → at_least (neg_ℤ x) (neg_ℤ y) ≡ at_least x y
at_least_negated x y = ap₂ leb (nat_abs-negℤ y) (nat_abs-negℤ x)

-- ---- which sign

pub same_of_zero : (x y : ℤ) → nat_abs y ≡ 0 → Same x y
same_of_zero (pos n) y e = inl (refl, omega (arith, nat_abs_parts y))
same_of_zero (negsuc n) y e = inr (refl, omega (arith, nat_abs_parts y))

pub opposite_of_zero : (x y : ℤ) → nat_abs y ≡ 0 → Opposite x y
opposite_of_zero (pos n) y e = inl (refl, omega (arith, nat_abs_parts y))
opposite_of_zero (negsuc n) y e = inr (refl, omega (arith, nat_abs_parts y))

pub same_turned : (x y : ℤ) → Same x y → Same y x
same_turned x y (inl h) = inl (h.1, h.0)
same_turned x y (inr h) = inr (h.1, h.0)

pub opposite_turned : (x y : ℤ) → Opposite x y → Opposite y x
opposite_turned x y (inl h) = inr (h.1, h.0)
opposite_turned x y (inr h) = inl (h.1, h.0)

-- both at once: one of the two is 0
pub both_signs : (x y : ℤ) → Same x y → Opposite x y → (nat_abs x ≡ 0) ⊎ (nat_abs y ≡ 0)
both_signs x y (inl h) (inl k) = inr (omega (arith, nat_abs_parts y))
both_signs x y (inl h) (inr k) = inl (omega (arith, nat_abs_parts x))
both_signs x y (inr h) (inl k) = inl (omega (arith, nat_abs_parts x))
both_signs x y (inr h) (inr k) = inr (omega (arith, nat_abs_parts y))

pub both_signs_smaller : (x y : ℤ) → Same x y → Opposite x y → nat_abs y ≤ nat_abs x → nat_abs y ≡ 0
both_signs_smaller x y p q l = go (both_signs x y p q)
  where
    go : (nat_abs x ≡ 0) ⊎ (nat_abs y ≡ 0) → nat_abs y ≡ 0
    go (inl z) = omega arith
    go (inr z) = z

pub opposite_negated : (x y : ℤ) → Opposite (neg_ℤ x) (neg_ℤ y) → Opposite x y
opposite_negated x y (inl h) = inr (sym (under-negℤ x) ∙ h.0, sym (over-negℤ y) ∙ h.1)
opposite_negated x y (inr h) = inl (sym (over-negℤ x) ∙ h.0, sym (under-negℤ y) ∙ h.1)

-- R: the second, and the first with its sign changed
pub same_r : (x y : ℤ) → Opposite x y → Same y (neg_ℤ x)
same_r x y (inl h) = inr (h.1, over-negℤ x ∙ h.0)
same_r x y (inr h) = inl (h.1, under-negℤ x ∙ h.0)

pub opposite_r : (x y : ℤ) → Same x y → Opposite y (neg_ℤ x)
opposite_r x y (inl h) = inl (h.1, over-negℤ x ∙ h.0)
opposite_r x y (inr h) = inr (h.1, under-negℤ x ∙ h.0)

-- ---- the sum of the two

under_sum : (x y : ℤ) → under x + under y ≤ over x + over y → under (x +ℤ y) ≡ 0
under_sum x y l = go (side (x +ℤ y))
  where
    go : (over (x +ℤ y) ≡ 0) ⊎ (under (x +ℤ y) ≡ 0) → under (x +ℤ y) ≡ 0
    go (inl h) = omega (arith, value_is (num x ⊕ num y))
    go (inr h) = h

over_sum : (x y : ℤ) → over x + over y ≤ under x + under y → over (x +ℤ y) ≡ 0
over_sum x y l = go (side (x +ℤ y))
  where
    go : (over (x +ℤ y) ≡ 0) ⊎ (under (x +ℤ y) ≡ 0) → over (x +ℤ y) ≡ 0
    go (inl h) = h
    go (inr h) = omega (arith, value_is (num x ⊕ num y))

-- S: the sum, and the first with its sign changed
pub opposite_s : (x y : ℤ) → Same x y → Opposite (x +ℤ y) (neg_ℤ x)
opposite_s x y (inl h) = inl (under_sum x y (omega arith), over-negℤ x ∙ h.0)
opposite_s x y (inr h) = inr (over_sum x y (omega arith), under-negℤ x ∙ h.0)

-- SS: the second, and the sum with its sign changed
pub opposite_ss : (x y : ℤ) → Same x y → Opposite y (neg_ℤ (x +ℤ y))
opposite_ss x y (inl h) = inl (h.1, over-negℤ (x +ℤ y) ∙ under_sum x y (omega arith))
opposite_ss x y (inr h) = inr (h.1, under-negℤ (x +ℤ y) ∙ over_sum x y (omega arith))

pub nat_abs_same : (x y : ℤ) → Same x y → nat_abs (x +ℤ y) ≡ nat_abs x + nat_abs y
nat_abs_same x y (inl h) =
    omega (arith, nat_abs_parts x, nat_abs_parts y, nat_abs_parts (x +ℤ y), value_is (num x ⊕ num y), under_sum x y (omega arith))
nat_abs_same x y (inr h) =
    omega (arith, nat_abs_parts x, nat_abs_parts y, nat_abs_parts (x +ℤ y), value_is (num x ⊕ num y), over_sum x y (omega arith))

pub nat_abs_first_larger : (x y : ℤ) → Opposite x y → nat_abs y ≤ nat_abs x → nat_abs (x +ℤ y) + nat_abs y ≡ nat_abs x
nat_abs_first_larger x y (inl h) l =
    let k : under (x +ℤ y) ≡ 0 = under_sum x y (omega (arith, nat_abs_parts x, nat_abs_parts y)) in
    omega (arith, nat_abs_parts x, nat_abs_parts y, nat_abs_parts (x +ℤ y), value_is (num x ⊕ num y))
nat_abs_first_larger x y (inr h) l =
    let k : over (x +ℤ y) ≡ 0 = over_sum x y (omega (arith, nat_abs_parts x, nat_abs_parts y)) in
    omega (arith, nat_abs_parts x, nat_abs_parts y, nat_abs_parts (x +ℤ y), value_is (num x ⊕ num y))

pub nat_abs_second_larger : (x y : ℤ) → Opposite x y → nat_abs x ≤ nat_abs y → nat_abs (x +ℤ y) + nat_abs x ≡ nat_abs y
nat_abs_second_larger x y h l = rw (+ℤ_comm x y) (nat_abs_first_larger y x (opposite_turned x y h) l)
