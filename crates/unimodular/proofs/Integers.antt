-- The laws of ℤ that matrices need and `lib.IntN` lacks. Each comes down to natural numbers, where omega multiplies out:
-- a whole number is what it has over zero less what it has under zero, and so is a sum, a negation, a product of such differences.
--     same_value             two expressions that agree as differences have the same value: the way to prove an equation in ℤ
--     *ℤ-assoc, *ℤ-+ℤ, ..    the laws of the product
--     natAbs-..              the absolute value of a sum, a product, a negation
-- Assumes nothing.
use mathlib.Core.Path.{◌≡◌, refl, ap}
use mathlib.Core.Logic.{◌⊎◌, inl, inr}
use mathlib.Core.Bool.{Bool, true, false, cond}
use Prim.Native.Nat.{ℕ, zero, suc, ◌+◌, ◌*◌, ◌-◌, ◌≤◌, ◌<◌}
use native.Mathlib.Omega.{arith}
use lib.Dec.{ltb, ltb→lt, nltb→le}
use lib.IntN.{ℤ, pos, negsuc, neg_ℤ, nat_abs, sub_ℕ, ◌+ℤ◌, ◌-ℤ◌, ◌*ℤ◌}

abbrev pub over : ℤ → ℕ
over (pos n) = n
over (negsuc n) = 0

abbrev pub under : ℤ → ℕ
under (pos n) = 0
under (negsuc n) = suc n

-- z is p - n
abbrev pub Is : ℤ → ℕ → ℕ → Type 0
Is z p n = p + under z ≡ n + over z

-- ---- the operations on differences

is_sub : (p n : ℕ) → Is (sub_ℕ p n) p n
is_sub p n = go (ltb p n) refl
  where
    go : (t : Bool) → ltb p n ≡ t → Is (cond t (negsuc (n - suc p)) (pos (p - n))) p n
    go true e = let h : p < n = ltb→lt p n (rw e tt) in omega arith
    go false e = let h : n ≤ p = nltb→le p n (rw e tt) in omega arith

is_negated : (z : ℤ) (p n : ℕ) → Is z p n → Is (neg_ℤ z) n p
is_negated (pos zero) p n h = omega arith
is_negated (pos (suc k)) p n h = omega arith
is_negated (negsuc k) p n h = omega arith

is_sum : (x y : ℤ) (p n q m : ℕ) → Is x p n → Is y q m → Is (x +ℤ y) (p + q) (n + m)
is_sum (pos a) (pos b) p n q m h k = omega arith
is_sum (pos a) (negsuc b) p n q m h k = omega (arith, is_sub a (suc b))
is_sum (negsuc a) (pos b) p n q m h k = omega (arith, is_sub b (suc a))
is_sum (negsuc a) (negsuc b) p n q m h k = omega arith

is_product : (x y : ℤ) (p n q m : ℕ) → Is x p n → Is y q m → Is (x *ℤ y) (p * q + n * m) (p * m + n * q)
is_product (pos a) (pos b) p n q m h k =
    let e : p ≡ n + a = omega arith in
    let f : q ≡ m + b = omega arith in
    rw (e, f) (omega arith)
is_product (pos a) (negsuc b) p n q m h k =
    let e : p ≡ n + a = omega arith in
    let f : m ≡ q + suc b = omega arith in
    rw (e, f) (omega (arith, is_negated (pos (a * suc b)) (a * suc b) 0 (omega arith)))
is_product (negsuc a) (pos b) p n q m h k =
    let e : n ≡ p + suc a = omega arith in
    let f : q ≡ m + b = omega arith in
    rw (e, f) (omega (arith, is_negated (pos (suc a * b)) (suc a * b) 0 (omega arith)))
is_product (negsuc a) (negsuc b) p n q m h k =
    let e : n ≡ p + suc a = omega arith in
    let f : m ≡ q + suc b = omega arith in
    rw (e, f) (omega arith)

-- a number is known by its difference
is_unique : (x y : ℤ) (p n q m : ℕ) → Is x p n → Is y q m → p + m ≡ n + q → x ≡ y
is_unique (pos a) (pos b) p n q m h k e = ap pos (omega arith)
is_unique (pos a) (negsuc b) p n q m h k e = absurd (omega arith)
is_unique (negsuc a) (pos b) p n q m h k e = absurd (omega arith)
is_unique (negsuc a) (negsuc b) p n q m h k e = ap negsuc (omega arith)

-- ---- expressions: two that agree as differences have the same value

pub data Expression : Type 0 where
  num : ℤ → Expression
  minus : Expression → Expression
  ◌⊕◌ : Expression → Expression → Expression
  ◌⊗◌ : Expression → Expression → Expression

infixl 6 ◌⊕◌
infixl 7 ◌⊗◌
abbrev pub value : Expression → ℤ
value (num z) = z
value (minus e) = neg_ℤ (value e)
value (e ⊕ f) = value e +ℤ value f
value (e ⊗ f) = value e *ℤ value f

-- the value is `plus e` less `less e`
abbrev mutual
  pub plus : Expression → ℕ
  plus (num z) = over z
  plus (minus e) = less e
  plus (e ⊕ f) = plus e + plus f
  plus (e ⊗ f) = plus e * plus f + less e * less f

  pub less : Expression → ℕ
  less (num z) = under z
  less (minus e) = plus e
  less (e ⊕ f) = less e + less f
  less (e ⊗ f) = plus e * less f + less e * plus f

pub value_is : (e : Expression) → Is (value e) (plus e) (less e)
value_is (num z) = omega arith
value_is (minus e) = is_negated (value e) (plus e) (less e) (value_is e)
value_is (e ⊕ f) = is_sum (value e) (value f) (plus e) (less e) (plus f) (less f) (value_is e) (value_is f)
value_is (e ⊗ f) = is_product (value e) (value f) (plus e) (less e) (plus f) (less f) (value_is e) (value_is f)

pub same_value : (e f : Expression) → plus e + less f ≡ less e + plus f → value e ≡ value f
same_value e f h = is_unique (value e) (value f) (plus e) (less e) (plus f) (less f) (value_is e) (value_is f) h

-- ---- the laws

pub *ℤ-assoc : (x y z : ℤ) → (x *ℤ y) *ℤ z ≡ x *ℤ (y *ℤ z)
*ℤ-assoc x y z = same_value ((num x ⊗ num y) ⊗ num z) (num x ⊗ (num y ⊗ num z)) (omega arith)

pub *ℤ-+ℤ : (x y z : ℤ) → x *ℤ (y +ℤ z) ≡ x *ℤ y +ℤ x *ℤ z
*ℤ-+ℤ x y z = same_value (num x ⊗ (num y ⊕ num z)) (num x ⊗ num y ⊕ num x ⊗ num z) (omega arith)

pub +ℤ-*ℤ : (x y z : ℤ) → (x +ℤ y) *ℤ z ≡ x *ℤ z +ℤ y *ℤ z
+ℤ-*ℤ x y z = same_value ((num x ⊕ num y) ⊗ num z) (num x ⊗ num z ⊕ num y ⊗ num z) (omega arith)

pub negℤ-*ℤ : (x y : ℤ) → neg_ℤ x *ℤ y ≡ neg_ℤ (x *ℤ y)
negℤ-*ℤ x y = same_value (minus (num x) ⊗ num y) (minus (num x ⊗ num y)) (omega arith)

pub *ℤ-negℤ : (x y : ℤ) → x *ℤ neg_ℤ y ≡ neg_ℤ (x *ℤ y)
*ℤ-negℤ x y = same_value (num x ⊗ minus (num y)) (minus (num x ⊗ num y)) (omega arith)

-- ---- the absolute value

pub nat_abs_parts : (z : ℤ) → nat_abs z ≡ over z + under z
nat_abs_parts (pos n) = omega arith
nat_abs_parts (negsuc n) = omega arith

pub over-negℤ : (z : ℤ) → over (neg_ℤ z) ≡ under z
over-negℤ (pos zero) = refl
over-negℤ (pos (suc n)) = refl
over-negℤ (negsuc n) = refl

pub under-negℤ : (z : ℤ) → under (neg_ℤ z) ≡ over z
under-negℤ (pos zero) = refl
under-negℤ (pos (suc n)) = refl
under-negℤ (negsuc n) = refl

-- one of the two parts is 0
pub side : (z : ℤ) → (over z ≡ 0) ⊎ (under z ≡ 0)
side (pos n) = inr refl
side (negsuc n) = inl refl

pub nat_abs-negℤ : (z : ℤ) → nat_abs (neg_ℤ z) ≡ nat_abs z
nat_abs-negℤ (pos zero) = refl
nat_abs-negℤ (pos (suc n)) = refl
nat_abs-negℤ (negsuc n) = refl

pub nat_abs-+ℤ : (x y : ℤ) → nat_abs (x +ℤ y) ≤ nat_abs x + nat_abs y
nat_abs-+ℤ x y = go (side (x +ℤ y))
  where
    go : (over (x +ℤ y) ≡ 0) ⊎ (under (x +ℤ y) ≡ 0) → nat_abs (x +ℤ y) ≤ nat_abs x + nat_abs y
    go (inl h) = omega (arith, nat_abs_parts x, nat_abs_parts y, nat_abs_parts (x +ℤ y), value_is (num x ⊕ num y))
    go (inr h) = omega (arith, nat_abs_parts x, nat_abs_parts y, nat_abs_parts (x +ℤ y), value_is (num x ⊕ num y))

pub nat_abs-*ℤ : (x y : ℤ) → nat_abs (x *ℤ y) ≡ nat_abs x * nat_abs y
nat_abs-*ℤ (pos a) (pos b) = refl
nat_abs-*ℤ (pos a) (negsuc b) = nat_abs-negℤ (pos (a * suc b))
nat_abs-*ℤ (negsuc a) (pos b) = nat_abs-negℤ (pos (suc a * b))
nat_abs-*ℤ (negsuc a) (negsuc b) = refl

-- absolute values of neighbours differ by 1
pub nat_abs_neighbours : (x y : ℤ) → x -ℤ y ≡ pos 1 → (nat_abs x ≡ nat_abs y + 1) ⊎ (nat_abs y ≡ nat_abs x + 1)
nat_abs_neighbours x y e = go y (rw e at (value_is (num x ⊕ minus (num y)))) (side x)
  where
    go : (y : ℤ) → Is (pos 1) (over x + under y) (under x + over y) → (over x ≡ 0) ⊎ (under x ≡ 0) → (nat_abs x ≡ nat_abs y + 1) ⊎ (nat_abs y ≡ nat_abs x + 1)
    go (pos n) h (inl k) = inl (omega (arith, nat_abs_parts x))
    go (pos n) h (inr k) = inl (omega (arith, nat_abs_parts x))
    go (negsuc n) h (inl k) = inr (omega (arith, nat_abs_parts x))
    go (negsuc n) h (inr k) = inr (omega (arith, nat_abs_parts x))
