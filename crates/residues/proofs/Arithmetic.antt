-- Residues modulo 7 of sums, products and negations.
--     residue_is                                         the residue of a difference p - n is that of p + 6 n
--     residue_sum, residue_product, residue_negated      residues of what is made of two numbers go by the numbers' residues
--     residues_times, residues_negated                   the same of matrices
-- Assumes nothing.
use mathlib.Core.Path.{◌≡◌, refl, sym, ap, ap₂, ◌∙◌}
use Prim.Native.Nat.{ℕ, ◌+◌, ◌*◌, ◌-◌, ◌<◌, ◌/◌, ◌%◌}
use native.Mathlib.Nat.{mod-lt, mod-eq_of_lt, add-mod, div-add-mod, add-mul-mod_self_left}
use native.Mathlib.Omega.{arith}
use lib.Dec.{lit<}
use lib.IntN.{ℤ, pos, negsuc, neg_ℤ, ◌+ℤ◌, ◌*ℤ◌}
use Rattle.unimodular.specs.Matrix.{Matrix, negated, times}
use Rattle.unimodular.proofs.Integers.{over, under, Is, num, minus, ◌⊕◌, ◌⊗◌, value_is}
use Rattle.residues.specs.Residues.{residue, Quadruple, residues, matrix}

-- what differs by a multiple of 7 has the same remainder
without_sevens : (m k j : ℕ) → m ≡ k + 7 * j → m % 7 ≡ k % 7
without_sevens m k j e = ap (λ (x : ℕ). x % 7) e ∙ add-mul-mod_self_left k 7 j

multiply_out : (q r p s : ℕ) → (7 * q + r) * (7 * p + s) ≡ r * s + 7 * (q * (7 * p + s) + r * p)
multiply_out q r p s = omega arith

mul_mod : (x y : ℕ) → (x * y) % 7 ≡ ((x % 7) * (y % 7)) % 7
mul_mod x y =
    sym (ap₂ (λ (a b : ℕ). (a * b) % 7) (div-add-mod x 7) (div-add-mod y 7))
    ∙ without_sevens ((7 * (x / 7) + x % 7) * (7 * (y / 7) + y % 7)) ((x % 7) * (y % 7)) ((x / 7) * (7 * (y / 7) + y % 7) + (x % 7) * (y / 7))
    (multiply_out (x / 7) (x % 7) (y / 7) (y % 7))

pub residue_small : (z : ℤ) → residue z < 7
residue_small (pos n) = mod-lt n (lit< tt)
residue_small (negsuc n) = omega arith

pub residue_is : (z : ℤ) (p n : ℕ) → Is z p n → residue z ≡ (p + 6 * n) % 7
residue_is (pos a) p n h = sym (without_sevens (p + 6 * n) a n (omega arith))
residue_is (negsuc a) p n h =
    let small : a % 7 < 7 = mod-lt a (lit< tt) in
    sym (without_sevens (p + 6 * n) (6 - a % 7) (p + 6 * (a / 7) + a % 7) (omega (arith, div-add-mod a 7)) ∙ mod-eq_of_lt (omega arith))

-- a number's own difference
residue_parts : (z : ℤ) → residue z ≡ (over z + 6 * under z) % 7
residue_parts z = residue_is z (over z) (under z) (value_is (num z))

pub residue_sum : (x y : ℤ) → residue (x +ℤ y) ≡ (residue x + residue y) % 7
residue_sum x y =
    residue_is (x +ℤ y) (over x + over y) (under x + under y) (value_is (num x ⊕ num y))
    ∙ ap (λ (k : ℕ). k % 7) (regroup (over x) (over y) (under x) (under y))
    ∙ add-mod (over x + 6 * under x) (over y + 6 * under y) 7
    ∙ sym (ap₂ (λ (a b : ℕ). (a + b) % 7) (residue_parts x) (residue_parts y))
  where
    regroup : (p q n m : ℕ) → (p + q) + 6 * (n + m) ≡ (p + 6 * n) + (q + 6 * m)
    regroup p q n m = omega arith

pub residue_product : (x y : ℤ) → residue (x *ℤ y) ≡ (residue x * residue y) % 7
residue_product x y =
    residue_is (x *ℤ y) (over x * over y + under x * under y) (over x * under y + under x * over y) (value_is (num x ⊗ num y))
    ∙ sym (without_sevens ((over x + 6 * under x) * (over y + 6 * under y)) ((over x * over y + under x * under y) + 6 * (over x * under y + under x * over y)) (5 * (under x * under y)) (regroup (over x) (over y) (under x) (under y)))
    ∙ mul_mod (over x + 6 * under x) (over y + 6 * under y)
    ∙ sym (ap₂ (λ (a b : ℕ). (a * b) % 7) (residue_parts x) (residue_parts y))
  where
    regroup : (p q n m : ℕ) → (p + 6 * n) * (q + 6 * m) ≡ ((p * q + n * m) + 6 * (p * m + n * q)) + 7 * (5 * (n * m))
    regroup p q n m = omega arith

pub residue_negated : (x : ℤ) → residue (neg_ℤ x) ≡ (6 * residue x) % 7
residue_negated x =
    residue_is (neg_ℤ x) (under x) (over x) (value_is (minus (num x)))
    ∙ sym (without_sevens (6 * (over x + 6 * under x)) (under x + 6 * over x) (5 * under x) (omega arith))
    ∙ mul_mod 6 (over x + 6 * under x)
    ∙ sym (ap (λ (a : ℕ). (6 * a) % 7) (residue_parts x))

-- ---- matrices

pub quadruple : {p q : Quadruple} → p.a ≡ q.a → p.b ≡ q.b → p.c ≡ q.c → p.d ≡ q.d → p ≡ q
quadruple e f g h = λ i. record { a = e i; b = f i; c = g i; d = h i }

-- an entry that is taken for its residue
residue_residue : (z : ℤ) → residue (pos (residue z)) ≡ residue z
residue_residue z = mod-eq_of_lt (residue_small z)

pub residues_residues : (m : Matrix) → residues (matrix (residues m)) ≡ residues m
residues_residues m = quadruple (residue_residue m.a) (residue_residue m.b) (residue_residue m.c) (residue_residue m.d)

dot : (x y z t : ℤ) → residue ((x *ℤ z) +ℤ (y *ℤ t)) ≡ ((residue x * residue z) % 7 + (residue y * residue t) % 7) % 7
dot x y z t = residue_sum (x *ℤ z) (y *ℤ t) ∙ ap₂ (λ (a b : ℕ). (a + b) % 7) (residue_product x z) (residue_product y t)

-- matrices that are the same modulo 7 have products that are
pub residues_times : (k l m n : Matrix) → residues k ≡ residues l → residues m ≡ residues n → residues (times k m) ≡ residues (times l n)
residues_times k l m n e f =
    quadruple
    (entry k.a k.b m.a m.c l.a l.b n.a n.c (ap (λ q. q.a) e) (ap (λ q. q.b) e) (ap (λ q. q.a) f) (ap (λ q. q.c) f))
    (entry k.a k.b m.b m.d l.a l.b n.b n.d (ap (λ q. q.a) e) (ap (λ q. q.b) e) (ap (λ q. q.b) f) (ap (λ q. q.d) f))
    (entry k.c k.d m.a m.c l.c l.d n.a n.c (ap (λ q. q.c) e) (ap (λ q. q.d) e) (ap (λ q. q.a) f) (ap (λ q. q.c) f))
    (entry k.c k.d m.b m.d l.c l.d n.b n.d (ap (λ q. q.c) e) (ap (λ q. q.d) e) (ap (λ q. q.b) f) (ap (λ q. q.d) f))
  where
    entry : (x y z t x' y' z' t' : ℤ) → residue x ≡ residue x' → residue y ≡ residue y' → residue z ≡ residue z' → residue t ≡ residue t'
        → residue ((x *ℤ z) +ℤ (y *ℤ t)) ≡ residue ((x' *ℤ z') +ℤ (y' *ℤ t'))
    entry x y z t x' y' z' t' ex ey ez et = dot x y z t ∙ (rw (ex, ey, ez, et) refl) ∙ sym (dot x' y' z' t')

pub residues_negated : (m n : Matrix) → residues m ≡ residues n → residues (negated m) ≡ residues (negated n)
residues_negated m n e =
    quadruple (entry m.a n.a (ap (λ q. q.a) e)) (entry m.b n.b (ap (λ q. q.b) e)) (entry m.c n.c (ap (λ q. q.c) e)) (entry m.d n.d (ap (λ q. q.d) e))
  where
    entry : (x y : ℤ) → residue x ≡ residue y → residue (neg_ℤ x) ≡ residue (neg_ℤ y)
    entry x y h = residue_negated x ∙ ap (λ (a : ℕ). (6 * a) % 7) h ∙ sym (residue_negated y)
