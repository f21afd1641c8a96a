-- The product of matrices, the sign, and the matrix of a word.
--     times_assoc, times_unit, unit_times      matrices are a monoid
--     negated_times, times_negated             a sign comes out of a product
--     sign_refl, sign_sym, sign_trans, sign_times    being the same up to sign is an equivalence, and a congruence for the product
--     matrix_of_append, matrix_of_snoc           the matrix of two words, one behind the other
--     times_r, times_s, times_ss               a letter behind a matrix moves and adds its columns
--     determinant-..                           the determinant of a word's matrix is 1, and a letter or a sign does not change it
-- Assumes nothing.
use mathlib.Core.Path.{◌≡◌, refl, sym, ap, ap₂, ◌∙◌}
use mathlib.Core.Logic.{inl, inr}
use mathlib.Core.List.{[], ◌∷◌, ◌++◌}
use native.Mathlib.Omega.{arith}
use lib.IntN.{ℤ, pos, negsuc, neg_ℤ, neg_ℤ-neg_ℤ, ◌+ℤ◌, ◌*ℤ◌}
use Rattle.words.specs.Word.{Letter, R, S, Word}
use Rattle.unimodular.specs.Matrix.{Matrix, unit, negated, times, determinant, UpToSign, matrix_of_letter, matrix_of}
use Rattle.unimodular.proofs.Integers.{Expression, num, minus, ◌⊕◌, ◌⊗◌, same_value, *ℤ-assoc, *ℤ-+ℤ}

-- two matrices with the same four entries
pub entries : {m n : Matrix} → m.a ≡ n.a → m.b ≡ n.b → m.c ≡ n.c → m.d ≡ n.d → m ≡ n
entries p q r s = λ i. record { a = p i; b = q i; c = r i; d = s i }

-- an entry of a product: a row and a column
abbrev dot : Expression → Expression → Expression → Expression → Expression
dot x y z t = x ⊗ z ⊕ y ⊗ t

-- ---- the monoid

pub times_assoc : (k m n : Matrix) → times (times k m) n ≡ times k (times m n)
times_assoc k m n =
    entries (entry k.a k.b n.a n.c) (entry k.a k.b n.b n.d)
    (entry k.c k.d n.a n.c) (entry k.c k.d n.b n.d)
  where
    regroup : (p q r s z t : ℤ) → (p +ℤ q) *ℤ z +ℤ (r +ℤ s) *ℤ t ≡ (p *ℤ z +ℤ r *ℤ t) +ℤ (q *ℤ z +ℤ s *ℤ t)
    regroup p q r s z t =
        same_value (dot (num p ⊕ num q) (num r ⊕ num s) (num z) (num t))
        (dot (num p) (num r) (num z) (num t) ⊕ dot (num q) (num s) (num z) (num t)) (omega arith)

    pull : (x p q z t : ℤ) → (x *ℤ p) *ℤ z +ℤ (x *ℤ q) *ℤ t ≡ x *ℤ ((p *ℤ z) +ℤ (q *ℤ t))
    pull x p q z t = ap₂ ◌+ℤ◌ (*ℤ-assoc x p z) (*ℤ-assoc x q t) ∙ sym (*ℤ-+ℤ x (p *ℤ z) (q *ℤ t))

    entry : (x y z t : ℤ) →
        ((x *ℤ m.a) +ℤ (y *ℤ m.c)) *ℤ z +ℤ ((x *ℤ m.b) +ℤ (y *ℤ m.d)) *ℤ t ≡ x *ℤ ((m.a *ℤ z) +ℤ (m.b *ℤ t)) +ℤ y *ℤ ((m.c *ℤ z) +ℤ (m.d *ℤ t))
    entry x y z t =
        regroup (x *ℤ m.a) (y *ℤ m.c) (x *ℤ m.b) (y *ℤ m.d) z t ∙ ap₂ ◌+ℤ◌ (pull x m.a m.b z t) (pull y m.c m.d z t)

pub times_unit : (m : Matrix) → times m unit ≡ m
times_unit m = entries (first m.a m.b) (second m.a m.b) (first m.c m.d) (second m.c m.d)
  where
    first : (x y : ℤ) → (x *ℤ pos 1) +ℤ (y *ℤ pos 0) ≡ x
    first x y = same_value (dot (num x) (num y) (num (pos 1)) (num (pos 0))) (num x) (omega arith)

    second : (x y : ℤ) → (x *ℤ pos 0) +ℤ (y *ℤ pos 1) ≡ y
    second x y = same_value (dot (num x) (num y) (num (pos 0)) (num (pos 1))) (num y) (omega arith)

pub unit_times : (m : Matrix) → times unit m ≡ m
unit_times m = entries (first m.a m.c) (first m.b m.d) (second m.a m.c) (second m.b m.d)
  where
    first : (x y : ℤ) → (pos 1 *ℤ x) +ℤ (pos 0 *ℤ y) ≡ x
    first x y = same_value (dot (num (pos 1)) (num (pos 0)) (num x) (num y)) (num x) (omega arith)

    second : (x y : ℤ) → (pos 0 *ℤ x) +ℤ (pos 1 *ℤ y) ≡ y
    second x y = same_value (dot (num (pos 0)) (num (pos 1)) (num x) (num y)) (num y) (omega arith)

-- ---- the sign

pub negated_times : (m n : Matrix) → times (negated m) n ≡ negated (times m n)
negated_times m n =
    entries (entry m.a m.b n.a n.c) (entry m.a m.b n.b n.d)
    (entry m.c m.d n.a n.c) (entry m.c m.d n.b n.d)
  where
    entry : (x y z t : ℤ) → (neg_ℤ x *ℤ z) +ℤ (neg_ℤ y *ℤ t) ≡ neg_ℤ ((x *ℤ z) +ℤ (y *ℤ t))
    entry x y z t = same_value (dot (minus (num x)) (minus (num y)) (num z) (num t)) (minus (dot (num x) (num y) (num z) (num t))) (omega arith)

pub times_negated : (m n : Matrix) → times m (negated n) ≡ negated (times m n)
times_negated m n =
    entries (entry m.a m.b n.a n.c) (entry m.a m.b n.b n.d)
    (entry m.c m.d n.a n.c) (entry m.c m.d n.b n.d)
  where
    entry : (x y z t : ℤ) → (x *ℤ neg_ℤ z) +ℤ (y *ℤ neg_ℤ t) ≡ neg_ℤ ((x *ℤ z) +ℤ (y *ℤ t))
    entry x y z t = same_value (dot (num x) (num y) (minus (num z)) (minus (num t))) (minus (dot (num x) (num y) (num z) (num t))) (omega arith)

pub negated_negated : (m : Matrix) → negated (negated m) ≡ m
negated_negated m = entries (neg_ℤ-neg_ℤ m.a) (neg_ℤ-neg_ℤ m.b) (neg_ℤ-neg_ℤ m.c) (neg_ℤ-neg_ℤ m.d)

pub sign_refl : (m : Matrix) → UpToSign m m
sign_refl m = inl refl

pub sign_negated : (m : Matrix) → UpToSign (negated m) m
sign_negated m = inr refl

pub sign_sym : {m n : Matrix} → UpToSign m n → UpToSign n m
sign_sym (inl e) = inl (sym e)
sign_sym {m} {n} (inr e) = inr (sym (ap negated e ∙ negated_negated n))

pub sign_trans : {k m n : Matrix} → UpToSign k m → UpToSign m n → UpToSign k n
sign_trans (inl e) (inl f) = inl (e ∙ f)
sign_trans (inl e) (inr f) = inr (e ∙ f)
sign_trans (inr e) (inl f) = inr (e ∙ ap negated f)
sign_trans {k} {m} {n} (inr e) (inr f) = inl (e ∙ ap negated f ∙ negated_negated n)

pub sign_times : {k l m n : Matrix} → UpToSign k l → UpToSign m n → UpToSign (times k m) (times l n)
sign_times (inl e) (inl f) = inl (ap₂ times e f)
sign_times {l = l} {n = n} (inl e) (inr f) = inr (ap₂ times e f ∙ times_negated l n)
sign_times {l = l} {n = n} (inr e) (inl f) = inr (ap₂ times e f ∙ negated_times l n)
sign_times {l = l} {n = n} (inr e) (inr f) =
    inl (ap₂ times e f ∙ negated_times l (negated n) ∙ ap negated (times_negated l n) ∙ negated_negated (times l n))

-- ---- words

pub matrix_of_append : (u v : Word) → matrix_of (u ++ v) ≡ times (matrix_of u) (matrix_of v)
matrix_of_append [] v = sym (unit_times (matrix_of v))
matrix_of_append (x ∷ u) v = ap (times (matrix_of_letter x)) (matrix_of_append u v) ∙ sym (times_assoc (matrix_of_letter x) (matrix_of u) (matrix_of v))

pub matrix_of_snoc : (w : Word) (x : Letter) → matrix_of (w ++ x ∷ []) ≡ times (matrix_of w) (matrix_of_letter x)
matrix_of_snoc w x = matrix_of_append w (x ∷ []) ∙ ap (times (matrix_of w)) (times_unit (matrix_of_letter x))

-- ---- a letter behind a matrix: R puts the second column first and the first, with its sign changed, second; S puts their sum before it

pub times_r : (m : Matrix) → times m (matrix_of_letter R) ≡ record { a = m.b; b = neg_ℤ m.a; c = m.d; d = neg_ℤ m.c }
times_r m = entries (first m.a m.b) (second m.a m.b) (first m.c m.d) (second m.c m.d)
  where
    first : (x y : ℤ) → (x *ℤ pos 0) +ℤ (y *ℤ pos 1) ≡ y
    first x y = same_value (dot (num x) (num y) (num (pos 0)) (num (pos 1))) (num y) (omega arith)

    second : (x y : ℤ) → (x *ℤ negsuc 0) +ℤ (y *ℤ pos 0) ≡ neg_ℤ x
    second x y = same_value (dot (num x) (num y) (num (negsuc 0)) (num (pos 0))) (minus (num x)) (omega arith)

pub times_s : (m : Matrix) →
    times m (matrix_of_letter S) ≡ record { a = m.a +ℤ m.b; b = neg_ℤ m.a; c = m.c +ℤ m.d; d = neg_ℤ m.c }
times_s m = entries (first m.a m.b) (second m.a m.b) (first m.c m.d) (second m.c m.d)
  where
    first : (x y : ℤ) → (x *ℤ pos 1) +ℤ (y *ℤ pos 1) ≡ x +ℤ y
    first x y = same_value (dot (num x) (num y) (num (pos 1)) (num (pos 1))) (num x ⊕ num y) (omega arith)

    second : (x y : ℤ) → (x *ℤ negsuc 0) +ℤ (y *ℤ pos 0) ≡ neg_ℤ x
    second x y = same_value (dot (num x) (num y) (num (negsuc 0)) (num (pos 0))) (minus (num x)) (omega arith)

pub times_ss : (m : Matrix) →
    times (times m (matrix_of_letter S)) (matrix_of_letter S) ≡ record { a = m.b; b = neg_ℤ (m.a +ℤ m.b); c = m.d; d = neg_ℤ (m.c +ℤ m.d) }
times_ss m =
    ap (λ (n : Matrix). times n (matrix_of_letter S)) (times_s m) ∙ times_s (record { a = m.a +ℤ m.b; b = neg_ℤ m.a; c = m.c +ℤ m.d; d = neg_ℤ m.c })
    ∙ entries (rest m.a m.b) refl (rest m.c m.d) refl
  where
    rest : (x y : ℤ) → (x +ℤ y) +ℤ neg_ℤ x ≡ y
    rest x y = same_value ((num x ⊕ num y) ⊕ minus (num x)) (num y) (omega arith)

-- the two rules, behind any matrix
pub times_rr : (m : Matrix) → times (times m (matrix_of_letter R)) (matrix_of_letter R) ≡ negated m
times_rr m = times_assoc m (matrix_of_letter R) (matrix_of_letter R) ∙ times_negated m unit ∙ ap negated (times_unit m)

pub times_sss : (m : Matrix) → times (times (times m (matrix_of_letter S)) (matrix_of_letter S)) (matrix_of_letter S) ≡ negated m
times_sss m =
    times_assoc (times m (matrix_of_letter S)) (matrix_of_letter S) (matrix_of_letter S)
    ∙ times_assoc m (matrix_of_letter S) (times (matrix_of_letter S) (matrix_of_letter S))
    ∙ times_negated m unit ∙ ap negated (times_unit m)

-- ---- the determinant

abbrev det : Expression → Expression → Expression → Expression → Expression
det x y z t = x ⊗ t ⊕ minus (y ⊗ z)

abbrev det_of : Matrix → Expression
det_of m = det (num m.a) (num m.b) (num m.c) (num m.d)

abbrev det_times : Matrix → Matrix → Expression
det_times m n =
    det
    (dot (num m.a) (num m.b) (num n.a) (num n.c)) (dot (num m.a) (num m.b) (num n.b) (num n.d))
    (dot (num m.c) (num m.d) (num n.a) (num n.c)) (dot (num m.c) (num m.d) (num n.b) (num n.d))

pub determinant_negated : (m : Matrix) → determinant (negated m) ≡ determinant m
determinant_negated m =
    same_value (det (minus (num m.a)) (minus (num m.b)) (minus (num m.c)) (minus (num m.d))) (det_of m) (omega arith)

pub determinant_sign : {m n : Matrix} → UpToSign m n → determinant m ≡ determinant n
determinant_sign (inl e) = ap determinant e
determinant_sign {m} {n} (inr e) = ap determinant e ∙ determinant_negated n

pub determinant_letter_times : (x : Letter) (m : Matrix) → determinant (times (matrix_of_letter x) m) ≡ determinant m
determinant_letter_times R m = same_value (det_times (matrix_of_letter R) m) (det_of m) (omega arith)
determinant_letter_times S m = same_value (det_times (matrix_of_letter S) m) (det_of m) (omega arith)

pub determinant_times_letter : (m : Matrix) (x : Letter) → determinant (times m (matrix_of_letter x)) ≡ determinant m
determinant_times_letter m R = same_value (det_times m (matrix_of_letter R)) (det_of m) (omega arith)
determinant_times_letter m S = same_value (det_times m (matrix_of_letter S)) (det_of m) (omega arith)

pub determinant_word : (w : Word) → determinant (matrix_of w) ≡ pos 1
determinant_word [] = refl
determinant_word (x ∷ w) = determinant_letter_times x (matrix_of w) ∙ determinant_word w
