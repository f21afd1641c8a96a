-- What a matrix of determinant 1 looks like, by the ending of its word.
--     shape_of               every matrix of determinant 1 has the shape of its ending
--     ending_of_shape        and of no other
--     shape_r, shape_s, shape_ss    a part behind a matrix gives it that part's shape
--     shape_rr               what stands before an R does not end with one
-- Assumes nothing.
use mathlib.Core.Path.{◌≡◌, refl, sym, ◌∙◌}
use mathlib.Core.Logic.{◌⊎◌, inl, inr}
use mathlib.Core.Bool.{Bool, true, false, true≢false}
use Prim.Native.Nat.{ℕ, ◌≤◌, ◌<◌}
use native.Mathlib.Decide.{dec_le}
use native.Mathlib.Omega.{arith}
use lib.IntN.{pos, neg_ℤ, nat_abs, ◌+ℤ◌}
use Rattle.words.specs.Word.{R, S}
use Rattle.unimodular.specs.Matrix.{Matrix, times, determinant, matrix_of_letter}
use Rattle.unimodular.proofs.Integers.{nat_abs-negℤ}
use Rattle.unimodular.proofs.Product.{times_r, times_s, times_ss}
use Rattle.unimodular.proofs.Rows.{at_least, Same, Opposite, less_of_test, same_of_zero, opposite_of_zero, same_turned, opposite_turned}
use Rattle.unimodular.proofs.Rows.{both_signs, both_signs_smaller, same_r, opposite_r, opposite_s, opposite_ss, nat_abs_same}
use Rattle.unimodular.proofs.Ending.{is_unit, columns_agree, first_column_larger, either_false, false_unless}
use Rattle.unimodular.proofs.Ending.{ending, ending_is_nothing, ending_is_r, ending_is_s, ending_is_ss}
use Rattle.unimodular.proofs.Ending.{unit_of_test, test_of_unit, same_rows_of_test, test_of_same_rows, larger_of_test, test_of_larger}
use Rattle.unimodular.proofs.Determinant.{no_first_column, no_second_column, no_first_row, no_second_row, no_equal_columns}
use Rattle.unimodular.proofs.Determinant.{diagonal, antidiagonal, opposite_rows}

-- Nothing off the diagonal; or rows whose signs agree, which an R leaves; or rows of opposite signs, with the larger column first,
-- which an S leaves, or second, which an SS leaves.
pub data Shape (m : Matrix) : ℕ → Type 0 where
  nothing : nat_abs m.b ≡ 0 → nat_abs m.c ≡ 0 → Shape m 0
  same : Same m.a m.b → Same m.c m.d → (nat_abs m.b ≡ 0 → nat_abs m.c ≡ 0 → ⊥) → Shape m 1
  first : Opposite m.a m.b → Opposite m.c m.d → nat_abs m.b ≤ nat_abs m.a → nat_abs m.d ≤ nat_abs m.c → Shape m 2
  second : Opposite m.a m.b → Opposite m.c m.d → nat_abs m.a ≤ nat_abs m.b → nat_abs m.c ≤ nat_abs m.d → Shape m 3

module _ (m : Matrix) (e : determinant m ≡ pos 1) where
  pub ending_of_shape : {k : ℕ} → Shape m k → ending m ≡ k
  ending_of_shape (nothing p q) = ending_is_nothing m (test_of_unit m p q)
  ending_of_shape (same p q n) =
      ending_is_r m (false_unless (is_unit m) (λ t. n (unit_of_test m t).0 (unit_of_test m t).1)) (test_of_same_rows m p q)
  ending_of_shape (first p q k l) =
      ending_is_s m (false_unless (is_unit m) not_unit) (false_unless (columns_agree m) not_same) (test_of_larger m k l)
    where
      not_unit : is_unit m ≡ true → ⊥
      not_unit t = let z = unit_of_test m t in no_second_column m e z.0 (omega arith)

      not_same : columns_agree m ≡ true → ⊥
      not_same t =
          let s = same_rows_of_test m t in
          no_second_column m e (both_signs_smaller m.a m.b s.0 p k) (both_signs_smaller m.c m.d s.1 q l)
  ending_of_shape (second p q k l) =
      ending_is_ss m (false_unless (is_unit m) not_unit) (false_unless (columns_agree m) not_same) (false_unless (first_column_larger m) not_larger)
    where
      not_unit : is_unit m ≡ true → ⊥
      not_unit t = let z = unit_of_test m t in no_first_column m e (omega arith) z.1

      not_same : columns_agree m ≡ true → ⊥
      not_same t =
          let s = same_rows_of_test m t in
          no_first_column m e
          (both_signs_smaller m.b m.a (same_turned m.a m.b s.0) (opposite_turned m.a m.b p) k)
          (both_signs_smaller m.d m.c (same_turned m.c m.d s.1) (opposite_turned m.c m.d q) l)

      not_larger : first_column_larger m ≡ true → ⊥
      not_larger t =
          let l' = larger_of_test m t in
          no_equal_columns m e (omega arith) (omega arith)

  -- the second column is the larger one where the first is not
  second_larger : is_unit m ≡ false → columns_agree m ≡ false → first_column_larger m ≡ false →
      (nat_abs m.a ≤ nat_abs m.b) × (nat_abs m.c ≤ nat_abs m.d)
  second_larger u s f = go (either_false (at_least m.a m.b) (at_least m.c m.d) f)
    where
      unless : (x y : ℕ) → (y < x → ⊥) → x ≤ y
      unless x y f = elim (dec_le x y) [ yes l ↦ l | no l ↦ absurd (f (omega arith)) ]

      -- only b and c are not 0, so that the columns' signs agree
      below : nat_abs m.a < nat_abs m.b → nat_abs m.d < nat_abs m.c → ⊥
      below k l =
          let z = antidiagonal m e k l in
          true≢false (sym (test_of_same_rows m (same_turned m.b m.a (same_of_zero m.b m.a z.0)) (same_of_zero m.c m.d z.1)) ∙ s)

      -- only a and d are not 0
      above : nat_abs m.c < nat_abs m.d → nat_abs m.b < nat_abs m.a → ⊥
      above k l =
          let z = diagonal m e l k in
          true≢false (sym (test_of_unit m z.0 z.1) ∙ u)

      go : (at_least m.a m.b ≡ false) ⊎ (at_least m.c m.d ≡ false) → (nat_abs m.a ≤ nat_abs m.b) × (nat_abs m.c ≤ nat_abs m.d)
      go (inl t) = let k = less_of_test m.a m.b t in (omega arith, unless (nat_abs m.c) (nat_abs m.d) (below k))
      go (inr t) = let k = less_of_test m.c m.d t in (unless (nat_abs m.a) (nat_abs m.b) (above k), omega arith)

  pub shape_of : Shape m (ending m)
  shape_of = at_unit (is_unit m) refl
    where
      at_larger : is_unit m ≡ false → columns_agree m ≡ false → (t : Bool) → first_column_larger m ≡ t → Shape m (ending m)
      at_larger u s true f =
          let o = opposite_rows m e s in
          let l = larger_of_test m f in
          rw (ending_is_s m u s f) (first o.0 o.1 l.0 l.1)
      at_larger u s false f =
          let o = opposite_rows m e s in
          let l = second_larger u s f in
          rw (ending_is_ss m u s f) (second o.0 o.1 l.0 l.1)

      at_same : is_unit m ≡ false → (t : Bool) → columns_agree m ≡ t → Shape m (ending m)
      at_same u true s =
          let r = same_rows_of_test m s in
          rw (ending_is_r m u s) (same r.0 r.1 (λ p q. true≢false (sym (test_of_unit m p q) ∙ u)))
      at_same u false s = at_larger u s (first_column_larger m) refl

      at_unit : (t : Bool) → is_unit m ≡ t → Shape m (ending m)
      at_unit true u = rw (ending_is_nothing m u) (nothing (unit_of_test m u).0 (unit_of_test m u).1)
      at_unit false u = at_same u (columns_agree m) refl

-- ---- a part more

-- what an S or an SS may stand behind
pub same_rows : (m : Matrix) {k : ℕ} → Shape m k → k ≤ 1 → Same m.a m.b × Same m.c m.d
same_rows m (nothing p q) l = (same_of_zero m.a m.b p, same_turned m.d m.c (same_of_zero m.d m.c q))
same_rows m (same p q n) l = (p, q)
same_rows m (first p q i j) l = absurd (omega arith)
same_rows m (second p q i j) l = absurd (omega arith)

module _ (m : Matrix) where
  pub shape_s : Same m.a m.b → Same m.c m.d → Shape (times m (matrix_of_letter S)) 2
  shape_s p q =
      rw (times_s m)
      (first (opposite_s m.a m.b p) (opposite_s m.c m.d q)
      (omega (arith, nat_abs-negℤ m.a, nat_abs_same m.a m.b p)) (omega (arith, nat_abs-negℤ m.c, nat_abs_same m.c m.d q)))

  pub shape_ss : Same m.a m.b → Same m.c m.d → Shape (times (times m (matrix_of_letter S)) (matrix_of_letter S)) 3
  shape_ss p q =
      rw (times_ss m)
      (second (opposite_ss m.a m.b p) (opposite_ss m.c m.d q)
      (omega (arith, nat_abs-negℤ (m.a +ℤ m.b), nat_abs_same m.a m.b p)) (omega (arith, nat_abs-negℤ (m.c +ℤ m.d), nat_abs_same m.c m.d q)))

  opposite_shape_r : Opposite m.a m.b → Opposite m.c m.d → (nat_abs m.a ≡ 0 → nat_abs m.d ≡ 0 → ⊥) → Shape (times m (matrix_of_letter R)) 1
  opposite_shape_r p q n =
      rw (times_r m) (same (same_r m.a m.b p) (same_r m.c m.d q) (λ z t. n (sym (nat_abs-negℤ m.a) ∙ z) t))

  pub shape_r : determinant m ≡ pos 1 → {k : ℕ} → Shape m k → (k ≡ 1 → ⊥) → Shape (times m (matrix_of_letter R)) 1
  shape_r e (nothing p q) n =
      opposite_shape_r (opposite_of_zero m.a m.b p) (opposite_turned m.d m.c (opposite_of_zero m.d m.c q))
      (λ z t. no_first_row m e z p)
  shape_r e (same p q z) n = absurd (n refl)
  shape_r e (first p q i j) n = opposite_shape_r p q (λ z t. no_first_row m e z (omega arith))
  shape_r e (second p q i j) n = opposite_shape_r p q (λ z t. no_second_row m e (omega arith) t)

-- what stands before an R does not end with one
pub shape_rr : (m : Matrix) → determinant m ≡ pos 1 → Shape m 1 → Shape (times m (matrix_of_letter R)) 1 → ⊥
shape_rr m e h k = go h (rw (times_r m) at k)
  where
    go : Shape m 1 → Shape (record { a = m.b; b = neg_ℤ m.a; c = m.d; d = neg_ℤ m.c }) 1 → ⊥
    go (same p q n) (same p' q' n') =
        rows (both_signs m.b (neg_ℤ m.a) p' (opposite_r m.a m.b p)) (both_signs m.d (neg_ℤ m.c) q' (opposite_r m.c m.d q))
      where
        rows : (nat_abs m.b ≡ 0) ⊎ (nat_abs (neg_ℤ m.a) ≡ 0) → (nat_abs m.d ≡ 0) ⊎ (nat_abs (neg_ℤ m.c) ≡ 0) → ⊥
        rows (inl y) (inl t) = no_second_column m e y t
        rows (inl y) (inr z) = n y (sym (nat_abs-negℤ m.c) ∙ z)
        rows (inr x) (inl t) = n' x t
        rows (inr x) (inr z) = no_first_column m e (sym (nat_abs-negℤ m.a) ∙ x) (sym (nat_abs-negℤ m.c) ∙ z)
