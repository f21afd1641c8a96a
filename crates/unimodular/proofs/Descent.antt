-- One step from the right: the last part of a matrix's normal form, and the matrix of what stands before it.
--     part, before, size     the part that an ending stands for, the matrix without it, the sum of the entries without signs
--     without_last_part      the tests on the entries find exactly the last part
--     ending_nothing, ending_something    they find none exactly where the normal form is empty
--     size_before, smaller_before    the matrix before is not larger, and smaller before an S or SS
--     normal_form_exists     so every matrix of determinant 1 has a normal form
-- Assumes nothing.
use mathlib.Core.Path.{◌≡◌, refl, sym, ap, subst, ◌∙◌}
use mathlib.Core.Logic.{inl, inr}
use mathlib.Core.List.{[], ◌∷◌, ◌++◌, reverse, append_assoc, reverse-cons, reverse-reverse}
use Prim.Native.Nat.{ℕ, zero, suc, ◌+◌, ◌*◌, ◌≤◌, ◌<◌}
use native.Mathlib.Omega.{arith}
use lib.IntN.{pos, nat_abs, ◌+ℤ◌}
use Rattle.words.specs.Word.{R, S, Word, Normal, nf}
use Rattle.words.proofs.Reduced.{Reduced, reduced_tail, reduced_reverse, reduced_of_normal, normal_of_reduced}
use Rattle.unimodular.specs.Matrix.{Matrix, unit, negated, times, determinant, UpToSign, matrix_of_letter, matrix_of, NormalFormOf}
use Rattle.unimodular.proofs.Integers.{nat_abs-negℤ, nat_abs-+ℤ}
use Rattle.unimodular.proofs.Product.{times_unit, times_assoc, times_r, times_s, times_ss, times_rr, times_sss, determinant_times_letter}
use Rattle.unimodular.proofs.Product.{sign_refl, sign_sym, sign_trans, sign_times, matrix_of_append}
use Rattle.unimodular.proofs.Rows.{Opposite, nat_abs_first_larger, nat_abs_second_larger}
pub use Rattle.unimodular.proofs.Rows.{is_zero, negative, positive, signs_agree, at_least}
unfoldable pub use Rattle.unimodular.proofs.Ending.{ending}
pub use Rattle.unimodular.proofs.Ending.{is_unit, columns_agree, first_column_larger, ending_is_nothing, ending_is_r, ending_is_s, ending_is_ss, ending_sign}
use Rattle.unimodular.proofs.Determinant.{no_first_column, no_second_column, diagonal_unit}
use Rattle.unimodular.proofs.Shape.{Shape, nothing, same, first, second, shape_of, shape_rr}
use Rattle.unimodular.proofs.LastPart.{back, last, back_reverse, matrix_of_back, ending_word, nothing_of_ending}
use Rattle.unimodular.proofs.Faithful.{normal_form_of_word, normal_form_sign}

-- ---- parts

-- the part that an ending stands for
abbrev pub part : ℕ → Word
part zero = []
part (suc zero) = R ∷ []
part (suc (suc zero)) = S ∷ []
part (suc (suc (suc k))) = S ∷ S ∷ []

-- the matrix without that part, up to sign: R is its own inverse, and S and SS are each other's
abbrev pub before : ℕ → Matrix → Matrix
before zero m = m
before (suc zero) m = times m (matrix_of_letter R)
before (suc (suc zero)) m = times (times m (matrix_of_letter S)) (matrix_of_letter S)
before (suc (suc (suc k))) m = times m (matrix_of_letter S)

pub before_sign : (k : ℕ) {m n : Matrix} → UpToSign m n → UpToSign (before k m) (before k n)
before_sign zero s = s
before_sign (suc zero) s = sign_times s (inl refl)
before_sign (suc (suc zero)) s = sign_times (sign_times s (inl refl)) (inl refl)
before_sign (suc (suc (suc k))) s = sign_times s (inl refl)

pub determinant_before : (k : ℕ) (m : Matrix) → determinant (before k m) ≡ determinant m
determinant_before zero m = refl
determinant_before (suc zero) m = determinant_times_letter m R
determinant_before (suc (suc zero)) m = determinant_times_letter (times m (matrix_of_letter S)) S ∙ determinant_times_letter m S
determinant_before (suc (suc (suc k))) m = determinant_times_letter m S

-- the part put back
pub part_behind : (k : ℕ) (m : Matrix) → UpToSign (times (before k m) (matrix_of (part k))) m
part_behind zero m = inl (times_unit m)
part_behind (suc zero) m = inr (times_rr m)
part_behind (suc (suc zero)) m = inr (times_sss m)
part_behind (suc (suc (suc k))) m = inr (sym (times_assoc (times m (matrix_of_letter S)) (matrix_of_letter S) (matrix_of_letter S)) ∙ times_sss m)

-- ---- a word without its last part

-- what is left of a word that stands back to front when its last part is gone
abbrev rest : Word → Word
rest [] = []
rest (R ∷ w) = w
rest (S ∷ []) = []
rest (S ∷ R ∷ w) = R ∷ w
rest (S ∷ S ∷ w) = w

rest_reduced : (w : Word) → Reduced w → Reduced (rest w)
rest_reduced [] h = h
rest_reduced (R ∷ w) h = reduced_tail R w h
rest_reduced (S ∷ []) h = tt
rest_reduced (S ∷ R ∷ w) h = reduced_tail S (R ∷ w) h
rest_reduced (S ∷ S ∷ w) h = reduced_tail S w (reduced_tail S (S ∷ w) h)

rest_word : (w : Word) → reverse w ≡ reverse (rest w) ++ part (last w)
rest_word [] = refl
rest_word (R ∷ w) = reverse-cons R w
rest_word (S ∷ []) = refl
rest_word (S ∷ R ∷ w) = reverse-cons S (R ∷ w)
rest_word (S ∷ S ∷ w) =
    reverse-cons S (S ∷ w) ∙ ap (λ (l : Word). l ++ S ∷ []) (reverse-cons S w) ∙ append_assoc (reverse w) (S ∷ []) (S ∷ [])

-- a matrix with a sign changed is the same up to sign
of_negated : {m n : Matrix} → m ≡ negated n → UpToSign n m
of_negated e = sign_sym (inr e)

rest_before : (w : Word) → UpToSign (back (rest w)) (before (last w) (back w))
rest_before [] = inl refl
rest_before (R ∷ w) = of_negated (times_rr (back w))
rest_before (S ∷ []) = of_negated (times_sss unit)
rest_before (S ∷ R ∷ w) = of_negated (times_sss (back (R ∷ w)))
rest_before (S ∷ S ∷ w) = of_negated (times_sss (back w))

module _ (m : Matrix) (v : Word) (p : NormalFormOf m v) where
  ending_last : ending m ≡ last (reverse v)
  ending_last = ending_sign (sign_sym p.matrix) ∙ ending_word v (reduced_of_normal v p.normal)

  pub without_last_part : (w : Word) × (v ≡ w ++ part (ending m)) × NormalFormOf (before (ending m) m) w
  without_last_part = rw ending_last (reverse (rest r), sym (reverse-reverse v) ∙ rest_word r, record { normal = left_normal; matrix = left_matrix })
    where
      r : Word
      r = reverse v

      left_normal : Normal (reverse (rest r))
      left_normal = normal_of_reduced (reverse (rest r)) (reduced_reverse (rest r) (rest_reduced r (reduced_reverse v (reduced_of_normal v p.normal))))

      left_matrix : UpToSign (matrix_of (reverse (rest r))) (before (last r) m)
      left_matrix =
          sign_trans (inl (back_reverse (rest r)))
          (sign_trans (rest_before r) (before_sign (last r) (sign_trans (inl (sym (matrix_of_back v))) p.matrix)))

  pub ending_nothing : ending m ≡ 0 → v ≡ []
  ending_nothing e = nothing_of_ending v (reduced_of_normal v p.normal) (ending_sign p.matrix ∙ e)

  pub ending_something : (ending m ≡ 0 → ⊥) → (v ≡ [] → ⊥)
  ending_something n e = n (ending_last ∙ ap (λ (w : Word). last (reverse w)) e)

-- ---- the size falls

abbrev pub size : Matrix → ℕ
size m = nat_abs m.a + nat_abs m.b + nat_abs m.c + nat_abs m.d

-- the sum of two numbers that are not both 0
sum_not_zero : (x y : ℕ) → (x ≡ 0 → y ≡ 0 → ⊥) → 1 ≤ x + y
sum_not_zero zero zero n = absurd (n refl refl)
sum_not_zero zero (suc y) n = omega arith
sum_not_zero (suc x) y n = omega arith

module _ (m : Matrix) where
  pub size_times_r : size (times m (matrix_of_letter R)) ≡ size m
  size_times_r = omega (arith, ap size (times_r m), nat_abs-negℤ m.a, nat_abs-negℤ m.c)

  size_s : size (times m (matrix_of_letter S)) ≡ nat_abs (m.a +ℤ m.b) + nat_abs m.a + nat_abs (m.c +ℤ m.d) + nat_abs m.c
  size_s = omega (arith, ap size (times_s m), nat_abs-negℤ m.a, nat_abs-negℤ m.c)

  size_ss : size (times (times m (matrix_of_letter S)) (matrix_of_letter S)) ≡ nat_abs m.b + nat_abs (m.a +ℤ m.b) + nat_abs m.d + nat_abs (m.c +ℤ m.d)
  size_ss = omega (arith, ap size (times_ss m), nat_abs-negℤ (m.a +ℤ m.b), nat_abs-negℤ (m.c +ℤ m.d))

  pub size_times_s : size (times m (matrix_of_letter S)) ≤ 2 * size m
  size_times_s = omega (arith, size_s, nat_abs-+ℤ m.a m.b, nat_abs-+ℤ m.c m.d)

  pub size_times_ss : size (times (times m (matrix_of_letter S)) (matrix_of_letter S)) ≤ 2 * size m
  size_times_ss = omega (arith, size_ss, nat_abs-+ℤ m.a m.b, nat_abs-+ℤ m.c m.d)

  -- before an S the second column goes, before an SS the first
  size_first : Opposite m.a m.b → Opposite m.c m.d → nat_abs m.b ≤ nat_abs m.a → nat_abs m.d ≤ nat_abs m.c →
      size (before 2 m) + (nat_abs m.b + nat_abs m.d) ≡ size m
  size_first p q i j = omega (arith, size_ss, nat_abs_first_larger m.a m.b p i, nat_abs_first_larger m.c m.d q j)

  size_second : Opposite m.a m.b → Opposite m.c m.d → nat_abs m.a ≤ nat_abs m.b → nat_abs m.c ≤ nat_abs m.d →
      size (before 3 m) + (nat_abs m.a + nat_abs m.c) ≡ size m
  size_second p q i j = omega (arith, size_s, nat_abs_second_larger m.a m.b p i, nat_abs_second_larger m.c m.d q j)

  size_before_shape : {k : ℕ} → Shape m k → size (before k m) ≤ size m
  size_before_shape (nothing p q) = omega arith
  size_before_shape (same p q n) = omega (arith, size_times_r)
  size_before_shape (first p q i j) = omega (arith, size_first p q i j)
  size_before_shape (second p q i j) = omega (arith, size_second p q i j)

  smaller_before_shape : determinant m ≡ pos 1 → {k : ℕ} → Shape m k → 2 ≤ k → size (before k m) < size m
  smaller_before_shape e (nothing p q) l = absurd (omega arith)
  smaller_before_shape e (same p q n) l = absurd (omega arith)
  smaller_before_shape e (first p q i j) l = omega (arith, size_first p q i j, sum_not_zero (nat_abs m.b) (nat_abs m.d) (no_second_column m e))
  smaller_before_shape e (second p q i j) l = omega (arith, size_second p q i j, sum_not_zero (nat_abs m.a) (nat_abs m.c) (no_first_column m e))

  pub size_before : determinant m ≡ pos 1 → size (before (ending m) m) ≤ size m
  size_before e = size_before_shape (shape_of m e)

  pub smaller_before : determinant m ≡ pos 1 → 2 ≤ ending m → size (before (ending m) m) < size m
  smaller_before e l = smaller_before_shape e (shape_of m e) l

-- ---- every matrix of determinant 1 is a word's

-- a word with this matrix, up to sign
abbrev Found : Matrix → Type 0
Found m = (w : Word) × UpToSign (matrix_of w) m

found_behind : (k : ℕ) (m : Matrix) → Found (before k m) → Found m
found_behind k m f =
    (f.0 ++ part k, sign_trans (inl (matrix_of_append f.0 (part k))) (sign_trans (sign_times f.1 (sign_refl (matrix_of (part k)))) (part_behind k m)))

module _ (n : ℕ) (smaller : (m : Matrix) → determinant m ≡ pos 1 → size m < n → Found m) where
  found_unless_r : (m : Matrix) → determinant m ≡ pos 1 → size m ≤ n → {k : ℕ} → Shape m k → (k ≡ 1 → ⊥) → Found m
  found_unless_r m e l (nothing p q) r = ([], diagonal_unit m e p q)
  found_unless_r m e l (same p q z) r = absurd (r refl)
  found_unless_r m e l (first p q i j) r =
      let s = smaller_before_shape m e (first p q i j) (omega arith) in
      found_behind 2 m (smaller (before 2 m) (determinant_before 2 m ∙ e) (omega arith))
  found_unless_r m e l (second p q i j) r =
      let s = smaller_before_shape m e (second p q i j) (omega arith) in
      found_behind 3 m (smaller (before 3 m) (determinant_before 3 m ∙ e) (omega arith))

  -- the matrix before an R is as large, but it does not end with an R
  found : (m : Matrix) → determinant m ≡ pos 1 → size m ≤ n → {k : ℕ} → Shape m k → Found m
  found m e l (nothing p q) = found_unless_r m e l (nothing p q) (λ z. omega arith)
  found m e l (same p q z) =
      found_behind 1 m
      (found_unless_r m' e' (omega (arith, size_times_r m)) (shape_of m' e') (λ r. shape_rr m e (same p q z) (subst (Shape m') r (shape_of m' e'))))
    where
      m' : Matrix
      m' = before 1 m

      e' : determinant m' ≡ pos 1
      e' = determinant_before 1 m ∙ e
  found m e l (first p q i j) = found_unless_r m e l (first p q i j) (λ z. omega arith)
  found m e l (second p q i j) = found_unless_r m e l (second p q i j) (λ z. omega arith)

found_within : (n : ℕ) (m : Matrix) → determinant m ≡ pos 1 → size m < n → Found m
found_within zero m e l = absurd (omega arith)
found_within (suc n) m e l = found n (found_within n) m e (omega arith) (shape_of m e)

pub normal_form_exists : (m : Matrix) → determinant m ≡ pos 1 → (w : Word) × NormalFormOf m w
normal_form_exists m e =
    let f = found_within (suc (size m)) m e (omega arith) in
    (nf f.0, normal_form_sign f.1 (normal_form_of_word f.0))
