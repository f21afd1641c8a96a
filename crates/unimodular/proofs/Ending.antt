-- The tests on a matrix's entries that say what its word ends with: 0 nothing, 1 R, 2 S, 3 SS. That they say so is proved in Shape and LastPart.
--     ending                 what the tests say
--     ending-is-..           its value in each of the four cases
--     ..-of-test, test-of-.. what each test says of the absolute values and signs
-- Assumes nothing.
use mathlib.Core.Path.{◌≡◌, refl, ap, ◌∙◌}
use mathlib.Core.Logic.{◌⊎◌, inl, inr}
use mathlib.Core.Bool.{Bool, true, false, ◌&&◌, false≢true}
use Prim.Native.Nat.{ℕ, ◌≤◌}
use lib.IntN.{nat_abs}
use Rattle.refusals.specs.Telling.{pick}
use Rattle.unimodular.specs.Matrix.{Matrix, UpToSign}
use Rattle.unimodular.proofs.Rows.{is_zero, signs_agree, at_least, Same, is_zero_negated, signs_agree_negated, at_least_negated}
use Rattle.unimodular.proofs.Rows.{zero_of_test, test_of_zero, same_of_test, test_of_same, le_of_test, test_of_le}

-- With determinant 1 nothing off the diagonal leaves the unit matrix up to sign.
abbrev pub is_unit : Matrix → Bool
is_unit m = is_zero m.b && is_zero m.c

-- the signs of the two columns, in each row
abbrev pub columns_agree : Matrix → Bool
columns_agree m = signs_agree m.a m.b && signs_agree m.c m.d

abbrev pub first_column_larger : Matrix → Bool
first_column_larger m = at_least m.a m.b && at_least m.c m.d

abbrev pub ending_by : Bool → Bool → Bool → ℕ
ending_by nothing same first = pick nothing 0 (pick same 1 (pick first 2 3))

unfoldable pub ending : Matrix → ℕ
ending m = ending_by (is_unit m) (columns_agree m) (first_column_larger m)

module _ (m : Matrix) where
  pub ending_is_nothing : is_unit m ≡ true → ending m ≡ 0
  unfolding ending
  ending_is_nothing u = λ i. ending_by (u i) (columns_agree m) (first_column_larger m)

  pub ending_is_r : is_unit m ≡ false → columns_agree m ≡ true → ending m ≡ 1
  unfolding ending
  ending_is_r u s = λ i. ending_by (u i) (s i) (first_column_larger m)

  pub ending_is_s : is_unit m ≡ false → columns_agree m ≡ false → first_column_larger m ≡ true → ending m ≡ 2
  unfolding ending
  ending_is_s u s f = λ i. ending_by (u i) (s i) (f i)

  pub ending_is_ss : is_unit m ≡ false → columns_agree m ≡ false → first_column_larger m ≡ false → ending m ≡ 3
  unfolding ending
  ending_is_ss u s f = λ i. ending_by (u i) (s i) (f i)

pub ending_sign : {m n : Matrix} → UpToSign m n → ending m ≡ ending n
unfolding ending
ending_sign (inl e) = ap ending e
ending_sign {m} {n} (inr e) =
    ap ending e
    ∙ (λ i. ending_by (is_zero_negated n.b i && is_zero_negated n.c i) (signs_agree_negated n.a n.b i && signs_agree_negated n.c n.d i)
    (at_least_negated n.a n.b i && at_least_negated n.c n.d i))

-- ---- what the tests say

and_both : (s t : Bool) → s ≡ true → t ≡ true → (s && t) ≡ true
and_both s t p q = λ i. p i && q i

and_left : (s t : Bool) → (s && t) ≡ true → s ≡ true
and_left true t e = refl
and_left false t e = absurd (false≢true e)

and_right : (s t : Bool) → (s && t) ≡ true → t ≡ true
and_right true t e = e
and_right false t e = absurd (false≢true e)

pub either_false : (s t : Bool) → (s && t) ≡ false → (s ≡ false) ⊎ (t ≡ false)
either_false true t e = inr e
either_false false t e = inl refl

pub false_unless : (t : Bool) → (t ≡ true → ⊥) → t ≡ false
false_unless true h = absurd (h refl)
false_unless false h = refl

module _ (m : Matrix) where
  pub unit_of_test : is_unit m ≡ true → (nat_abs m.b ≡ 0) × (nat_abs m.c ≡ 0)
  unit_of_test t =
      (zero_of_test m.b (and_left (is_zero m.b) (is_zero m.c) t), zero_of_test m.c (and_right (is_zero m.b) (is_zero m.c) t))

  pub test_of_unit : nat_abs m.b ≡ 0 → nat_abs m.c ≡ 0 → is_unit m ≡ true
  test_of_unit p q = and_both (is_zero m.b) (is_zero m.c) (test_of_zero m.b p) (test_of_zero m.c q)

  pub same_rows_of_test : columns_agree m ≡ true → Same m.a m.b × Same m.c m.d
  same_rows_of_test t = (
    same_of_test m.a m.b (and_left (signs_agree m.a m.b) (signs_agree m.c m.d) t),
    same_of_test m.c m.d (and_right (signs_agree m.a m.b) (signs_agree m.c m.d) t),
  )

  pub test_of_same_rows : Same m.a m.b → Same m.c m.d → columns_agree m ≡ true
  test_of_same_rows p q = and_both (signs_agree m.a m.b) (signs_agree m.c m.d) (test_of_same m.a m.b p) (test_of_same m.c m.d q)

  pub larger_of_test : first_column_larger m ≡ true → (nat_abs m.b ≤ nat_abs m.a) × (nat_abs m.d ≤ nat_abs m.c)
  larger_of_test t = (
    le_of_test m.a m.b (and_left (at_least m.a m.b) (at_least m.c m.d) t),
    le_of_test m.c m.d (and_right (at_least m.a m.b) (at_least m.c m.d) t),
  )

  pub test_of_larger : nat_abs m.b ≤ nat_abs m.a → nat_abs m.d ≤ nat_abs m.c → first_column_larger m ≡ true
  test_of_larger p q = and_both (at_least m.a m.b) (at_least m.c m.d) (test_of_le m.a m.b p) (test_of_le m.c m.d q)
