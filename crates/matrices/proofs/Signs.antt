-- The sign that is returned.
--     signed_sign            matrices that agree up to sign have the same, where the first row is not 0
--     sign_of_signed         it is one of the two
-- Assumes nothing.
use mathlib.Core.Path.{◌≡◌, refl, sym, ap, ◌∙◌}
use mathlib.Core.Logic.{inl, inr}
use mathlib.Core.Bool.{Bool, true, false, not}
use Prim.Native.Nat.{zero, suc}
use lib.IntN.{ℤ, pos, negsuc, neg_ℤ, nat_abs}
use Rattle.refusals.specs.Telling.{pick}
use Rattle.unimodular.specs.Matrix.{Matrix, negated, determinant, UpToSign, first_positive, signed}
use Rattle.unimodular.proofs.Product.{negated_negated}
use Rattle.unimodular.proofs.Determinant.{no_first_row}

module _ (m : Matrix) where
  pub signed_as_is : first_positive m.a m.b ≡ true → signed m ≡ m
  signed_as_is e = ap (λ (t : Bool). pick t m (negated m)) e

  pub signed_negated : first_positive m.a m.b ≡ false → signed m ≡ negated m
  signed_negated e = ap (λ (t : Bool). pick t m (negated m)) e

  -- it is one of the two
  pub sign_of_signed : UpToSign (signed m) m
  sign_of_signed = go (first_positive m.a m.b) refl
    where
      go : (t : Bool) → first_positive m.a m.b ≡ t → UpToSign (signed m) m
      go true e = inl (signed_as_is e)
      go false e = inr (signed_negated e)

-- ---- matrices that agree up to sign

-- the other sign has the other answer, unless both are 0
other_sign : (x y : ℤ) → (nat_abs x ≡ 0 → nat_abs y ≡ 0 → ⊥) → first_positive (neg_ℤ x) (neg_ℤ y) ≡ not (first_positive x y)
other_sign (pos zero) (pos zero) n = absurd (n refl refl)
other_sign (pos zero) (pos (suc k)) n = refl
other_sign (pos zero) (negsuc k) n = refl
other_sign (pos (suc k)) y n = refl
other_sign (negsuc k) y n = refl

pub signed_sign : {m n : Matrix} → determinant n ≡ pos 1 → UpToSign m n → signed m ≡ signed n
signed_sign d (inl e) = ap signed e
signed_sign {m} {n} d (inr e) = ap signed e ∙ go (first_positive n.a n.b) refl
  where
    other : first_positive (neg_ℤ n.a) (neg_ℤ n.b) ≡ not (first_positive n.a n.b)
    other = other_sign n.a n.b (no_first_row n d)

    go : (t : Bool) → first_positive n.a n.b ≡ t → signed (negated n) ≡ signed n
    go true e = signed_negated (negated n) (other ∙ ap not e) ∙ negated_negated n ∙ sym (signed_as_is n e)
    go false e = signed_as_is (negated n) (other ∙ ap not e) ∙ sym (signed_negated n e)
