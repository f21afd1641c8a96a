-- 2 by 2 matrices of whole numbers without limit, taken up to sign, and the matrix of a word. Document 01, "Matrices".
-- Assumes nothing: these are definitions.
use Rattle.std.specs.Prelude.{Bool, true, false, ◌⊎◌, ◌≡◌, [], ◌∷◌, zero, suc, ℤ, pos, negsuc, neg_ℤ, ◌+ℤ◌, ◌-ℤ◌, ◌*ℤ◌}
use Rattle.words.specs.Word.{Letter, R, S, Word, Normal}
use Rattle.refusals.specs.Telling.{pick}

-- (a b; c d)
pub record Matrix : Type 0 where
  pub a : ℤ
  pub b : ℤ
  pub c : ℤ
  pub d : ℤ

abbrev pub unit : Matrix
unit = record { a = pos 1; b = pos 0; c = pos 0; d = pos 1 }

abbrev pub negated : Matrix → Matrix
negated m = record { a = neg_ℤ m.a; b = neg_ℤ m.b; c = neg_ℤ m.c; d = neg_ℤ m.d }

abbrev pub times : Matrix → Matrix → Matrix
times m n = record {
  a = (m.a *ℤ n.a) +ℤ (m.b *ℤ n.c);
  b = (m.a *ℤ n.b) +ℤ (m.b *ℤ n.d);
  c = (m.c *ℤ n.a) +ℤ (m.d *ℤ n.c);
  d = (m.c *ℤ n.b) +ℤ (m.d *ℤ n.d);
}

abbrev pub determinant : Matrix → ℤ
determinant m = (m.a *ℤ m.d) -ℤ (m.b *ℤ m.c)

-- Two matrices that are the same up to sign are the same element.
abbrev pub UpToSign : Matrix → Matrix → Type 0
UpToSign m n = (m ≡ n) ⊎ (m ≡ negated n)

-- 01: "R is (0 −1; 1 0) and S is (1 −1; 1 0)."
abbrev pub matrix_of_letter : Letter → Matrix
matrix_of_letter R = record { a = pos 0; b = negsuc 0; c = pos 1; d = pos 0 }
matrix_of_letter S = record { a = pos 1; b = negsuc 0; c = pos 1; d = pos 0 }

-- 01: "The matrix of a word is the product of all its letters' matrices in order, up to sign".
abbrev pub matrix_of : Word → Matrix
matrix_of [] = unit
matrix_of (x ∷ w) = times (matrix_of_letter x) (matrix_of w)

-- 01: "of the two signs, the one is returned whose first non-zero entry among a, b is positive."
abbrev pub first_positive : ℤ → ℤ → Bool
first_positive (pos (suc n)) b = true
first_positive (negsuc n) b = false
first_positive (pos zero) (pos (suc n)) = true
first_positive (pos zero) (pos zero) = false
first_positive (pos zero) (negsuc n) = false

abbrev pub signed : Matrix → Matrix
signed m = pick (first_positive m.a m.b) m (negated m)

-- w is the normal form of m: a normal word whose matrix is m up to sign. That there is one for each m of determinant 1, and only one, are theorems.
pub record NormalFormOf (m : Matrix) (w : Word) : Type 0 where
  pub normal : Normal w
  pub matrix : UpToSign (matrix_of w) m
