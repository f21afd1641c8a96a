-- Matrices modulo 7, up to sign: their numbers, the image of a word, products of images, and what makes a quick answer right. 02, M-106.
-- Assumes nothing: these are definitions.
use Rattle.std.specs.Prelude.{Bool, false, not, ◌⊎◌, ◌≡◌, ℕ, suc, ◌-◌, ◌%◌, ltb, eqb, ℤ, pos, negsuc, get_or}
use mathlib.Core.List.{List, [], ◌∷◌, map, flat_map}
use Rattle.refusals.specs.Telling.{pick}
use Rattle.words.specs.Word.{Letter, Word}
use Rattle.unimodular.specs.Matrix.{Matrix, unit, negated, times, determinant, matrix_of_letter, matrix_of}
use Rattle.products.specs.Product.{Family, Each, Counted}

-- what a whole number is modulo 7, from 0 to 6
abbrev pub residue : ℤ → ℕ
residue (pos n) = n % 7
residue (negsuc n) = 6 - n % 7

-- 02: "the smaller quadruple with entries 0 to 6"
pub record Quadruple : Type 0 where
  pub a : ℕ
  pub b : ℕ
  pub c : ℕ
  pub d : ℕ

-- a matrix modulo 7, and a quadruple as a matrix
abbrev pub residues : Matrix → Quadruple
residues m = record { a = residue m.a; b = residue m.b; c = residue m.c; d = residue m.d }

abbrev pub matrix : Quadruple → Matrix
matrix q = record { a = pos q.a; b = pos q.b; c = pos q.c; d = pos q.d }

-- two matrices are the same modulo 7, up to sign
abbrev pub Agree : Matrix → Matrix → Type 0
Agree m n = (residues m ≡ residues n) ⊎ (residues m ≡ residues (negated n))

-- p stands before q in the order of (a, b, c, d): at the first entry where they differ p has the smaller one
abbrev pub before : Quadruple → Quadruple → Bool
before p q =
    pick (eqb p.a q.a) (pick (eqb p.b q.b) (pick (eqb p.c q.c) (ltb p.d q.d) (ltb p.c q.c)) (ltb p.b q.b)) (ltb p.a q.a)

abbrev pub smaller : Quadruple → Quadruple → Quadruple
smaller p q = pick (before q p) q p

-- all quadruples with entries 0 to 6, "in rising order of (a, b, c, d)"
abbrev pub digits : List ℕ
digits = 0 ∷ 1 ∷ 2 ∷ 3 ∷ 4 ∷ 5 ∷ 6 ∷ []

unfoldable pub quadruples : List Quadruple
quadruples =
    flat_map (λ a. flat_map (λ b. flat_map (λ c. map (λ d. record { a = a; b = b; c = c; d = d }) digits) digits) digits) digits

-- A quadruple is a matrix modulo 7 where its determinant is 1 there. 02: "of the two signs the smaller quadruple [..] is kept".
abbrev pub is_kept : Quadruple → Bool
is_kept q = pick (eqb (residue (determinant (matrix q))) 1) (not (before (residues (negated (matrix q))) q)) false

-- those entries of a list that pass a test, in their order
abbrev pub keep : (Quadruple → Bool) → List Quadruple → List Quadruple
keep test [] = []
keep test (q ∷ qs) = pick (test q) (q ∷ keep test qs) (keep test qs)

-- 02: "The 168 matrices modulo 7, up to sign, are numbered from 0 in rising order of (a, b, c, d)".
unfoldable pub numbering : List Quadruple
numbering = keep is_kept quadruples

-- the place of the first entry that is q, or the number of entries where none is
abbrev pub is_same : Quadruple → Quadruple → Bool
is_same p q = pick (eqb p.a q.a) (pick (eqb p.b q.b) (pick (eqb p.c q.c) (eqb p.d q.d) false) false) false

abbrev pub position : Quadruple → List Quadruple → ℕ
position q [] = 0
position q (p ∷ ps) = pick (is_same q p) 0 (suc (position q ps))

-- the number of a matrix modulo 7, up to sign, and the matrix of a number
unfoldable pub number_of : Matrix → ℕ
number_of m = position (smaller (residues m) (residues (negated m))) numbering

unfoldable pub numbered : ℕ → Matrix
numbered k = matrix (get_or numbering k (residues unit))

-- A word's image: the number of its matrix.
unfoldable pub image : Word → ℕ
image w = number_of (matrix_of w)

-- 02: "each one's product on the right with R and with S". This is the rule of the constant table.
unfoldable pub times_letter : ℕ → Letter → ℕ
times_letter k x = number_of (times (numbered k) (matrix_of_letter x))

-- the product of two images, and of a series of them
unfoldable pub multiplied : ℕ → ℕ → ℕ
multiplied j k = number_of (times (numbered j) (numbered k))

abbrev pub product : List ℕ → ℕ
product [] = number_of unit
product (k ∷ ks) = multiplied k (product ks)

-- the product of the images of a series' factors
abbrev pub image_of : Family → List ℕ → ℕ
image_of family r = product (map (λ i. image (family.word_of i)) r)

-- 02: "The quick no is given exactly when the target's image is not a product of one or more of the generators' images".
abbrev pub QuickNoRight : Family → Word → Type 0
QuickNoRight family target = (r : List ℕ) → Each family.Number r → Counted r → image_of family r ≡ image target → ⊥

-- 02: "otherwise the answer is open".
abbrev pub OpenRight : Family → Word → Type 0
OpenRight family target = (r : List ℕ) × Each family.Number r × Counted r × (image_of family r ≡ image target)
