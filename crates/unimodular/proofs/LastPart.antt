-- The last part of a reduced word is the ending of its matrix. A word is taken back to front here, so that its last part is what a clause sees first.
-- Assumes nothing.
use mathlib.Core.Path.{◌≡◌, refl, sym, ap, ◌∙◌}
use mathlib.Core.Logic.{inl}
use mathlib.Core.List.{[], ◌∷◌, reverse, reverse-cons, reverse-reverse}
use Prim.Native.Nat.{ℕ}
use native.Mathlib.Omega.{arith}
use lib.IntN.{pos}
use Rattle.words.specs.Word.{R, S, Word}
use Rattle.words.proofs.Reduced.{Reduced, reduced_reverse}
use Rattle.unimodular.specs.Matrix.{Matrix, unit, times, determinant, matrix_of_letter, matrix_of}
use Rattle.unimodular.proofs.Product.{matrix_of_snoc, determinant_times_letter}
use Rattle.unimodular.proofs.Ending.{ending}
use Rattle.unimodular.proofs.Shape.{Shape, nothing, same_rows, shape_r, shape_s, shape_ss, ending_of_shape}

-- the matrix of a word that stands back to front
abbrev pub back : Word → Matrix
back [] = unit
back (x ∷ w) = times (back w) (matrix_of_letter x)

-- its last part, which is what stands in front
abbrev pub last : Word → ℕ
last [] = 0
last (R ∷ w) = 1
last (S ∷ []) = 2
last (S ∷ R ∷ w) = 2
last (S ∷ S ∷ w) = 3

pub back_reverse : (w : Word) → matrix_of (reverse w) ≡ back w
back_reverse [] = refl
back_reverse (x ∷ w) =
    ap matrix_of (reverse-cons x w) ∙ matrix_of_snoc (reverse w) x ∙ ap (λ (m : Matrix). times m (matrix_of_letter x)) (back_reverse w)

determinant_back : (w : Word) → determinant (back w) ≡ pos 1
determinant_back [] = refl
determinant_back (x ∷ w) = determinant_times_letter (back w) x ∙ determinant_back w

last_s : (w : Word) → last (S ∷ w) ≡ 1 → ⊥
last_s [] e = omega arith
last_s (R ∷ w) e = omega arith
last_s (S ∷ w) e = omega arith

shape_back : (w : Word) → Reduced w → Shape (back w) (last w)
shape_back [] h = nothing refl refl
shape_back (R ∷ []) h = shape_r unit refl (nothing refl refl) (λ e. omega arith)
shape_back (R ∷ R ∷ w) h = absurd h
shape_back (R ∷ S ∷ w) h = shape_r (back (S ∷ w)) (determinant_back (S ∷ w)) (shape_back (S ∷ w) h) (last_s w)
shape_back (S ∷ []) h = shape_s unit (inl (refl, refl)) (inl (refl, refl))
shape_back (S ∷ R ∷ w) h = let r = same_rows (back (R ∷ w)) (shape_back (R ∷ w) h) (omega arith) in shape_s (back (R ∷ w)) r.0 r.1
shape_back (S ∷ S ∷ []) h = shape_ss unit (inl (refl, refl)) (inl (refl, refl))
shape_back (S ∷ S ∷ R ∷ w) h = let r = same_rows (back (R ∷ w)) (shape_back (R ∷ w) h) (omega arith) in shape_ss (back (R ∷ w)) r.0 r.1
shape_back (S ∷ S ∷ S ∷ w) h = absurd h

pub ending_back : (w : Word) → Reduced w → ending (back w) ≡ last w
ending_back w h = ending_of_shape (back w) (determinant_back w) (shape_back w h)

pub matrix_of_back : (w : Word) → matrix_of w ≡ back (reverse w)
matrix_of_back w = ap matrix_of (sym (reverse-reverse w)) ∙ back_reverse (reverse w)

pub ending_word : (w : Word) → Reduced w → ending (matrix_of w) ≡ last (reverse w)
ending_word w h = ap ending (matrix_of_back w) ∙ ending_back (reverse w) (reduced_reverse w h)

last_nothing : (w : Word) → last w ≡ 0 → w ≡ []
last_nothing [] e = refl
last_nothing (R ∷ w) e = absurd (omega arith)
last_nothing (S ∷ []) e = absurd (omega arith)
last_nothing (S ∷ R ∷ w) e = absurd (omega arith)
last_nothing (S ∷ S ∷ w) e = absurd (omega arith)

pub nothing_of_ending : (w : Word) → Reduced w → ending (matrix_of w) ≡ 0 → w ≡ []
nothing_of_ending w h e = sym (reverse-reverse w) ∙ ap reverse (last_nothing (reverse w) (sym (ending_word w h) ∙ e))
