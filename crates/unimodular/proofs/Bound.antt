-- How large the entries of a normal word's matrix, and of its prefixes' matrices, can be: an R keeps the size and each S part at most doubles
-- it, and every second part is an R. So 2 n letters leave 2 to the (n + 1)th.
-- Assumes nothing.
use mathlib.Core.Path.{sym, subst}
use mathlib.Core.List.{[], ◌∷◌, reverse}
use Prim.Native.Nat.{ℕ, suc, ◌+◌, ◌*◌, ◌^◌, ◌≤◌, ◌<◌}
use native.Mathlib.Nat.{pow-le-pow_right, le_trans}
use native.Mathlib.Omega.{arith}
use lib.ListN.{length, take, drop, take-append-drop, length-take, length-reverse}
use Rattle.words.specs.Word.{R, S, Word, Normal}
use Rattle.words.proofs.Reduced.{Reduced, reduced_tail, reduced_take, reduced_reverse, reduced_of_normal}
use Rattle.unimodular.specs.Matrix.{Matrix, matrix_of}
use Rattle.unimodular.proofs.LastPart.{back, matrix_of_back}
use Rattle.unimodular.proofs.Descent.{size, size_times_r, size_times_s, size_times_ss}

-- how many S parts a word has, back to front
abbrev parts : Word → ℕ
parts [] = 0
parts (R ∷ w) = parts w
parts (S ∷ []) = 1
parts (S ∷ R ∷ w) = suc (parts w)
parts (S ∷ S ∷ w) = suc (parts w)

parts_length : (w : Word) → Reduced w → 2 * parts w ≤ length w + 1
parts_length [] h = omega arith
parts_length (R ∷ w) h = omega (arith, parts_length w (reduced_tail R w h))
parts_length (S ∷ []) h = omega arith
parts_length (S ∷ R ∷ w) h = omega (arith, parts_length w (reduced_tail R w h))
parts_length (S ∷ S ∷ []) h = omega arith
parts_length (S ∷ S ∷ R ∷ w) h = omega (arith, parts_length w (reduced_tail R w h))
parts_length (S ∷ S ∷ S ∷ w) h = absurd h

size_parts : (w : Word) → size (back w) ≤ 2 ^ suc (parts w)
size_parts [] = omega arith
size_parts (R ∷ w) = omega (arith, size_times_r (back w), size_parts w)
size_parts (S ∷ []) = omega arith
size_parts (S ∷ R ∷ w) = omega (arith, size_times_s (back (R ∷ w)), size_times_r (back w), size_parts w)
size_parts (S ∷ S ∷ w) = omega (arith, size_times_ss (back w), size_parts w)

pub size_reduced : (n : ℕ) (w : Word) → Reduced w → length w ≤ 2 * n → size (matrix_of w) ≤ 2 ^ suc n
size_reduced n w h l =
    let p = parts_length (reverse w) (reduced_reverse w h) in
    let few : suc (parts (reverse w)) ≤ suc n = omega (arith, length-reverse w) in
    let two : 0 < 2 = omega arith in
    le_trans
    (subst (λ (m : Matrix). size m ≤ 2 ^ suc (parts (reverse w))) (sym (matrix_of_back w)) (size_parts (reverse w)))
    (pow-le-pow_right two few)

-- a prefix of a normal word is a normal word
pub prefix_bound : (n : ℕ) (w : Word) → Normal w → length w ≤ 2 * n → (i : ℕ) → size (matrix_of (take i w)) ≤ 2 ^ suc n
prefix_bound n w h l i =
    size_reduced n (take i w)
    (reduced_take (take i w) (drop i w) (rw (take-append-drop i w) (reduced_of_normal w h)))
    (omega (arith, length-take i w))
