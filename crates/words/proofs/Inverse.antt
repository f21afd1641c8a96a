-- The laws of the inverse word.
--     word_inverse, inverse_word    a word followed by its inverse, and the inverse followed by the word, equal nothing
--     inverse_inverse               the inverse of the inverse equals the word
--     inverse_append                the inverse of two words, one behind the other
--     inverse_equal                 equal words have equal inverses
--     nf_inverse_nf                 the inverse of the normal form has the inverse's normal form
--     inverse_form_short            the inverse's normal form has at most half as many letters again as the word's, and half a letter more
-- Assumes nothing.
use mathlib.Core.Path.{◌≡◌, sym, ap, ◌∙◌}
use mathlib.Core.List.{[], ◌∷◌, ◌++◌, append_assoc, append-nil}
use mathlib.Core.Logic.{inl, inr}
use Prim.Native.Nat.{◌+◌, ◌*◌, ◌≤◌}
use native.Mathlib.Omega.{arith}
use lib.ListN.{length, length-append}
use Rattle.words.specs.Word.{Letter, R, S, Word, Equal, rr, sss, none, back, then, nf, inverse, inverse_letter}
use Rattle.words.specs.Parts.{FromRPart, no_r_part, r_part, FromSPart, no_s_part, s_part, ss_part, Parts}
use Rattle.words.proofs.NormalForm.{equal_path, equal_inside, equal_behind, equal_before, equal_append, equal_nf, nf_of_equal, nf_length, nf_normal}
use Rattle.words.proofs.Parts.{parts_normal}

pub length_inverse_letter : (a : Letter) → length (inverse_letter a) ≤ 2
length_inverse_letter R = omega arith
length_inverse_letter S = omega arith

letter_inverse : (a : Letter) → Equal (a ∷ inverse_letter a) []
letter_inverse R = rr [] []
letter_inverse S = sss [] []

inverse_letter_lem : (a : Letter) → Equal (inverse_letter a ++ a ∷ []) []
inverse_letter_lem R = rr [] []
inverse_letter_lem S = sss [] []

pub word_inverse : (w : Word) → Equal (w ++ inverse w) []
word_inverse [] = none
word_inverse (a ∷ w) =
    then (equal_path (ap (λ (l : Word). a ∷ l) (sym (append_assoc w (inverse w) (inverse_letter a)))))
    (then (equal_inside (a ∷ []) (inverse_letter a) (word_inverse w)) (letter_inverse a))

pub inverse_word : (w : Word) → Equal (inverse w ++ w) []
inverse_word [] = none
inverse_word (a ∷ w) =
    then (equal_path (append_assoc (inverse w) (inverse_letter a) (a ∷ w) ∙ ap (λ (l : Word). inverse w ++ l) (sym (append_assoc (inverse_letter a) (a ∷ []) w))))
    (then (equal_inside (inverse w) w (inverse_letter_lem a)) (inverse_word w))

-- a word that takes u to nothing on the left equals what takes u to nothing on the right
pub inverse_unique : (u v w : Word) → Equal (v ++ u) [] → Equal (u ++ w) [] → Equal v w
inverse_unique u v w e f =
    then (equal_path (sym (append-nil v)))
    (then (equal_behind v (back f)) (then (equal_path (sym (append_assoc v u w))) (equal_before w e)))

pub inverse_inverse : (w : Word) → Equal (inverse (inverse w)) w
inverse_inverse w = inverse_unique (inverse w) (inverse (inverse w)) w (inverse_word (inverse w)) (inverse_word w)

pub inverse_append : (u v : Word) → inverse (u ++ v) ≡ inverse v ++ inverse u
inverse_append [] v = sym (append-nil (inverse v))
inverse_append (a ∷ u) v = ap (λ (l : Word). l ++ inverse_letter a) (inverse_append u v) ∙ append_assoc (inverse v) (inverse u) (inverse_letter a)

pub inverse_equal : {u v : Word} → Equal u v → Equal (inverse u) (inverse v)
inverse_equal {u} {v} e =
    inverse_unique u (inverse u) (inverse v) (inverse_word u) (then (equal_before (inverse v) e) (word_inverse v))

pub nf_inverse_nf : (w : Word) → nf (inverse (nf w)) ≡ nf (inverse w)
nf_inverse_nf w = nf_of_equal (inverse_equal (back (equal_nf w)))

-- ---- how long an inverse's normal form is: part by part, from R to R, from S to SS and from SS to S

-- behind w stands x, which equals y
nf_behind : (w x y : Word) → Equal x y → length (nf (w ++ x)) ≤ length (nf w) + length y
nf_behind w x y e = omega (arith, ap length (nf_of_equal (equal_append (equal_nf w) e)), nf_length (nf w ++ y), length-append (nf w) y)

mutual
  from_r_short : {w : Word} → FromRPart w → 2 * length (nf (inverse w)) ≤ 3 * length w
  from_r_short no_r_part = omega (arith, nf_length [])
  from_r_short (r_part {w} p) = omega (arith, from_s_short p, nf_behind (inverse w) (R ∷ []) (R ∷ []) none)

  from_s_short : {w : Word} → FromSPart w → 2 * length (nf (inverse w)) ≤ 3 * length w + 1
  from_s_short no_s_part = omega (arith, nf_length [])
  from_s_short (s_part {w} p) = omega (arith, from_r_short p, nf_behind (inverse w) (S ∷ S ∷ []) (S ∷ S ∷ []) none)
  from_s_short (ss_part {w} p) =
      omega (arith, from_r_short p, ap (λ (v : Word). length (nf v)) (inverse_append (S ∷ S ∷ []) w), nf_behind (inverse w) (S ∷ S ∷ S ∷ S ∷ []) (S ∷ []) (sss [] (S ∷ [])))

parts_short : (w : Word) → Parts w → 2 * length (nf (inverse w)) ≤ 3 * length w + 1
parts_short w (inl p) = omega (arith, from_r_short p)
parts_short w (inr p) = from_s_short p

pub inverse_form_short : (w : Word) → 2 * length (nf (inverse w)) ≤ 3 * length (nf w) + 1
inverse_form_short w = omega (arith, parts_short (nf w) ((parts_normal (nf w)).1 (nf_normal w)), ap length (nf_inverse_nf w))
