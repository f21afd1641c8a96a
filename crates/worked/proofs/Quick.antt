-- Worked values of the quick answer, 02's M-106, and wrong answers to them, each refused by the definition of a right one.
-- Assumes nothing.
use mathlib.Core.Bool.{Bool, true, false}
use mathlib.Core.Path.{◌≡◌, refl, sym, ap, subst, ◌∙◌}
use mathlib.Core.List.{List, [], ◌∷◌, flat_map}
use Prim.Native.Nat.{ℕ, zero, suc, ◌<◌}
use native.Mathlib.Nat.{not-suc-le-zero}
use native.Mathlib.Omega.{arith}
use lib.Dec.{T, eqb, eqb→eq}
use lib.ListN.{length, get_or}
use Rattle.refusals.specs.Telling.{pick}
use Rattle.words.specs.Word.{R, S, Word}
use Rattle.products.specs.Product.{Series, Counted, plain}
use Rattle.residues.specs.Residues.{Quadruple, quadruples, numbering, numbered, number_of, image, multiplied, image_of, QuickNoRight, OpenRight}
use Rattle.residues.proofs.Every.{every, at}
use Rattle.residues.proofs.Numbering.{there_are_168}
use Rattle.residues.proofs.Images.{image_small}
use Rattle.residues.proofs.Multiplied.{multiplied_small, multiplied_unit}
use Rattle.residues.proofs.Quick.{quick_empty, quick_not_open}
use Rattle.worked.proofs.Refused.{once}

-- the list SSS
abbrev thrice : List Word
thrice = (S ∷ S ∷ S ∷ []) ∷ []

-- ---- right answers

-- SR with RSS is open: modulo 7 the inverse of T is its sixth power
pub inverse_open : OpenRight (plain once) (R ∷ S ∷ S ∷ [])
unfolding image multiplied numbered number_of numbering quadruples flat_map
inverse_open =
    (0 ∷ 0 ∷ 0 ∷ 0 ∷ 0 ∷ 0 ∷ [], (omega arith, (omega arith, (omega arith, (omega arith, (omega arith, (omega arith, tt)))))), omega arith, refl)

-- a generator that vanishes is a relation, so its list is open for the empty target ..
pub vanishing_open : OpenRight (plain thrice) []
unfolding image multiplied numbered number_of numbering quadruples flat_map
vanishing_open = (0 ∷ [], (omega arith, tt), omega arith, refl)

-- .. and an empty list is not. 02: "an empty list always gets it"
pub nothing_no : QuickNoRight (plain []) []
nothing_no = quick_empty []

-- the seven images of the powers of T
is_power : ℕ → Bool
is_power k =
    pick (eqb k 28) true (pick (eqb k 35) true (pick (eqb k 42) true (pick (eqb k 49) true (pick (eqb k 56) true (pick (eqb k 63) true (eqb k 21))))))

-- one more factor leads from one of them to one of them
stays_power : ℕ → Quadruple → Bool
stays_power k q = pick (is_power k) (is_power (multiplied 28 k)) true

all_stay : T (every stays_power 0 numbering)
unfolding stays_power is_power multiplied numbered number_of numbering quadruples flat_map
all_stay = tt

image_T : image (S ∷ R ∷ []) ≡ 28
unfolding image number_of numbering quadruples flat_map
image_T = refl

next_power : (k : ℕ) → k < 168 → T (is_power k) → T (is_power (multiplied 28 k))
unfolding stays_power
next_power k small power = go (is_power k) (is_power (multiplied 28 k)) power (at stays_power numbering all_stay k (rw there_are_168 small) (record { a = 0; b = 0; c = 0; d = 0 }))
  where
    go : (s t : Bool) → T s → T (pick s t true) → T t
    go true t h x = x
    go false t h x = absurd h

powers : (r : List ℕ) → Series once r → Counted r → (image_of (plain once) r < 168) × T (is_power (image_of (plain once) r))
unfolding is_power
powers [] series counted = absurd (not-suc-le-zero counted)
powers (suc i ∷ r) series counted = absurd (omega (arith, series.0))
powers (zero ∷ []) series counted =
    let t = multiplied_unit (image (S ∷ R ∷ [])) (image_small (S ∷ R ∷ [])) ∙ image_T in
    (rw t (omega arith), subst (λ (k : ℕ). T (is_power k)) (sym t) tt)
powers (zero ∷ l ∷ r) series counted =
    let (small, power) = powers (l ∷ r) series.1 (omega arith) in
    let step = ap (λ (t : ℕ). multiplied t (image_of (plain once) (l ∷ r))) image_T in (
      rw step (multiplied_small 28 (image_of (plain once) (l ∷ r)) (omega arith) small),
      subst (λ (k : ℕ). T (is_power k)) (sym step) (next_power (image_of (plain once) (l ∷ r)) small power),
    )

image_R : image (R ∷ []) ≡ 0
unfolding image number_of numbering quadruples flat_map
image_R = refl

-- SR with R gets the quick no: R is no power of T, even modulo 7
pub flip_no : QuickNoRight (plain once) (R ∷ [])
unfolding is_power
flip_no r series counted e = subst (λ (k : ℕ). T (is_power k)) (e ∙ image_R) (powers r series counted).1

-- ---- wrong answers

-- the verdict's no given for the quick one: RSS is no product of SR, but modulo 7 it is
pub verdict_for_quick_refused : QuickNoRight (plain once) (R ∷ S ∷ S ∷ []) → ⊥
verdict_for_quick_refused right = quick_not_open (plain once) (R ∷ S ∷ S ∷ []) right inverse_open

-- open for a target that the images do not make
pub open_for_flip_refused : OpenRight (plain once) (R ∷ []) → ⊥
open_for_flip_refused = quick_not_open (plain once) (R ∷ []) flip_no

-- a closure that begins at the unit: the empty target open for an empty list
pub open_for_nothing_refused : OpenRight (plain []) [] → ⊥
open_for_nothing_refused = quick_not_open (plain []) [] nothing_no

-- the empty product left out by leaving the unit out: no for the empty target of a list that has a relation
pub no_for_relation_refused : QuickNoRight (plain thrice) [] → ⊥
no_for_relation_refused right = quick_not_open (plain thrice) [] right vanishing_open
