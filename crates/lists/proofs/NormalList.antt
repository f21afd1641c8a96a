-- The reduced list: its generators are the normal forms of the given list's, its ends never fall and end with its letters. One behind the other, two lists'
-- forms are those of both. Assumes nothing.
use mathlib.Core.Path.{◌≡◌, refl, sym, ap, ap₂, ◌∙◌}
use mathlib.Core.List.{List, [], ◌∷◌, ◌++◌, map, append_assoc}
use Prim.Native.Nat.{ℕ, zero, suc, ◌+◌, ◌≤◌, ◌<◌}
use native.Mathlib.Nat.{le_of_suc-le-suc, not-suc-le-zero}
use native.Mathlib.Omega.{arith}
use lib.ListN.{length, take, drop, get_or, length-append, take-append-drop}
use lib.Seq.{slice}
use Rattle.words.specs.Word.{Word, nf}
use Rattle.words.specs.Bytes.{word, bytes}
use Rattle.words.proofs.Bytes.{word_bytes, length_bytes, first_other_bytes}
use Rattle.slices.proofs.Slices.{slice_middle}
use Rattle.products.specs.Product.{generators_from, generators}
use Rattle.lists.specs.Questions.{last_end}
use Rattle.lists.specs.NormalList.{total, normal_bytes, normal_ends}
use Rattle.lists.specs.Reducing.{AllLetters}
use Rattle.lists.proofs.Rising.{Rising, none, next}
use Rattle.lists.proofs.FirstOthers.{first_other_behind}

pub normal_bytes_length : (gens : List Word) → length (normal_bytes gens) ≡ total gens
normal_bytes_length [] = refl
normal_bytes_length (g ∷ gens) = omega (arith, length-append (bytes (nf g)) (normal_bytes gens), length_bytes (nf g), normal_bytes_length gens)

pub normal_ends_length : (from : ℕ) (gens : List Word) → length (normal_ends from gens) ≡ length gens
normal_ends_length from [] = refl
normal_ends_length from (g ∷ gens) = ap suc (normal_ends_length (from + length (nf g)) gens)

-- ---- two lists, one behind the other

pub total_append : (a b : List Word) → total (a ++ b) ≡ total a + total b
total_append [] b = omega arith
total_append (g ∷ a) b = omega (arith, total_append a b)

pub normal_bytes_append : (a b : List Word) → normal_bytes (a ++ b) ≡ normal_bytes a ++ normal_bytes b
normal_bytes_append [] b = refl
normal_bytes_append (g ∷ a) b = ap (λ (l : List ℕ). bytes (nf g) ++ l) (normal_bytes_append a b) ∙ sym (append_assoc (bytes (nf g)) (normal_bytes a) (normal_bytes b))

pub normal_ends_append : (from : ℕ) (a b : List Word) → normal_ends from (a ++ b) ≡ normal_ends from a ++ normal_ends (from + total a) b
normal_ends_append from [] b = ap (λ (k : ℕ). normal_ends k b) (omega arith)
normal_ends_append from (g ∷ a) b =
    ap (λ (l : List ℕ). (from + length (nf g)) ∷ l) (normal_ends_append (from + length (nf g)) a b
    ∙ ap (λ (k : ℕ). normal_ends (from + length (nf g)) a ++ normal_ends k b) (omega arith))

-- the first few forms have no more letters than all of them
pub total_take : (n : ℕ) (gens : List Word) → total (take n gens) ≤ total gens
total_take n gens = omega (arith, total_append (take n gens) (drop n gens), ap total (take-append-drop n gens))

-- ---- the list that they make

first_form : (g : Word) (done rest : List ℕ) (from : ℕ) → length done ≡ from → word (slice from (from + length (nf g)) (done ++ (bytes (nf g) ++ rest))) ≡ nf g
first_form g done rest from h =
    ap (λ (k : ℕ). word (slice from (from + k) (done ++ (bytes (nf g) ++ rest)))) (sym (length_bytes (nf g)))
    ∙ ap word (slice_middle done (bytes (nf g)) rest from h) ∙ word_bytes (nf g)

from_done : (gens : List Word) (done : List ℕ) (from : ℕ) → length done ≡ from → generators_from (done ++ normal_bytes gens) from (normal_ends from gens) ≡ map nf gens
from_done [] done from h = refl
from_done (g ∷ gens) done from h =
    ap₂ (λ (x : Word) (y : List Word). x ∷ y) (first_form g done (normal_bytes gens) from h)
    (ap (λ (l : List ℕ). generators_from l (from + length (nf g)) (normal_ends (from + length (nf g)) gens)) (sym (append_assoc done (bytes (nf g)) (normal_bytes gens)))
    ∙ from_done gens (done ++ bytes (nf g)) (from + length (nf g)) (omega (arith, length-append done (bytes (nf g)), h, length_bytes (nf g))))

pub normal_list : (gens : List Word) → generators (normal_bytes gens) (normal_ends 0 gens) ≡ map nf gens
normal_list gens = from_done gens [] 0 refl

pub normal_letters : (gens : List Word) → AllLetters (normal_bytes gens)
normal_letters [] = omega arith
normal_letters (g ∷ gens) =
    omega (arith, normal_letters gens, length-append (bytes (nf g)) (normal_bytes gens), first_other_behind (bytes (nf g)) (normal_bytes gens) (omega (arith, first_other_bytes (nf g))))

-- ---- its ends never fall, and stay within its letters

pub normal_ends_rising : (from : ℕ) (gens : List Word) → Rising from (normal_ends from gens)
normal_ends_rising from [] = none
normal_ends_rising from (g ∷ gens) = next {from = from} {end = from + length (nf g)} (omega arith) (normal_ends_rising (from + length (nf g)) gens)

pub normal_ends_last : (from : ℕ) (gens : List Word) → last_end from (normal_ends from gens) ≡ from + total gens
normal_ends_last from [] = omega arith
normal_ends_last from (g ∷ gens) = omega (arith, normal_ends_last (from + length (nf g)) gens)

pub normal_ends_above : (from : ℕ) (gens : List Word) (j : ℕ) → j < length gens → from ≤ get_or (normal_ends from gens) j 0
normal_ends_above from [] j h = absurd (not-suc-le-zero h)
normal_ends_above from (g ∷ gens) zero h = omega arith
normal_ends_above from (g ∷ gens) (suc j) h = omega (arith, normal_ends_above (from + length (nf g)) gens j (le_of_suc-le-suc h))

pub normal_ends_rise : (from : ℕ) (gens : List Word) (i j : ℕ) → i ≤ j → j < length gens → get_or (normal_ends from gens) i 0 ≤ get_or (normal_ends from gens) j 0
normal_ends_rise from [] i j k h = absurd (not-suc-le-zero h)
normal_ends_rise from (g ∷ gens) zero zero k h = omega arith
normal_ends_rise from (g ∷ gens) zero (suc j) k h = normal_ends_above (from + length (nf g)) gens j (le_of_suc-le-suc h)
normal_ends_rise from (g ∷ gens) (suc i) zero k h = absurd (omega arith)
normal_ends_rise from (g ∷ gens) (suc i) (suc j) k h = normal_ends_rise (from + length (nf g)) gens i j (le_of_suc-le-suc k) (le_of_suc-le-suc h)

pub normal_ends_within : (from : ℕ) (gens : List Word) (j : ℕ) → j < length gens → get_or (normal_ends from gens) j 0 ≤ from + total gens
normal_ends_within from [] j h = absurd (not-suc-le-zero h)
normal_ends_within from (g ∷ gens) zero h = omega arith
normal_ends_within from (g ∷ gens) (suc j) h = omega (arith, normal_ends_within (from + length (nf g)) gens j (le_of_suc-le-suc h))
