-- A list as the engine takes it: its letters one generator behind the other, and their ends. It passes question 9, and its generators are the
-- list's.
-- Assumes nothing.
use mathlib.Core.Path.{◌≡◌, refl, sym, ap, ap₂, ◌∙◌}
use mathlib.Core.List.{List, [], ◌∷◌, ◌++◌, map, append_assoc}
use Prim.Native.Nat.{ℕ, suc, ◌+◌}
use native.Mathlib.Omega.{arith}
use lib.Dec.{leb, eqb}
use lib.ListN.{length, length-append}
use borrow.Author.Tests.{le-leb, eq-eqb}
use Rattle.words.specs.Word.{Word}
use Rattle.words.specs.Bytes.{word}
use Rattle.refusals.specs.Questions.{Asked, passed, asks}
use Rattle.refusals.specs.declared.Refusal.TheVariants.{EndsWrong}
use Rattle.refusals.proofs.Asking.{yes_first}
use Rattle.slices.proofs.Slices.{slice_middle}
use Rattle.lists.specs.Questions.{first_fall, last_end, question9}
use Rattle.products.specs.Product.{generators_from, generators}
use Rattle.cards.specs.Card.{list_bytes, list_ends}

-- ---- some generators and then others

pub list_bytes_append : (a b : List (List ℕ)) → list_bytes (a ++ b) ≡ list_bytes a ++ list_bytes b
list_bytes_append [] b = refl
list_bytes_append (g ∷ a) b = ap (λ (l : List ℕ). g ++ l) (list_bytes_append a b) ∙ sym (append_assoc g (list_bytes a) (list_bytes b))

pub list_ends_append : (from : ℕ) (a b : List (List ℕ)) → list_ends from (a ++ b) ≡ list_ends from a ++ list_ends (from + length (list_bytes a)) b
list_ends_append from [] b = ap (λ (n : ℕ). list_ends n b) (omega arith)
list_ends_append from (g ∷ a) b =
    let sum : from + length g + length (list_bytes a) ≡ from + length (g ++ list_bytes a) = omega (arith, length-append g (list_bytes a)) in
    ap (λ (l : List ℕ). (from + length g) ∷ l) (list_ends_append (from + length g) a b ∙ ap (λ (n : ℕ). list_ends (from + length g) a ++ list_ends n b) sum)

-- ---- question 9

pub list_ends_length : (from : ℕ) (list : List (List ℕ)) → length (list_ends from list) ≡ length list
list_ends_length from [] = refl
list_ends_length from (g ∷ list) = ap suc (list_ends_length (from + length g) list)

last_end_from : (from : ℕ) (list : List (List ℕ)) → last_end from (list_ends from list) ≡ from + length (list_bytes list)
last_end_from from [] = omega arith
last_end_from from (g ∷ list) = omega (arith, last_end_from (from + length g) list, length-append g (list_bytes list))

pub list_ends_last : (list : List (List ℕ)) → last_end 0 (list_ends 0 list) ≡ length (list_bytes list)
list_ends_last list = omega (arith, last_end_from 0 list)

pub list_ends_rise : (from : ℕ) (list : List (List ℕ)) → first_fall from (list_ends from list) ≡ length list
list_ends_rise from [] = refl
list_ends_rise from (g ∷ list) = rw (le-leb from (from + length g) (omega arith)) (ap suc (list_ends_rise (from + length g) list))

pub list_ends_right : (list : List (List ℕ)) → question9 (list_ends 0 list) (length (list_bytes list)) ≡ passed
list_ends_right list =
    let ends = list_ends 0 list in
    let ending : Asked = asks (eqb (last_end 0 ends) (length (list_bytes list))) (EndsWrong (length ends)) in
    yes_first (leb (length ends) (first_fall 0 ends)) (EndsWrong (first_fall 0 ends)) (ending ∷ [])
    (le-leb (length ends) (first_fall 0 ends) (omega (arith, list_ends_length 0 list, list_ends_rise 0 list)))
    ∙ yes_first (eqb (last_end 0 ends) (length (list_bytes list))) (EndsWrong (length ends)) []
    (eq-eqb (last_end 0 ends) (length (list_bytes list)) (list_ends_last list))

-- ---- its generators

generators_behind : (list : List (List ℕ)) (done : List ℕ) (from : ℕ) → length done ≡ from
    → generators_from (done ++ list_bytes list) from (list_ends from list) ≡ map word list
generators_behind [] done from h = refl
generators_behind (g ∷ list) done from h =
    ap₂ (λ (x : Word) (y : List Word). x ∷ y) (ap word (slice_middle done g (list_bytes list) from h))
    (ap (λ (l : List ℕ). generators_from l (from + length g) (list_ends (from + length g) list)) (sym (append_assoc done g (list_bytes list)))
    ∙ generators_behind list (done ++ g) (from + length g) (omega (arith, length-append done g, h)))

pub list_generators : (list : List (List ℕ)) → generators (list_bytes list) (list_ends 0 list) ≡ map word list
list_generators list = generators_behind list [] 0 refl
