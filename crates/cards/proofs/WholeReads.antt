-- What stands behind a field is no longer than what the field was read from. Assumes nothing.
use mathlib.Core.Path.{◌≡◌, subst}
use mathlib.Core.Bool.{Bool, true, false}
use mathlib.Core.List.{List, [], ◌∷◌}
use Prim.Native.Nat.{ℕ, zero, suc, ◌≤◌}
use native.Mathlib.Nat.{le_refl}
use native.Mathlib.Omega.{arith}
use lib.Dec.{leb}
use lib.IntN.{ℤ}
use lib.ListN.{length, take, drop, length-drop}
use Rattle.refusals.specs.Telling.{pick}
use Rattle.unimodular.specs.Matrix.{Matrix}
use Rattle.fields.specs.Field.{Read, Whole, Cut, next, bytes_field, number, number_field, twos_complement, signed_field, letters_field}
use Rattle.cards.specs.Card.{Letters, Entries, Card, bit, default_bound, bound_field, matrix_field, letters_target, matrix_target, target_field, generator_fields, counted_list, list_field, after_target, after_bound, fields}

-- where the field is whole, at most so many bytes stand behind it
abbrev pub Within : {A : Type 0} → ℕ → Read A → Type 0
Within most (Whole a rest) = length rest ≤ most
Within most Cut = Unit {0}

within_next : {A B : Type 0} (most : ℕ) (field : Read A) (behind : A → List ℕ → Read B) → Within most field
    → ((a : A) (rest : List ℕ) → length rest ≤ most → Within most (behind a rest)) → Within most (next field behind)
within_next most (Whole a rest) behind h g = g a rest h
within_next most Cut behind h g = tt

within_pick : {A : Type 0} (most : ℕ) (t : Bool) (a b : Read A) → Within most a → Within most b → Within most (pick t a b)
within_pick most true a b h k = h
within_pick most false a b h k = k

module _ (most : ℕ) where
  bytes_within : (count : ℕ) (bs : List ℕ) → length bs ≤ most → Within most (bytes_field count bs)
  bytes_within count bs h = within_pick most (leb count (length bs)) (Whole (take count bs) (drop count bs)) Cut (omega (arith, length-drop count bs)) tt

  number_within : (count : ℕ) (bs : List ℕ) → length bs ≤ most → Within most (number_field count bs)
  number_within count bs h = within_next most (bytes_field count bs) (λ (field rest : List ℕ). Whole (number field) rest) (bytes_within count bs h) (λ field rest k. k)

  letters_within : (bs : List ℕ) → length bs ≤ most → Within most (letters_field bs)
  letters_within bs h = within_next most (number_field 2 bs) bytes_field (number_within 2 bs h) bytes_within

  -- a signed number, and what is read behind it
  signed_within : {B : Type 0} (read : ℤ → List ℕ → Read B) (bs : List ℕ) → length bs ≤ most
      → ((z : ℤ) (rest : List ℕ) → length rest ≤ most → Within most (read z rest)) → Within most (next (signed_field bs) read)
  signed_within read bs h g =
      within_next most (signed_field bs) read
      (within_next most (number_field 8 bs) (λ (u : ℕ) (rest : List ℕ). Whole (twos_complement u) rest) (number_within 8 bs h) (λ u rest k. k)) g

  matrix_within : (bs : List ℕ) → length bs ≤ most → Within most (matrix_field bs)
  matrix_within bs h =
      signed_within _ bs h
      (λ a after_a h. signed_within _ after_a h
      (λ b after_b h. signed_within _ after_b h
      (λ c after_c h. signed_within _ after_c h (λ d rest h. h))))

  bound_within : (map : ℕ) (bs : List ℕ) → length bs ≤ most → Within most (bound_field map bs)
  bound_within map bs h = within_pick most (bit 1 map) (number_field 2 bs) (Whole default_bound bs) (number_within 2 bs h) h

  target_within : (map : ℕ) (bs : List ℕ) → length bs ≤ most → Within most (target_field map bs)
  target_within map bs h =
      within_pick most (bit 2 map) (letters_target bs) (pick (bit 4 map) (matrix_target bs) (Whole (Letters []) bs))
      (within_next most (letters_field bs) (λ (letters rest : List ℕ). Whole (Letters letters) rest) (letters_within bs h) (λ letters rest k. k))
      (within_pick most (bit 4 map) (matrix_target bs) (Whole (Letters []) bs)
      (within_next most (matrix_field bs) (λ (m : Matrix) (rest : List ℕ). Whole (Entries m) rest) (matrix_within bs h) (λ m rest k. k)) h)

  generators_within : (count : ℕ) (bs : List ℕ) → length bs ≤ most → Within most (generator_fields count bs)
  generators_within zero bs h = h
  generators_within (suc count) bs h =
      within_next most (letters_field bs)
      (λ (letters after_one : List ℕ).
      next (generator_fields count after_one) (λ (others : List (List ℕ)) (rest : List ℕ). Whole (letters ∷ others) rest))
      (letters_within bs h)
      (λ letters after_one k.
      within_next most (generator_fields count after_one) (λ (others : List (List ℕ)) (rest : List ℕ). Whole (letters ∷ others) rest)
      (generators_within count after_one k) (λ others rest k. k))

  list_within : (map : ℕ) (bs : List ℕ) → length bs ≤ most → Within most (list_field map bs)
  list_within map bs h =
      within_pick most (bit 8 map) (counted_list bs) (Whole [] bs)
      (within_next most (number_field 1 bs) generator_fields (number_within 1 bs h) generators_within) h

  fields_within : (map : ℕ) (bs : List ℕ) → length bs ≤ most → Within most (fields map bs)
  fields_within map bs h =
      within_next most (bound_field map bs) (after_bound map) (bound_within map bs h)
      (λ n after_n h.
      within_next most (target_field map after_n) (after_target map n) (target_within map after_n h)
      (λ target after_t h.
      within_next most (list_field map after_t) (λ (list : List (List ℕ)) (rest : List ℕ). Whole (record { bound = n; target = target; list = list }) rest)
      (list_within map after_t h) (λ list rest k. k)))

pub behind_fields : (map : ℕ) (bs : List ℕ) {card : Card} {rest : List ℕ} → fields map bs ≡ Whole card rest → length rest ≤ length bs
behind_fields map bs e = subst (Within (length bs)) e (fields_within (length bs) map bs (le_refl (length bs)))
