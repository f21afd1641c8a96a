-- What a query card means, field by field. Document 01, "The query card and its program". Assumes nothing: these are definitions.
use Rattle.std.specs.Prelude.{Bool, List, [], ◌∷◌, ◌++◌, ℕ, zero, suc, ◌+◌, ◌/◌, ◌%◌, eqb, length, ℤ}
use Rattle.refusals.specs.Telling.{pick}
use Rattle.unimodular.specs.Matrix.{Matrix}
use Rattle.fields.specs.Field.{Read, Whole, Cut, next, number_field, signed_field, letters_field}

-- A target is given by its letters or by a matrix.
pub data Target : Type 0 where
  Letters : List ℕ → Target
  Entries : Matrix → Target

-- What a card says. The list has the letters of each generator.
pub record Card : Type 0 where
  pub bound : ℕ
  pub target : Target
  pub list : List (List ℕ)

-- 01: "The first byte is a bit map, then come only the fields whose bit is set". `weight` is 1 for bit 0, 2 for bit 1, 4 for bit 2, 8 for bit 3.
abbrev pub bit : ℕ → ℕ → Bool
bit weight map = eqb (map / weight % 2) 1

-- 01: "Bit 0: n, 16 bits." "Without a field, n is 1,000".
abbrev pub default_bound : ℕ
default_bound = 1000

abbrev pub bound_field : ℕ → List ℕ → Read ℕ
bound_field map bs = pick (bit 1 map) (number_field 2 bs) (Whole default_bound bs)

-- 01: "Bit 2: the target as a, b, c, d, each a signed 64-bit number in two's complement."
abbrev pub matrix_field : List ℕ → Read Matrix
matrix_field bs =
    next (signed_field bs)
    (λ (a : ℤ) (after_a : List ℕ).
    next (signed_field after_a)
    (λ (b : ℤ) (after_b : List ℕ).
    next (signed_field after_b)
    (λ (c : ℤ) (after_c : List ℕ).
    next (signed_field after_c) (λ (d : ℤ) (rest : List ℕ). Whole (record { a = a; b = b; c = c; d = d }) rest))))

-- 01: "Bit 1: the target's length, 16 bits, and its letters."
abbrev pub letters_target : List ℕ → Read Target
letters_target bs = next (letters_field bs) (λ (letters rest : List ℕ). Whole (Letters letters) rest)

abbrev pub matrix_target : List ℕ → Read Target
matrix_target bs = next (matrix_field bs) (λ (m : Matrix) (rest : List ℕ). Whole (Entries m) rest)

-- Without either field "the target is empty".
abbrev pub target_field : ℕ → List ℕ → Read Target
target_field map bs = pick (bit 2 map) (letters_target bs) (pick (bit 4 map) (matrix_target bs) (Whole (Letters []) bs))

-- so many generators, "for each its length, 16 bits, and its letters"
abbrev pub generator_fields : ℕ → List ℕ → Read (List (List ℕ))
generator_fields zero bs = Whole [] bs
generator_fields (suc count) bs =
    next (letters_field bs)
    (λ (letters after_one : List ℕ).
    next (generator_fields count after_one) (λ (others : List (List ℕ)) (rest : List ℕ). Whole (letters ∷ others) rest))

-- 01: "Bit 3: a byte with the number of generators, then for each its length, 16 bits, and its letters."
abbrev pub counted_list : List ℕ → Read (List (List ℕ))
counted_list bs = next (number_field 1 bs) generator_fields

-- Without the field "the list is empty".
abbrev pub list_field : ℕ → List ℕ → Read (List (List ℕ))
list_field map bs = pick (bit 8 map) (counted_list bs) (Whole [] bs)

-- The fields "in this order": the bound, the target, the list.
abbrev pub after_target : ℕ → ℕ → Target → List ℕ → Read Card
after_target map n target bs =
    next (list_field map bs) (λ (list : List (List ℕ)) (rest : List ℕ). Whole (record { bound = n; target = target; list = list }) rest)

abbrev pub after_bound : ℕ → ℕ → List ℕ → Read Card
after_bound map n bs = next (target_field map bs) (after_target map n)

abbrev pub fields : ℕ → List ℕ → Read Card
fields map bs = next (bound_field map bs) (after_bound map)

-- The bit map, and the fields that it tells of. Question 2 comes first and refuses a card without a first byte, so the first clause is never used.
abbrev pub card_of : List ℕ → Read Card
card_of [] = Cut
card_of (map ∷ bs) = fields map bs

-- The list as the engine takes it: the letters of all generators, one behind the other, and the ends.
abbrev pub list_bytes : List (List ℕ) → List ℕ
list_bytes [] = []
list_bytes (letters ∷ others) = letters ++ list_bytes others

abbrev pub list_ends : ℕ → List (List ℕ) → List ℕ
list_ends from [] = []
list_ends from (letters ∷ others) = (from + length letters) ∷ list_ends (from + length letters) others
