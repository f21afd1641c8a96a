-- A card that is made from fields is read back as those fields, and its bit map passes question 2. Assumes nothing.
use Rattle.refusals.specs.Questions.{passed}
use mathlib.Core.Bool.{Bool, true, false}
use mathlib.Core.Path.{◌≡◌, refl, sym, ap, ◌∙◌}
use mathlib.Core.List.{List, [], ◌∷◌, ◌++◌, append_assoc, append-nil}
use mathlib.Core.Option.{Option, none, some}
use Prim.Native.Nat.{ℕ, ◌+◌, ◌≤◌, ◌<◌}
use lib.ListN.{length}
use lib.IntN.{ℤ, pos, negsuc}
use lib.Signed.{mag}
use Rattle.unimodular.specs.Matrix.{Matrix}
use Rattle.fields.specs.Field.{Read, Whole, next, signed_field, letters_field, spelled}
use Rattle.fields.proofs.Reading.{number_read, letters_read, signed_read}
use Rattle.cards.specs.Card.{Target, Letters, Entries, bit, default_bound, bound_field, matrix_field, target_field, generator_fields, list_field, after_target, after_bound, card_of}
use Rattle.cards.specs.Made.{Fields, word_bytes, words_bytes, signed_bytes, bound_bytes, target_bytes, list_field_bytes, bound_bit, target_bit, list_bit, made, or_else, meant, InSigned, AllShort, BoundFits, TargetFits, ListFits, FieldsFit}
use Rattle.cards.specs.Questions.{question2}

-- what is read behind a whole field
read_on : {A B : Type 0} {field : Read A} {a : A} {rest : List ℕ} (read : A → List ℕ → Read B) → field ≡ Whole a rest → next field read ≡ read a rest
read_on read e = ap (λ (f : Read _). next f read) e

-- ---- the bit map

abbrev is_there : {A : Type 0} → Option A → Bool
is_there none = false
is_there (some a) = true

abbrev by_letters : Option Target → Bool
by_letters none = false
by_letters (some (Letters letters)) = true
by_letters (some (Entries m)) = false

abbrev by_entries : Option Target → Bool
by_entries none = false
by_entries (some (Letters letters)) = false
by_entries (some (Entries m)) = true

module _ (b : Option ℕ) (t : Option Target) (l : Option (List (List ℕ))) where
  abbrev bit_map : ℕ
  bit_map = bound_bit b + (target_bit t + list_bit l)

  -- each bit of the map tells whether its field is there, and the map passes question 2
  abbrev Tells : Type 0
  Tells =
      (bit 1 bit_map ≡ is_there b) × (bit 2 bit_map ≡ by_letters t) × (bit 4 bit_map ≡ by_entries t) × (bit 8 bit_map ≡ is_there l)
      × ((bs : List ℕ) → question2 (bit_map ∷ bs) ≡ passed)

tells : (b : Option ℕ) (t : Option Target) (l : Option (List (List ℕ))) → Tells b t l
tells none none none = (refl, refl, refl, refl, λ bs. refl)
tells none none (some list) = (refl, refl, refl, refl, λ bs. refl)
tells none (some (Letters letters)) none = (refl, refl, refl, refl, λ bs. refl)
tells none (some (Letters letters)) (some list) = (refl, refl, refl, refl, λ bs. refl)
tells none (some (Entries m)) none = (refl, refl, refl, refl, λ bs. refl)
tells none (some (Entries m)) (some list) = (refl, refl, refl, refl, λ bs. refl)
tells (some n) none none = (refl, refl, refl, refl, λ bs. refl)
tells (some n) none (some list) = (refl, refl, refl, refl, λ bs. refl)
tells (some n) (some (Letters letters)) none = (refl, refl, refl, refl, λ bs. refl)
tells (some n) (some (Letters letters)) (some list) = (refl, refl, refl, refl, λ bs. refl)
tells (some n) (some (Entries m)) none = (refl, refl, refl, refl, λ bs. refl)
tells (some n) (some (Entries m)) (some list) = (refl, refl, refl, refl, λ bs. refl)

-- ---- each field, in front of a rest

bound_read : (map : ℕ) (b : Option ℕ) (rest : List ℕ) → BoundFits b → bit 1 map ≡ is_there b → bound_field map (bound_bytes b ++ rest) ≡ Whole (or_else b default_bound) rest
bound_read map none rest fits e = rw e
bound_read map (some n) rest fits e = rw e (number_read 2 n rest fits)

word_read : (letters rest : List ℕ) → length letters < 65536 → letters_field (word_bytes letters ++ rest) ≡ Whole letters rest
word_read letters rest h = ap letters_field (append_assoc (spelled 2 (length letters)) letters rest) ∙ letters_read letters rest h

in_signed : (z : ℤ) → InSigned z → mag z ≤ 9223372036854775807
in_signed (pos n) h = h
in_signed (negsuc n) h = h

-- a number in front of other bytes
entry_read : {B : Type 0} (read : ℤ → List ℕ → Read B) (z : ℤ) (more rest : List ℕ) → InSigned z → next (signed_field ((signed_bytes z ++ more) ++ rest)) read ≡ read z (more ++ rest)
entry_read read z more rest h =
    ap (λ (bs : List ℕ). next (signed_field bs) read) (append_assoc (signed_bytes z) more rest) ∙ read_on read (signed_read z (more ++ rest) (in_signed z h))

matrix_read : (m : Matrix) (rest : List ℕ) → TargetFits (some (Entries m)) → matrix_field (target_bytes (some (Entries m)) ++ rest) ≡ Whole m rest
matrix_read m rest fits =
    let whole : ℤ → ℤ → ℤ → ℤ → List ℕ → Read Matrix = λ a b c d rest. Whole (record { a = a; b = b; c = c; d = d }) rest in
    entry_read (λ (a : ℤ) (after_a : List ℕ). next (signed_field after_a) (λ (b : ℤ) (after_b : List ℕ). next (signed_field after_b) (λ (c : ℤ) (after_c : List ℕ). next (signed_field after_c) (whole a b c))))
    m.a (signed_bytes m.b ++ (signed_bytes m.c ++ signed_bytes m.d)) rest fits.0
    ∙ entry_read (λ (b : ℤ) (after_b : List ℕ). next (signed_field after_b) (λ (c : ℤ) (after_c : List ℕ). next (signed_field after_c) (whole m.a b c)))
    m.b (signed_bytes m.c ++ signed_bytes m.d) rest fits.1
    ∙ entry_read (λ (c : ℤ) (after_c : List ℕ). next (signed_field after_c) (whole m.a m.b c)) m.c (signed_bytes m.d) rest fits.2
    ∙ read_on (whole m.a m.b m.c) (signed_read m.d rest (in_signed m.d fits.3))

target_read : (map : ℕ) (t : Option Target) (rest : List ℕ) → TargetFits t → bit 2 map ≡ by_letters t → bit 4 map ≡ by_entries t
    → target_field map (target_bytes t ++ rest) ≡ Whole (or_else t (Letters [])) rest
target_read map none rest fits e e' = rw (e, e')
target_read map (some (Letters letters)) rest fits e e' = rw e (read_on (λ (letters rest : List ℕ). Whole (Letters letters) rest) (word_read letters rest fits))
target_read map (some (Entries m)) rest fits e e' = rw (e, e') (read_on (λ (m : Matrix) (rest : List ℕ). Whole (Entries m) rest) (matrix_read m rest fits))

words_read : (list : List (List ℕ)) (rest : List ℕ) → AllShort list → generator_fields (length list) (words_bytes list ++ rest) ≡ Whole list rest
words_read [] rest short = refl
words_read (letters ∷ others) rest short =
    ap (generator_fields (length (letters ∷ others))) (append_assoc (word_bytes letters) (words_bytes others) rest)
    ∙ read_on (λ (letters after_one : List ℕ). next (generator_fields (length others) after_one) (λ (others : List (List ℕ)) (rest : List ℕ). Whole (letters ∷ others) rest))
    (word_read letters (words_bytes others ++ rest) short.0)
    ∙ read_on (λ (others : List (List ℕ)) (rest : List ℕ). Whole (letters ∷ others) rest) (words_read others rest short.1)

list_read : (map : ℕ) (l : Option (List (List ℕ))) → ListFits l → bit 8 map ≡ is_there l → list_field map (list_field_bytes l) ≡ Whole (or_else l []) []
list_read map none fits e = rw e
list_read map (some list) fits e =
    rw e
    (read_on generator_fields (number_read 1 (length list) (words_bytes list) fits.0)
    ∙ ap (generator_fields (length list)) (sym (append-nil (words_bytes list))) ∙ words_read list [] fits.1)

-- ---- the card

pub made_map : (f : Fields) → question2 (made f) ≡ passed
made_map f = (tells f.bound f.target f.list).4 (bound_bytes f.bound ++ (target_bytes f.target ++ list_field_bytes f.list))

pub made_read : (f : Fields) → FieldsFit f → card_of (made f) ≡ Whole (meant f) []
made_read f fits =
    let map : ℕ = bit_map f.bound f.target f.list in
    let (bound-bit, letters_bit, entries_bit, list-bit, passes) = tells f.bound f.target f.list in
    read_on (after_bound map) (bound_read map f.bound (target_bytes f.target ++ list_field_bytes f.list) fits.0 bound-bit)
    ∙ read_on (after_target map (or_else f.bound default_bound)) (target_read map f.target (list_field_bytes f.list) fits.1 letters_bit entries_bit)
    ∙ read_on (λ (list : List (List ℕ)) (rest : List ℕ). Whole (record { bound = or_else f.bound default_bound; target = or_else f.target (Letters []); list = list }) rest)
    (list_read map f.list fits.2 list-bit)
