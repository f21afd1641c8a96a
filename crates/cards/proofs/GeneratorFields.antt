-- Generators that were read one behind the other: the first of them, how many they are, and how many bytes they take.
-- Assumes nothing.
use mathlib.Core.Path.{◌≡◌, refl, ap, ◌∙◌}
use mathlib.Core.List.{List, [], ◌∷◌}
use Prim.Native.Nat.{ℕ, zero, suc, ◌+◌, ◌*◌}
use native.Mathlib.Omega.{arith}
use native.Mathlib.Decide.{dec_lt}
use lib.ListN.{length, take, drop, length-append, length-drop}
use lib.Seq.{length-take-le}
use Rattle.fields.specs.Field.{Read, Whole, Cut, next, bytes_field, number_field, letters_field}
use Rattle.fields.proofs.Reading.{bytes_whole, bytes_cut, after_number}
use Rattle.cards.specs.Card.{generator_fields, list_bytes}
use Rattle.cards.specs.Reading.{Listed}

-- what stands behind a field is read whole only where the field was
next_whole : {A B : Type 0} (field : Read A) (read : A → List ℕ → Read B) {b : B} {rest : List ℕ} → next field read ≡ Whole b rest
    → (a : A) × (behind : List ℕ) × (field ≡ Whole a behind) × (read a behind ≡ Whole b rest)
next_whole (Whole a behind) read e = (a, behind, refl, e)
next_whole Cut read e = absurd (cc)

-- ---- how many bytes a field takes

bytes_length : (k : ℕ) (bs : List ℕ) {field rest : List ℕ} → bytes_field k bs ≡ Whole field rest → (length field ≡ k) × (length bs ≡ k + length rest)
bytes_length k bs {field} {rest} e = elim (dec_lt (length bs) k) [
  | yes short ↦ let cut : bytes_field k bs ≡ Cut = bytes_cut k bs 0 (omega arith) in absurd (cc)
  | no long ↦
      let whole : bytes_field k bs ≡ Whole (take k bs) (drop (0 + k) bs) = bytes_whole k bs 0 (omega arith) in
      let front : field ≡ take k bs = cc in
      let back : rest ≡ drop (0 + k) bs = cc in
      (ap length front ∙ length-take-le k bs (omega arith), omega (arith, ap length back, length-drop (0 + k) bs))
]

pub letters_length : (bs : List ℕ) {letters rest : List ℕ} → letters_field bs ≡ Whole letters rest → length bs ≡ 2 + length letters + length rest
letters_length bs {letters} {rest} e =
    let (n, behind, is_number, are_bytes) = next_whole (number_field 2 bs) bytes_field e in
    let (stands, fits) = after_number 2 bs 0 (omega arith) is_number in
    let (many, left) = bytes_length n behind are_bytes in
    omega (arith, ap length stands, length-drop (0 + 2) bs)

-- ---- the generators

-- The first generator of some, what stands behind it, and the others.
pub record First (bs : List ℕ) (count : ℕ) (list : List (List ℕ)) (rest : List ℕ) : Type 0 where
  pub generator : List ℕ
  pub behind : List ℕ
  pub others : List (List ℕ)
  pub there : letters_field bs ≡ Whole generator behind
  pub follow : generator_fields count behind ≡ Whole others rest
  pub splits : list ≡ generator ∷ others

pub first_generator : (bs : List ℕ) (count : ℕ) {list : List (List ℕ)} {rest : List ℕ} → generator_fields (suc count) bs ≡ Whole list rest → First bs count list rest
first_generator bs count {list} {rest} e =
    let (generator, behind, there, e') =
    next_whole (letters_field bs) (λ (letters after_one : List ℕ). next (generator_fields count after_one) (λ (others : List (List ℕ)) (rest : List ℕ). Whole (letters ∷ others) rest)) e in
    let (others, end, follow, e'') = next_whole (generator_fields count behind) (λ (others : List (List ℕ)) (rest : List ℕ). Whole (generator ∷ others) rest) e' in
    let ends : end ≡ rest = cc in
    record {
      generator = generator;
      behind = behind;
      others = others;
      there = there;
      follow = follow ∙ ap (Whole others) ends;
      splits = cc;
    }

pub no_generators : (bs : List ℕ) {list : List (List ℕ)} {rest : List ℕ} → generator_fields 0 bs ≡ Whole list rest → list ≡ []
no_generators bs e = cc

pub generators_length : (count : ℕ) (bs : List ℕ) {list : List (List ℕ)} {rest : List ℕ} → generator_fields count bs ≡ Whole list rest
    → (length list ≡ count) × (length bs ≡ length (list_bytes list) + 2 * count + length rest)
generators_length zero bs {list} {rest} e =
    let none : list ≡ [] = no_generators bs e in
    let all : bs ≡ rest = cc in
    (ap length none, omega (arith, ap length all, ap (λ (l : List (List ℕ)). length (list_bytes l)) none))
generators_length (suc count) bs {list} {rest} e =
    let f = first_generator bs count e in
    let (many, long) = generators_length count f.behind f.follow in (
      ap length f.splits ∙ ap suc many,
      omega (arith, letters_length bs f.there, ap (λ (l : List (List ℕ)). length (list_bytes l)) f.splits, length-append f.generator (list_bytes f.others)),
    )

-- ---- a list that fills its bytes

module _ (bytes : List ℕ) (count : ℕ) {list : List (List ℕ)} (listed : Listed bytes count list) where
  pub listed_count : length list ≡ count
  listed_count = (generators_length count bytes listed).0

  pub listed_letters : length (list_bytes list) + 2 * count ≡ length bytes
  listed_letters = omega (arith, (generators_length count bytes listed).1)
