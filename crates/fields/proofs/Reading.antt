-- What is read of bytes, where it is whole and where it is cut off, and that what is spelled is read again.
--     bytes_whole, number_whole, bytes_cut, number_cut    at a place of a card: whole exactly where that many bytes are left
--     field_whole                                         what an answer says of the field
--     after_number, after_signed                          what stands behind a field that was read
--     number_below                                        a number is within its bytes
--     number_spelled, complement_read                     a number is found again in its bytes, a signed one in its two's complement
--     bytes_read, number_read, letters_read, signed_read  a field that is written in front of a rest is read, and the rest is left
-- Assumes nothing.
use mathlib.Core.Path.{◌≡◌, refl, ap, ◌∙◌}
use mathlib.Core.List.{List, [], ◌∷◌, ◌++◌}
use Prim.Native.Nat.{ℕ, zero, suc, ◌+◌, ◌-◌, ◌/◌, ◌^◌, ◌≤◌, ◌<◌}
use native.Mathlib.Nat.{pow-suc}
use native.Mathlib.Omega.{arith}
use native.Mathlib.Decide.{dec_lt}
use lib.ListN.{length, take, drop, get_or, length-drop, length-append}
use lib.Seq.{take-append_seam, drop-append_seam, drop-drop}
use lib.IntN.{ℤ, pos, negsuc}
use lib.Signed.{mag}
use borrow.Author.Tests.{le-leb, lt-leb}
use Rattle.std.specs.Prelude.{Some}
use Rattle.fields.specs.Answers.{whole_of}
use Rattle.fields.specs.Field.{Read, Whole, Cut, next, bytes_field, number, number_field, twos_complement, signed_field, letters_field, spelled, complement}

-- ---- at a place of a card. No bytes are whole anywhere, behind the card's end too.

module _ (k : ℕ) (card : List ℕ) (at : ℕ) where
  pub bytes_whole : at + k ≤ length card → bytes_field k (drop at card) ≡ Whole (take k (drop at card)) (drop (at + k) card)
  bytes_whole h = simp (le-leb k (length (drop at card)) (omega (arith, length-drop at card)), drop-drop)

  pub bytes_cut : length card - at < k → bytes_field k (drop at card) ≡ Cut
  bytes_cut h = simp (lt-leb k (length (drop at card)) (omega (arith, length-drop at card)))

  pub number_whole : at + k ≤ length card → number_field k (drop at card) ≡ Whole (number (take k (drop at card))) (drop (at + k) card)
  number_whole h = simp (bytes_whole h)

  pub number_cut : length card - at < k → number_field k (drop at card) ≡ Cut
  number_cut h = simp (bytes_cut h)

pub signed_whole : (card : List ℕ) (at : ℕ) → at + 8 ≤ length card → signed_field (drop at card) ≡ Whole (twos_complement (number (take 8 (drop at card)))) (drop (at + 8) card)
signed_whole card at h = rw (number_whole 8 card at h)

pub signed_cut : (card : List ℕ) (at : ℕ) → length card - at < 8 → signed_field (drop at card) ≡ Cut
signed_cut card at h = rw (number_cut 8 card at h)

-- what an answer says of the field
pub field_whole : (field : Read ℕ) {n : ℕ} → Some n ≡ whole_of field → (rest : List ℕ) × (field ≡ Whole n rest)
field_whole (Whole m rest) {n} e = (rest, cc)
field_whole Cut e = absurd (cc)

-- A field of some bytes, one at least, that is whole where they are left, and cut off where they are not: behind it stands what stands behind them.
behind : {A : Type 0} (k : ℕ) (card : List ℕ) (at : ℕ) {field : Read A} {a b : A} {rest : List ℕ} → zero < k
    → (at + k ≤ length card → field ≡ Whole a (drop (at + k) card)) → (length card - at < k → field ≡ Cut)
    → field ≡ Whole b rest → (rest ≡ drop (at + k) card) × (at + k ≤ length card)
behind k card at {field} {a} {b} {rest} h whole cut e = elim (dec_lt (length card - at) k) [
  | yes short ↦ let f : field ≡ Cut = cut short in absurd (cc)
  | no long ↦
      let fits : at + k ≤ length card = omega arith in
      let f : field ≡ Whole a (drop (at + k) card) = whole fits in
      (cc, fits)
]

pub after_number : (k : ℕ) (card : List ℕ) (at : ℕ) {n : ℕ} {rest : List ℕ} → zero < k → number_field k (drop at card) ≡ Whole n rest
    → (rest ≡ drop (at + k) card) × (at + k ≤ length card)
after_number k card at h e = behind k card at h (number_whole k card at) (number_cut k card at) e

pub after_signed : (card : List ℕ) (at : ℕ) {z : ℤ} {rest : List ℕ} → signed_field (drop at card) ≡ Whole z rest
    → (rest ≡ drop (at + 8) card) × (at + 8 ≤ length card)
after_signed card at e = behind 8 card at (omega arith) (signed_whole card at) (signed_cut card at) e

-- ---- how large a number is

pub number_below : (bs : List ℕ) → ((j : ℕ) → get_or bs j 0 < 256) → number bs < 256 ^ length bs
number_below [] h = omega arith
number_below (b ∷ bs) h = omega (arith, h 0, number_below bs (λ j. h (suc j)), pow-suc 256 (length bs))

-- ---- what is spelled is read again

pub length_spelled : (k n : ℕ) → length (spelled k n) ≡ k
length_spelled zero n = refl
length_spelled (suc k) n = ap suc (length_spelled k (n / 256))

pub number_spelled : (k n : ℕ) → n < 256 ^ k → number (spelled k n) ≡ n
number_spelled zero n h = omega arith
number_spelled (suc k) n h = omega (arith, number_spelled k (n / 256) (omega arith))

pub bytes_read : (bs rest : List ℕ) → bytes_field (length bs) (bs ++ rest) ≡ Whole bs rest
bytes_read bs rest = simp (le-leb (length bs) (length (bs ++ rest)) (omega (arith, length-append bs rest)), take-append_seam, drop-append_seam)

pub number_read : (k n : ℕ) (rest : List ℕ) → n < 256 ^ k → number_field k (spelled k n ++ rest) ≡ Whole n rest
number_read k n rest h = rw (rw length_spelled at (bytes_read (spelled k n) rest), number_spelled k n h)

pub letters_read : (bs rest : List ℕ) → length bs < 65536 → letters_field (spelled 2 (length bs) ++ (bs ++ rest)) ≡ Whole bs rest
letters_read bs rest h = ap (λ (r : Read ℕ). next r bytes_field) (number_read 2 (length bs) (bs ++ rest) h) ∙ bytes_read bs rest

-- The numbers from -2 ^ 63 to 2 ^ 63 - 1: `mag` is n of n and of -1 - n.
complement_fits : (z : ℤ) → mag z ≤ 9223372036854775807 → complement z < 256 ^ 8
complement_fits (pos n) h = omega arith
complement_fits (negsuc n) h = omega arith

pub complement_read : (z : ℤ) → mag z ≤ 9223372036854775807 → twos_complement (complement z) ≡ z
complement_read (pos n) h = rw (le-leb n 9223372036854775807 h)
complement_read (negsuc n) h =
    rw (lt-leb (18446744073709551615 - n) 9223372036854775807 (omega arith)) (ap negsuc (omega arith))

pub signed_read : (z : ℤ) (rest : List ℕ) → mag z ≤ 9223372036854775807 → signed_field (spelled 8 (complement z) ++ rest) ≡ Whole z rest
signed_read z rest h =
    ap (λ (r : Read ℕ). next r (λ (u : ℕ) (rest : List ℕ). Whole (twos_complement u) rest)) (number_read 8 (complement z) rest (complement_fits z h))
    ∙ ap (λ (y : ℤ). Whole y rest) (complement_read z h)
