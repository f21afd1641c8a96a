-- Where letters with their length in front start and end in a card, from what was answered of their length.
--     length_fits   the length is whole: its two bytes are in the card
--     span_whole    the letters are whole, where so many bytes are left behind their length
-- Assumes nothing.
use mathlib.Core.Path.{◌≡◌, refl, sym, ap, subst, ◌∙◌}
use mathlib.Core.List.{List}
use Prim.Native.Nat.{ℕ, ◌+◌, ◌≤◌}
use native.Mathlib.Omega.{arith}
use lib.ListN.{length, take, drop}
use lib.Seq.{slice, take-add, drop_at, length-take-le}
use Rattle.std.specs.Prelude.{Some}
use Rattle.fields.specs.Field.{Read, Whole, next, bytes_field, number_field, letters_field}
use Rattle.fields.specs.Answers.{whole_of, SpanOf}
use Rattle.fields.proofs.Reading.{bytes_whole, field_whole, after_number}

-- so many bytes from a place on, as a part of the card
pub part_there : (k : ℕ) (card : List ℕ) (at : ℕ) → at ≤ length card → slice at (at + k) card ≡ take k (drop at card)
part_there k card at h = rw take-add (drop_at (take at card) (take k (drop at card)) at (length-take-le at card h))

module _ (card : List ℕ) (at : ℕ) where
  abbrev letters : Read (List ℕ)
  letters = letters_field (drop at card)

  module _ {len : ℕ} (e : Some len ≡ whole_of (number_field 2 (drop at card))) where
    behind : (rest : List ℕ) × (number_field 2 (drop at card) ≡ Whole len rest)
    behind = field_whole (number_field 2 (drop at card)) e

    pub length_fits : at + 2 ≤ length card
    length_fits = (after_number 2 card at (omega arith) behind.1).1

    are_bytes : letters ≡ bytes_field len (drop (at + 2) card)
    are_bytes = ap (λ (f : Read ℕ). next f bytes_field) behind.1 ∙ ap (bytes_field len) (after_number 2 card at (omega arith) behind.1).0

    pub span_whole : at + 2 + len ≤ length card → SpanOf card letters (Some (record { start = at + 2; end = at + 2 + len }))
    span_whole h =
        subst (λ (f : Read (List ℕ)). SpanOf card f (Some (record { start = at + 2; end = at + 2 + len }))) (sym (are_bytes ∙ bytes_whole len card (at + 2) h))
        (at + 2, at + 2 + len, refl, omega arith, h, part_there len card (at + 2) length_fits, refl)
