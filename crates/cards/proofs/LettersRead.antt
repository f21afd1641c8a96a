-- Letters with their length in front, and generators behind their number, from what was answered. Assumes nothing.
use mathlib.Core.Path.{◌≡◌, refl, sym, ap, ◌∙◌}
use mathlib.Core.List.{List}
use Prim.Native.Nat.{ℕ, ◌+◌, ◌-◌}
use native.Mathlib.Omega.{arith}
use lib.ListN.{length, take, drop, length-drop}
use lib.Seq.{take_all}
use Rattle.std.specs.Prelude.{Option, None, Some, IsSome}
use Rattle.std.specs.Borrow.{Bor}
use Rattle.std.proofs.lemmas.List.{drop-take}
use Rattle.fields.specs.Field.{Read, Whole, Cut, number_field}
use Rattle.fields.specs.Answers.{whole_of, SpanOf}
use Rattle.fields.proofs.Reading.{field_whole, after_number}
use Rattle.cards.specs.Card.{generator_fields, counted_list}
use Rattle.cards.specs.Reading.{LettersAre}
use Rattle.cards.proofs.GeneratorFields.{generators_length}
use Rattle.fields.specs.declared.Span.{Span}

-- a number of generators, and the generators behind it
pub counted_said : (card : List ℕ) {count : ℕ} {list : List (List ℕ)} {rest : List ℕ} → Some count ≡ whole_of (number_field 1 card)
    → generator_fields count (take (length card - 1) (drop 1 card)) ≡ Whole list rest → (counted_list card ≡ Whole list rest) × (length list ≡ count)
counted_said card {count} {list} {rest} said whole =
    let (behind, number) = field_whole (number_field 1 card) said in
    let stands : behind ≡ drop 1 card = (after_number 1 card 0 (omega arith) number).0 in
    let all : take (length card - 1) (drop 1 card) ≡ drop 1 card = take_all (length card - 1) (drop 1 card) (omega (arith, length-drop 1 card)) in
    (rw (number, stands) (ap (generator_fields count) (sym all) ∙ whole), (generators_length count _ whole).0)

pub letters_said : (card : List ℕ) (field : Read (List ℕ)) (s : Span) → SpanOf card field (Some s)
    → (letters : List ℕ) × (field ≡ Whole letters (take (length card - s.end) (drop s.end card))) × (take (s.end - s.start) (drop s.start card) ≡ letters)
letters_said card (Whole letters rest) s (start, end, e, order, fits, part, behind) =
    let same : s ≡ record { start = start; end = end } = cc in
    let starts : s.start ≡ start = ap (λ (x : Span). x.start) same in
    let ends : s.end ≡ end = ap (λ (x : Span). x.end) same in
    let all : take (length card - s.end) (drop s.end card) ≡ rest =
    take_all (length card - s.end) (drop s.end card) (omega (arith, length-drop s.end card)) ∙ ap (λ (n : ℕ). drop n card) ends ∙ behind in
    let width : start + (end - start) ≡ end = omega arith in
    let here : take (s.end - s.start) (drop s.start card) ≡ letters =
    rw (starts, ends) (sym (drop-take start (end - start) card) ∙ rw width part) in
    (letters, ap (Whole letters) (sym all), here)
letters_said card Cut s e = absurd (cc)

-- whole letters are answered
pub letters_some : (field : Read (List ℕ)) (r : Option (Bor (List ℕ) × Bor (List ℕ))) {letters rest : List ℕ} → LettersAre field r → field ≡ Whole letters rest → IsSome r
letters_some field None e whole = absurd (cc)
letters_some field (Some r) said whole = refl
