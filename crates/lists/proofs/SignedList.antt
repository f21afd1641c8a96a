-- What a caller learns from the answer when a list that has passed questions 7 to 10 is reduced with the inverses of its generators behind it, into the room
-- that questions 7 and 11 ask for. Assumes nothing.
use Rattle.std.specs.Prelude.{Result, Ok, Err}
use Rattle.refusals.specs.Questions.{Asked, passed}
use mathlib.Core.Path.{◌≡◌, refl, sym, ap, ◌∙◌}
use mathlib.Core.List.{List, []}
use Prim.Native.Nat.{ℕ, ◌≤◌}
use native.Mathlib.Omega.{arith}
use lib.ListN.{length, take}
use Rattle.limits.specs.Limits.{most_signed_generators, most_of_signed_list}
use Rattle.words.specs.Word.{Word}
use Rattle.refusals.specs.declared.Refusal.{Refusal}
use Rattle.products.specs.Product.{generators, with_inverses}
use Rattle.products.proofs.Doubled.{doubled_length}
use Rattle.products.proofs.Generators.{generators_length}
use Rattle.lists.specs.declared.Lengths.{Lengths}
use Rattle.lists.specs.Questions.{question11}
use Rattle.lists.specs.NormalList.{total, normal_bytes, normal_ends}
use Rattle.lists.specs.Reducing.{Checked}
use Rattle.lists.specs.Calls.{of_reduced_list, lengths_or, ReducesSigned}
use Rattle.lists.proofs.Answering.{by_generators, asked_alone, written_front}
use Rattle.lists.proofs.Passing.{list_passed}
use Rattle.lists.proofs.NormalList.{normal_bytes_length, normal_ends_length}
use Rattle.lists.proofs.ShortForms.{signed_short}

refused_of_lengths : (a : Asked) (given all : ℕ) {refusal : Refusal} → lengths_or a given all ≡ Err refusal → a ≡ Err refusal
refused_of_lengths (Ok _) given all e = let z : ◌≡◌ {A = ℕ} 0 1 = cc in absurd (omega arith)
refused_of_lengths (Err other) given all e = cc

passed_of_lengths : (a : Asked) (given all : ℕ) {l : Lengths} → lengths_or a given all ≡ Ok l → (a ≡ passed) × (l.given.0 ≡ given) × (l.all.0 ≡ all)
passed_of_lengths (Ok _) given all {l} e =
    let same : l ≡ record { given = record { 0 = given }; all = record { 0 = all } } = cc in
    (refl, ap (λ (x : Lengths). x.given.0) same, ap (λ (x : Lengths). x.all.0) same)
passed_of_lengths (Err other) given all e = let z : ◌≡◌ {A = ℕ} 0 1 = cc in absurd (omega arith)

module _ (bytes ends before before_ends after after_ends : List ℕ) (r : Result Lengths Refusal) (h : ReducesSigned bytes ends before before_ends r after after_ends)
    (checked : Checked bytes ends) (room : most_of_signed_list ≤ length before) (room_ends : most_signed_generators ≤ length before_ends) where
  abbrev gens : List Word
  gens = generators bytes ends

  abbrev asked : Asked
  asked = of_reduced_list (with_inverses gens) bytes ends (length before) (length before_ends)

  -- the only question left is whether a given generator is too long
  questions : asked ≡ question11 gens
  questions =
      let few = (list_passed bytes ends [] checked).few in
      let count = generators_length bytes 0 ends in
      asked_alone (with_inverses gens) bytes ends before before_ends (λ e. (
        omega (arith, signed_short gens (omega arith) (sym (by_generators bytes ends checked) ∙ e)),
        omega (arith, doubled_length gens),
      ))
      ∙ by_generators bytes ends checked

  pub signed_too_long : {refusal : Refusal} → r ≡ Err refusal → question11 gens ≡ Err refusal
  signed_too_long e = sym questions ∙ refused_of_lengths asked (total gens) (total (with_inverses gens)) (sym h.answer ∙ e)

  module _ {l : Lengths} (e : r ≡ Ok l) where
    told : (asked ≡ passed) × (l.given.0 ≡ total gens) × (l.all.0 ≡ total (with_inverses gens))
    told = passed_of_lengths asked (total gens) (total (with_inverses gens)) (sym h.answer ∙ e)

    pub signed_passes : question11 gens ≡ passed
    signed_passes = sym questions ∙ told.0

    pub signed_given : l.given.0 ≡ total gens
    signed_given = told.1

    pub signed_all : l.all.0 ≡ total (with_inverses gens)
    signed_all = told.2

    pub signed_bytes : take l.all.0 after ≡ normal_bytes (with_inverses gens)
    signed_bytes = written_front (normal_bytes (with_inverses gens)) before told.0 h.slice l.all.0 (signed_all ∙ sym (normal_bytes_length (with_inverses gens)))

    pub signed_ends : take (length (with_inverses gens)) after_ends ≡ normal_ends 0 (with_inverses gens)
    signed_ends = written_front (normal_ends 0 (with_inverses gens)) before_ends told.0 h.ends_slice (length (with_inverses gens)) (sym (normal_ends_length 0 (with_inverses gens)))
