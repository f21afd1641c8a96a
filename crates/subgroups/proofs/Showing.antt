-- Which part a number shows, by the questions and the tests on the way; that it lies inside its slice, and what it spells. Assumes nothing.
use mathlib.Core.Bool.{Bool}
use mathlib.Core.Path.{◌≡◌, refl, sym, ap, subst, ◌∙◌}
use mathlib.Core.List.{List, [], ◌∷◌}
use Prim.Native.Nat.{ℕ, ◌+◌, ◌-◌, ◌≤◌, ◌<◌}
use native.Mathlib.Decide.{dec_lt}
use native.Mathlib.Omega.{arith}
use denote.Ref.{Bor}
use lib.Dec.{leb, ltb}
use lib.ListN.{length}
use borrow.Author.Tests.{lt-ltb, le-ltb, leb-true}
use Rattle.std.specs.Prelude.{Result, Err, Ok}
use Rattle.lists.specs.declared.Lengths.{Lengths}
use Rattle.limits.specs.Limits.{most_signed_generators, most_of_signed_list, inverses_slice}
use Rattle.words.specs.Word.{Word}
use Rattle.words.specs.Bytes.{word}
use Rattle.refusals.specs.Telling.{pick}
use Rattle.refusals.specs.Questions.{Asked, passed, first_no, question14}
use Rattle.refusals.specs.declared.Refusal.{Refusal}
use Rattle.refusals.specs.declared.Refusal.TheVariants.{OutputTooShort}
use Rattle.refusals.proofs.Asking.{asks_passed, passed_first, refused_first, first_no_one, first_no_head, first_no_tail}
use Rattle.products.specs.Product.{generators, inverse_mark, inverses}
use Rattle.products.proofs.Generators.{generators_length}
use Rattle.lists.specs.Questions.{of_list, question11}
use Rattle.lists.specs.NormalList.{total}
use Rattle.lists.specs.Reducing.{Checked}
use Rattle.lists.specs.Calls.{ReducesSigned}
use Rattle.lists.proofs.Passing.{ListPassed, list_passed}
use Rattle.lists.proofs.Rising.{rising_of}
use Rattle.lists.proofs.ShortForms.{inverses_short, total_short}
use Rattle.lists.proofs.SignedList.{signed_too_long}
use Rattle.subgroups.specs.Questions.{of_factor}
use Rattle.subgroups.specs.Parts.{nothing, given_part, inverse_part, factor_part, part_by, part_of, IsPart, PartShown, Shows}
use Rattle.subgroups.specs.declared.Part.{Part}
use Rattle.subgroups.proofs.FactorParts.{given_rises, given_within, given_spells, inverse_rises, inverse_within, inverse_spells}

-- ---- the part that a number names

module _ (gens : List Word) (ends : List ℕ) (number : ℕ) where
  pub factor_given : number < inverse_mark → factor_part gens ends number ≡ pick (ltb number (length ends)) (given_part ends number) nothing
  factor_given h = simp (lt-ltb number inverse_mark h)

  pub factor_inverse : inverse_mark ≤ number
      → factor_part gens ends number ≡ pick (ltb (number - inverse_mark) (length ends)) (inverse_part gens (number - inverse_mark)) nothing
  factor_inverse h = simp (le-ltb number inverse_mark h)

module _ (bytes ends : List ℕ) (room number : ℕ) where
  abbrev gens : List Word
  gens = generators bytes ends

  abbrev behind : List Asked
  behind = question11 gens ∷ question14 inverses_slice room ∷ []

  -- a question that is answered no shows nothing
  pub nothing_shown : {refusal : Refusal} → of_factor bytes ends room ≡ Err refusal → part_of bytes ends room number ≡ nothing
  nothing_shown e = ap (λ (a : Asked). part_by a bytes ends number) e

  pub factor_shown : of_factor bytes ends room ≡ passed → part_of bytes ends room number ≡ factor_part gens ends number
  factor_shown e = ap (λ (a : Asked). part_by a bytes ends number) e

  -- the questions, one by one
  pub factor_asked : Checked bytes ends → question11 gens ≡ passed → of_factor bytes ends room ≡ question14 inverses_slice room
  factor_asked checked passes =
      passed_first (of_list bytes ends []) behind checked ∙ passed_first (question11 gens) (question14 inverses_slice room ∷ []) passes
      ∙ first_no_one (question14 inverses_slice room)

  -- a list that is not reduced is refused by its own questions
  pub list_refused : {before before_ends after after_ends : List ℕ} {r : Result Lengths Refusal} {refusal : Refusal}
      → ReducesSigned bytes ends before before_ends r after after_ends → most_of_signed_list ≤ length before → most_signed_generators ≤ length before_ends
      → r ≡ Err refusal → part_of bytes ends room number ≡ nothing
  list_refused {before} {before_ends} {after} {after_ends} {r} h enough enough_ends e = by (of_list bytes ends []) refl
    where
      by : (asked : Asked) → of_list bytes ends [] ≡ asked → part_of bytes ends room number ≡ nothing
      by (Ok _) checked =
          nothing_shown
          (passed_first (of_list bytes ends []) behind checked
          ∙ refused_first (question11 gens) (question14 inverses_slice room ∷ [])
          (signed_too_long bytes ends before before_ends after after_ends r h checked enough enough_ends e))
      by (Err other) refused = nothing_shown (refused_first (of_list bytes ends []) behind refused)

  -- ---- what it says that they have passed

  module _ (all_passed : of_factor bytes ends room ≡ passed) where
    list_right : ListPassed bytes ends []
    list_right = list_passed bytes ends [] (first_no_head (of_list bytes ends []) behind all_passed)

    after_list : first_no behind ≡ passed
    after_list = first_no_tail (of_list bytes ends []) behind all_passed

    none_long : question11 gens ≡ passed
    none_long = first_no_head (question11 gens) (question14 inverses_slice room ∷ []) after_list

    -- the inverses' forms have room
    slice_room : total (inverses gens) ≤ room
    slice_room =
        let asked = first_no_tail (question11 gens) (question14 inverses_slice room ∷ []) after_list in
        let enough = leb-true inverses_slice room
        (asks_passed (leb inverses_slice room) OutputTooShort (sym (first_no_one (question14 inverses_slice room)) ∙ asked)) in
        omega (arith, enough, inverses_short gens, total_short gens none_long, list_right.few, generators_length bytes 0 ends)

    pub shown_given : number < inverse_mark → number < length ends → part_of bytes ends room number ≡ given_part ends number
    shown_given h k = factor_shown all_passed ∙ factor_given gens ends number h ∙ simp (lt-ltb number (length ends) k)

    pub shown_inverse : (i : ℕ) → number ≡ inverse_mark + i → i < length ends → part_of bytes ends room number ≡ inverse_part gens i
    shown_inverse i e k =
        let above : inverse_mark ≤ number = omega arith in
        let same : number - inverse_mark ≡ i = omega arith in
        factor_shown all_passed ∙ factor_inverse gens ends number above ∙ rw same (simp (lt-ltb i (length ends) k))

  -- ---- the part lies inside its slice

  abbrev pub Inside : Part → Type 0
  Inside part = (part.start ≤ part.end) × (part.end ≤ pick part.inverse room (length bytes))

  pub end_inside : (part : Part) → Inside part → (inverse? : Bool) → part.inverse ≡ inverse? → part.end ≤ pick inverse? room (length bytes)
  end_inside part (rises, Ends-there) inverse? e = subst (λ (b : Bool). part.end ≤ pick b room (length bytes)) e Ends-there

  pub part_inside : Inside (part_of bytes ends room number)
  part_inside = by (of_factor bytes ends room) refl
    where
      shown_inside : of_factor bytes ends room ≡ passed → Inside (factor_part gens ends number)
      shown_inside passed =
          let right = list_right passed in
          let rising = rising_of 0 ends right.none_falls in
          elim (dec_lt number inverse_mark) [
            | yes h ↦ subst Inside (sym (factor_given gens ends number h)) (elim (dec_lt number (length ends)) [
              | yes k ↦ rw (lt-ltb number (length ends) k) (
                given_rises bytes ends rising right.last number k,
                given_within bytes ends rising right.last number k,
              )
              | no k ↦ rw (le-ltb number (length ends) (omega arith)) (omega arith, omega arith)
            ])
            | no h ↦ subst Inside (sym (factor_inverse gens ends number (omega arith))) (elim (dec_lt (number - inverse_mark) (length ends)) [
              | yes k ↦
                  let i = number - inverse_mark in
                  let here : i < length gens = omega (arith, generators_length bytes 0 ends) in
                  rw (lt-ltb (number - inverse_mark) (length ends) k) (
                    inverse_rises gens i here,
                    omega (arith, inverse_within gens i here, slice_room passed),
                  )
              | no k ↦ rw (le-ltb (number - inverse_mark) (length ends) (omega arith)) (omega arith, omega arith)
            ])
          ]

      by : (asked : Asked) → of_factor bytes ends room ≡ asked → Inside (part_by asked bytes ends number)
      by (Ok _) passed = shown_inside passed
      by (Err refusal) refused = (omega arith, omega arith)

-- ---- what the part spells

shows : (given slice r : Bor (List ℕ)) (ends : List ℕ) (number : ℕ)
    → PartShown r given slice (part_of given.now ends (length slice.now) number) → Shows given ends slice number r
shows given slice r ends number shown =
    record {
      part = shown;
      spells_given = λ passed h k.
          let inside : number < length ends = omega (arith, generators_length given.now 0 ends) in
          let right = list_right given.now ends room number passed in
          let is : PartShown r given slice (given_part ends number) =
          subst (PartShown r given slice) (shown_given given.now ends room number passed k inside) shown in
          ap word is.holds ∙ given_spells given.now ends (rising_of 0 ends right.none_falls) right.last number inside;
      spells_inverse = λ passed i h e held.
          let inside : i < length ends = omega (arith, generators_length given.now 0 ends) in
          let is : PartShown r given slice (inverse_part (generators given.now ends) i) =
          subst (PartShown r given slice) (shown_inverse given.now ends room number passed i e inside) shown in
          ap word is.holds ∙ inverse_spells (generators given.now ends) i h slice.now held;
    }
  where
    room : ℕ
    room = length slice.now

-- the part that a program shows, by what it has found
pub part_shows : (given slice r : Bor (List ℕ)) (ends : List ℕ) (number : ℕ) (part : Part) → part ≡ part_of given.now ends (length slice.now) number
    → (inverse? : Bool) (start end : ℕ) → part.inverse ≡ inverse? → start ≡ part.start → end ≡ part.end → IsPart r (pick inverse? slice given) start end
    → Shows given ends slice number r
part_shows given slice r ends number part found inverse? start end i a e is =
    let shown : PartShown r given slice part = rw (i, ← a, ← e) is in
    shows given slice r ends number (subst (PartShown r given slice) found shown)
