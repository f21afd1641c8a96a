-- What a caller learns from the answer when a list is made flat. Assumes nothing.
use mathlib.Core.Path.{◌≡◌, refl, sym, ap, ◌∙◌}
use mathlib.Core.List.{List, [], ◌∷◌, ◌++◌}
use Prim.Native.Nat.{ℕ, ◌≤◌}
use native.Mathlib.Omega.{arith}
use lib.Dec.{leb}
use lib.ListN.{length, take}
use borrow.Author.Tests.{leb-true}
use Rattle.std.specs.Prelude.{Ok, Err}
use Rattle.limits.specs.Limits.{most_generators, most_letters}
use Rattle.refusals.specs.Questions.{Asked, first_no, question8, question10}
use Rattle.words.specs.declared.Letters.{Letters}
use Rattle.refusals.specs.declared.Refusal.{Refusal}
use Rattle.refusals.specs.declared.Refusal.TheVariants.{TooManyGenerators, TooManyLetters}
use Rattle.refusals.proofs.Asking.{asks_passed, first_no_refused, first_no_head, first_no_tail, first_no_one}
use Rattle.words.proofs.Answering.{take_overwritten}
use Rattle.lists.specs.Questions.{question7, question9, of_list}
use Rattle.cards.specs.Card.{list_bytes, list_ends}
use Rattle.cards.specs.Reading.{Listed, SomeListed}
use Rattle.cards.specs.Flattening.{FlatRight, Flattens}
use Rattle.cards.proofs.ListBytes.{list_ends_length}
use Rattle.cards.proofs.GeneratorFields.{listed_count}

-- The list's letters and its ends stand in the fronts of two slices, for which there is room enough where questions 7 and 8 are answered yes.
pub record InFronts (list : List (List ℕ)) (count total : ℕ) (letters ends : List ℕ) : Type 0 where
  pub few : count ≤ most_generators
  pub short : total ≤ most_letters
  pub letters_front : take total letters ≡ list_bytes list
  pub ends_front : take count ends ≡ list_ends 0 list

module _ (list : List (List ℕ)) (before after before_ends after_ends : List ℕ) where
  abbrev asked : Asked
  asked = first_no (question7 (length list) ∷ question8 (length (list_bytes list)) ∷ [])

  -- questions 7 and 8 of the list are the first that are asked, whatever the target's letters
  pub flat_refused : {refusal : Refusal} → Flattens list (Err refusal) before after before_ends after_ends
      → (target : List ℕ) → of_list (list_bytes list) (list_ends 0 list) target ≡ Err refusal
  flat_refused {refusal} flat target =
      ap (λ (count : ℕ). first_no (question7 count ∷ question8 (length (list_bytes list)) ∷ rest)) (list_ends_length 0 list)
      ∙ first_no_refused (question7 (length list) ∷ question8 (length (list_bytes list)) ∷ []) rest (go asked flat)
    where
      rest : List Asked
      rest = question8 (length target) ∷ question9 (list_ends 0 list) (length (list_bytes list)) ∷ question10 (list_bytes list ++ target) ∷ []

      go : (a : Asked) → FlatRight a list (Err refusal) before after before_ends after_ends → a ≡ Err refusal
      go (Ok _) right = let other = right.0 in absurd (cc)
      go (Err other) right = let same = right.0 in cc

  flat_fronts : {count : ℕ} {total : Letters} → length list ≡ count → Flattens list (Ok total) before after before_ends after_ends
      → InFronts list count total.0 after after_ends
  flat_fronts {count} {total} number flat = go asked refl flat
    where
      go : (a : Asked) → asked ≡ a → FlatRight a list (Ok total) before after before_ends after_ends → InFronts list count total.0 after after_ends
      go (Err refusal) e right = let other = right.0 in absurd (cc)
      go (Ok _) e (answer, letters, ends) =
          let same : total ≡ record { 0 = length (list_bytes list) } = cc in
          let all : total.0 ≡ length (list_bytes list) = ap (λ (l : Letters). l.0) same in
          let seventh = first_no_head (question7 (length list)) (question8 (length (list_bytes list)) ∷ []) e in
          let eighth = sym (first_no_one (question8 (length (list_bytes list)))) ∙ first_no_tail (question7 (length list)) (question8 (length (list_bytes list)) ∷ []) e in
          record {
            few = omega (arith, number, leb-true (length list) most_generators (asks_passed (leb (length list) most_generators) TooManyGenerators seventh));
            short = omega (arith, all, leb-true (length (list_bytes list)) most_letters (asks_passed (leb (length (list_bytes list)) most_letters) TooManyLetters eighth));
            letters_front = ap (take total.0) letters ∙ take_overwritten (list_bytes list) before total.0 all;
            ends_front = ap (take count) ends ∙ take_overwritten (list_ends 0 list) before_ends count (sym (list_ends_length 0 list ∙ number));
          }

-- whichever list fills the bytes
module _ (bytes : List ℕ) (count : ℕ) (before after before_ends after_ends : List ℕ) {total : Letters}
    (flat : (list : List (List ℕ)) → Listed bytes count list → Flattens list (Ok total) before after before_ends after_ends) where
  pub listed_fronts : (list : List (List ℕ)) → Listed bytes count list → InFronts list count total.0 after after_ends
  listed_fronts list listed = flat_fronts list before after before_ends after_ends (listed_count bytes count listed) (flat list listed)

  pub fronts_fit : SomeListed bytes count → length after ≡ most_letters → length after_ends ≡ most_generators → (total.0 ≤ length after) × (count ≤ length after_ends)
  fronts_fit (list, listed) room room_ends = let f = listed_fronts list listed in (omega (arith, f.short), omega (arith, f.few))
