-- What a caller learns from the answer when a list is reduced into just the room that questions 7 and 11 ask for. Assumes nothing.
use Rattle.std.specs.Prelude.{Result, Ok, Err}
use Rattle.refusals.specs.Questions.{Asked, passed}
use mathlib.Core.Path.{◌≡◌, sym, ◌∙◌}
use mathlib.Core.List.{List, []}
use Prim.Native.Nat.{ℕ, ◌≤◌}
use native.Mathlib.Omega.{arith}
use lib.ListN.{length, take}
use Rattle.limits.specs.Limits.{most_generators, most_of_list}
use Rattle.words.specs.Word.{Word}
use Rattle.words.specs.declared.Letters.{Letters}
use Rattle.refusals.specs.declared.Refusal.{Refusal}
use Rattle.words.proofs.Answering.{refused_of_answer, passed_of_answer}
use Rattle.products.specs.Product.{generators}
use Rattle.products.proofs.Generators.{generators_length}
use Rattle.lists.specs.Questions.{question11}
use Rattle.lists.specs.NormalList.{total, normal_bytes, normal_ends}
use Rattle.lists.specs.Reducing.{Checked, ReducedFrom}
use Rattle.lists.specs.Calls.{of_reduced_list, ReducesList}
use Rattle.lists.proofs.Answering.{of_list_alone, by_generators, alone_checked, alone_short, asked_alone, written_front}
use Rattle.lists.proofs.Passing.{list_passed}
use Rattle.lists.proofs.NormalList.{normal_bytes_length, normal_ends_length}
use Rattle.lists.proofs.ShortForms.{total_short}

-- ---- any list

module _ (bytes ends before before_ends after after_ends : List ℕ) (r : Result Letters Refusal) (h : ReducesList bytes ends before before_ends r after after_ends)
    (room : length before ≡ most_of_list) (room_ends : length before_ends ≡ most_generators) where
  abbrev gens : List Word
  gens = generators bytes ends

  abbrev asked : Asked
  asked = of_reduced_list gens bytes ends (length before) (length before_ends)

  few : of_list_alone bytes ends ≡ passed → length gens ≤ most_generators
  few e = omega (arith, (list_passed bytes ends [] (alone_checked bytes ends e)).few, generators_length bytes 0 ends)

  -- there is room for every list that passes
  questions : asked ≡ of_list_alone bytes ends
  questions = asked_alone gens bytes ends before before_ends (λ e. (omega (arith, total_short gens (alone_short bytes ends e)), omega (arith, few e)))

  pub list_refused : {refusal : Refusal} → r ≡ Err refusal → of_list_alone bytes ends ≡ Err refusal
  list_refused e = sym questions ∙ refused_of_answer asked (total gens) (sym h.answer ∙ e)

  module _ {l : Letters} (e : r ≡ Ok l) where
    told : (asked ≡ passed) × (l.0 ≡ total gens)
    told = passed_of_answer asked (total gens) (sym h.answer ∙ e)

    pub list_passes : of_list_alone bytes ends ≡ passed
    list_passes = sym questions ∙ told.0

    pub list_total : l.0 ≡ total gens
    list_total = told.1

    pub list_reduced : ReducedFrom gens (take l.0 after) (take (length ends) after_ends)
    list_reduced =
        record {
          letters_are = written_front (normal_bytes gens) before told.0 h.slice l.0 (list_total ∙ sym (normal_bytes_length gens));
          ends_are = written_front (normal_ends 0 gens) before_ends told.0 h.ends_slice (length ends) (sym (normal_ends_length 0 gens ∙ generators_length bytes 0 ends));
          few = few list_passes;
          short = alone_short bytes ends list_passes;
        }

-- ---- a list that has passed questions 7 to 10: the only question left is whether a generator is too long

module _ (bytes ends before before_ends after after_ends : List ℕ) (r : Result Letters Refusal) (h : ReducesList bytes ends before before_ends r after after_ends)
    (checked : Checked bytes ends) (room : length before ≡ most_of_list) (room_ends : length before_ends ≡ most_generators) where
  pub list_too_long : {refusal : Refusal} → r ≡ Err refusal → question11 (generators bytes ends) ≡ Err refusal
  list_too_long e = sym (by_generators bytes ends checked) ∙ list_refused bytes ends before before_ends after after_ends r h room room_ends e

  module _ {l : Letters} (e : r ≡ Ok l) where
    reduced : ReducedFrom (generators bytes ends) (take l.0 after) (take (length ends) after_ends)
    reduced = list_reduced bytes ends before before_ends after after_ends r h room room_ends e

    pub list_short : question11 (generators bytes ends) ≡ passed
    list_short = reduced.short

    pub list_length : l.0 ≡ total (generators bytes ends)
    list_length = list_total bytes ends before before_ends after after_ends r h room room_ends e

    pub list_bytes : take l.0 after ≡ normal_bytes (generators bytes ends)
    list_bytes = reduced.letters_are

    pub list_ends : take (length ends) after_ends ≡ normal_ends 0 (generators bytes ends)
    list_ends = reduced.ends_are
