-- What reducing a list with its inverses leaves in the slices: the list twice, and the inverses' forms behind the given ones. Assumes nothing.
use mathlib.Core.Path.{◌≡◌, refl, sym, ap, subst₂, ◌∙◌}
use mathlib.Core.List.{List, [], ◌∷◌}
use Prim.Native.Nat.{ℕ, ◌-◌, ◌*◌, ◌≤◌}
use native.Mathlib.Omega.{arith}
use lib.ListN.{length, take, drop, length-drop}
use lib.Seq.{length-take-le, take_all, drop_at}
use Rattle.std.specs.Prelude.{Result, Err, Ok}
use Rattle.limits.specs.Limits.{most_generators, most_signed_generators, most_of_signed_list}
use Rattle.words.specs.Word.{Word}
use Rattle.lists.specs.declared.Lengths.{Lengths}
use Rattle.refusals.specs.declared.Refusal.{Refusal}
use Rattle.refusals.specs.Questions.{Asked, passed, question14}
use Rattle.refusals.proofs.Asking.{refused_first}
use Rattle.products.specs.Product.{generators, inverses, with_inverses}
use Rattle.products.proofs.Doubled.{doubled_length}
use Rattle.products.proofs.Generators.{generators_length}
use Rattle.lists.specs.Questions.{of_list, question11}
use Rattle.lists.specs.NormalList.{total, normal_bytes, normal_ends}
use Rattle.lists.specs.Reducing.{Checked}
use Rattle.lists.specs.Calls.{lengths_or, ReducesSigned}
use Rattle.lists.proofs.NormalList.{normal_bytes_length, normal_bytes_append, total_append}
use Rattle.lists.proofs.ShortForms.{inverses_short, signed_short, total_short}
use Rattle.lists.proofs.SignedList.{signed_passes, signed_given, signed_all, signed_bytes, signed_ends}
use Rattle.queries.specs.Posing.{ReducedList}
use Rattle.queries.proofs.ReducedList.{forms_reduced}
use Rattle.subgroups.specs.Judging.{Doubled}
use Rattle.subgroups.specs.Ends.{DoubledEnds}

-- the questions behind those of the slices
abbrev behind : List ℕ → List ℕ → List ℕ → List ℕ → List Asked
behind bytes ends before before_ends =
    let words = with_inverses (generators bytes ends) in
    question11 (generators bytes ends) ∷ question14 (total words) (length before) ∷ question14 (length words) (length before_ends) ∷ []

-- a list that is reduced has passed questions 7 to 10
pub list_checked : (bytes ends : List ℕ) {before before_ends after after_ends : List ℕ} {r : Result Lengths Refusal} {lengths : Lengths}
    → ReducesSigned bytes ends before before_ends r after after_ends → r ≡ Ok lengths → Checked bytes ends
list_checked bytes ends {before} {before_ends} {after} {after_ends} {r} {lengths} h e = by (of_list bytes ends []) refl
  where
    by : (asked : Asked) → of_list bytes ends [] ≡ asked → Checked bytes ends
    by (Ok _) passed = passed
    by (Err refusal) refused =
        let told : r ≡ Err refusal = h.answer ∙ ap (λ (a : Asked). lengths_or a (total (generators bytes ends)) (total (with_inverses (generators bytes ends))))
        (refused_first (of_list bytes ends []) (behind bytes ends before before_ends) refused) in
        let z : ◌≡◌ {A = ℕ} 0 1 = cc in
        absurd (omega arith)

module _ (bytes ends before before_ends after after_ends : List ℕ) (r : Result Lengths Refusal) (h : ReducesSigned bytes ends before before_ends r after after_ends)
    (checked : Checked bytes ends) (few : length ends ≤ most_generators)
    (room : most_of_signed_list ≤ length before) (room_ends : most_signed_generators ≤ length before_ends)
    (kept : length after ≡ length before) (kept_ends : length after_ends ≡ length before_ends)
    {lengths : Lengths} (e : r ≡ Ok lengths) where
  abbrev gens : List Word
  gens = generators bytes ends

  -- the sizes
  number : length gens ≡ length ends
  number = generators_length bytes 0 ends

  doubled : 2 * length ends ≡ length (with_inverses gens)
  doubled = omega (arith, number, doubled_length gens)

  pub passes : question11 gens ≡ passed
  passes = signed_passes bytes ends before before_ends after after_ends r h checked room room_ends e

  short : total (with_inverses gens) ≤ most_of_signed_list
  short = signed_short gens (omega (arith, number)) passes

  given_is : lengths.given.0 ≡ total gens
  given_is = signed_given bytes ends before before_ends after after_ends r h checked room room_ends e

  all_is : lengths.all.0 ≡ total (with_inverses gens)
  all_is = signed_all bytes ends before before_ends after after_ends r h checked room room_ends e

  -- the places inside the slices
  pub all_inside : lengths.all.0 ≤ length after
  all_inside = omega (arith, all_is, short)

  pub ends_inside : 2 * length ends ≤ length after_ends
  ends_inside = omega arith

  -- what stands there
  letters_there : take lengths.all.0 after ≡ normal_bytes (with_inverses gens)
  letters_there = signed_bytes bytes ends before before_ends after after_ends r h checked room room_ends e

  ends_there : take (2 * length ends) after_ends ≡ normal_ends 0 (with_inverses gens)
  ends_there = ap (λ (k : ℕ). take k after_ends) doubled ∙ signed_ends bytes ends before before_ends after after_ends r h checked room room_ends e

  abbrev letters : List ℕ
  letters = take lengths.all.0 after

  pub given_inside : lengths.given.0 ≤ length letters
  given_inside = omega (arith, given_is, all_is, total_append gens (inverses gens), length-take-le lengths.all.0 after all_inside)

  forms_there : take (length letters - lengths.given.0) (drop lengths.given.0 letters) ≡ normal_bytes (inverses gens)
  forms_there =
      take_all (length letters - lengths.given.0) (drop lengths.given.0 letters) (omega (arith, length-drop lengths.given.0 letters))
      ∙ ap (drop lengths.given.0) (letters_there ∙ normal_bytes_append gens (inverses gens))
      ∙ drop_at (normal_bytes gens) (normal_bytes (inverses gens)) lengths.given.0 (normal_bytes_length gens ∙ sym given_is)

  pub list_doubled : Doubled gens letters (take (2 * length ends) after_ends) lengths.given.0 (length ends)
  list_doubled =
      record {
        letters_are = letters_there;
        ends_are = ends_there;
        inverse_forms = record {
          written = forms_there;
          counts = sym number;
          few = omega (arith, number);
          short = omega (arith, ap length forms_there, normal_bytes_length (inverses gens), inverses_short gens, total_short gens passes, number);
        };
      }

  pub list_reduced : ReducedList (take lengths.all.0 after) (take (2 * length ends) after_ends)
  list_reduced = subst₂ ReducedList (sym letters_there) (sym ends_there) (forms_reduced (with_inverses gens) (omega (arith, doubled)) short)

  pub ends_doubled : DoubledEnds gens after_ends (length ends) lengths.given.0
  ends_doubled =
      record { ends_are = signed_ends bytes ends before before_ends after after_ends r h checked room room_ends e; counts = sym number; letters = given_is }
