-- What it says that the sizes have passed questions 12 to 15. Assumes nothing.
use mathlib.Core.Path.{◌≡◌, sym, ◌∙◌}
use mathlib.Core.List.{List, [], ◌∷◌}
use Prim.Native.Nat.{ℕ, ◌*◌, ◌≤◌}
use lib.Dec.{leb}
use borrow.Author.Tests.{leb-true}
use Rattle.limits.specs.Limits.{most_of_form, most_factors}
use Rattle.refusals.specs.Questions.{Asked, passed, asks, question12, question14}
use Rattle.refusals.specs.declared.Refusal.{Refusal}
use Rattle.refusals.specs.declared.Refusal.TheVariants.{NormalFormTooLong, BoundTooLarge, OutputTooShort, TableTooShort}
use Rattle.refusals.proofs.Asking.{asks_passed, first_no_one, first_no_head, first_no_tail}
use Rattle.sizes.specs.Questions.{side, question13, question15, of_bound, of_tables, of_sizes}

pub record SizesPassed (m t n first second witness : ℕ) : Type 0 where
  pub short : t ≤ most_of_form
  pub bound : n ≤ most_factors
  pub room : n ≤ witness
  pub first_room : side m t * side m t ≤ first
  pub second_room : side m t * side m t ≤ second

pub sizes_passed : (m t n first second witness : ℕ) → of_sizes m t n first second witness ≡ passed → SizesPassed m t n first second witness
sizes_passed m t n first second witness e =
    let square : ℕ = side m t * side m t in
    let rest : List Asked = of_tables (side m t) first second ∷ [] in
    let lent = first_no_tail (question12 t) (of_bound n witness ∷ rest) e in
    let bound : of_bound n witness ≡ passed = first_no_head (of_bound n witness) rest lent in
    let tables : of_tables (side m t) first second ≡ passed = sym (first_no_one (of_tables (side m t) first second)) ∙ first_no_tail (of_bound n witness) rest lent in
    record {
      short = yes t most_of_form NormalFormTooLong (first_no_head (question12 t) (of_bound n witness ∷ rest) e);
      bound = yes n most_factors BoundTooLarge (first_no_head (question13 n) (question14 n witness ∷ []) bound);
      room = yes n witness OutputTooShort (sym (first_no_one (question14 n witness)) ∙ first_no_tail (question13 n) (question14 n witness ∷ []) bound);
      first_room = yes square first TableTooShort (first_no_head (question15 (side m t) first) (question15 (side m t) second ∷ []) tables);
      second_room = yes square second TableTooShort
          (sym (first_no_one (question15 (side m t) second)) ∙ first_no_tail (question15 (side m t) first) (question15 (side m t) second ∷ []) tables);
    }
  where
    yes : (a b : ℕ) (refusal : Refusal) → asks (leb a b) refusal ≡ passed → a ≤ b
    yes a b refusal e = leb-true a b (asks_passed (leb a b) refusal e)
