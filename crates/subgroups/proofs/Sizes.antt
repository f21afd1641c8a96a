-- What it says that the sizes of a signed verdict have passed questions 12 to 15. Assumes nothing.
use mathlib.Core.Path.{◌≡◌, refl}
use mathlib.Core.List.{[], ◌∷◌}
use Prim.Native.Nat.{ℕ, ◌≤◌}
use lib.Dec.{leb}
use borrow.Author.Tests.{leb-true}
use Rattle.std.specs.Prelude.{Err, Ok}
use Rattle.limits.specs.Limits.{inverses_slice}
use Rattle.refusals.specs.Questions.{Asked, passed, first_no, question12, question14}
use Rattle.refusals.specs.declared.Refusal.TheVariants.{OutputTooShort}
use Rattle.refusals.proofs.Asking.{passed_not_refused, asks_passed}
use Rattle.sizes.specs.Questions.{side, of_bound, of_tables, of_sizes}
use Rattle.subgroups.specs.Questions.{of_signed_sizes}

-- one of four questions besides the others
aside : (a b c d : Asked) → first_no (a ∷ b ∷ c ∷ d ∷ []) ≡ passed → (c ≡ passed) × (first_no (a ∷ b ∷ d ∷ []) ≡ passed)
aside (Ok _) (Ok _) (Ok _) d e = (refl, e)
aside (Ok _) (Ok _) (Err refusal) d e = absurd (passed_not_refused e)
aside (Ok _) (Err refusal) c d e = absurd (passed_not_refused e)
aside (Err refusal) b c d e = absurd (passed_not_refused e)

-- the inverse slice has room, and the sizes pass as for a plain verdict
pub signed_sizes_passed : (m t n first second witness inverses : ℕ) → of_signed_sizes m t n first second witness inverses ≡ passed
    → (inverses_slice ≤ inverses) × (of_sizes m t n first second witness ≡ passed)
signed_sizes_passed m t n first second witness inverses e =
    let (room, sizes) = aside (question12 t) (of_bound n witness) (question14 inverses_slice inverses) (of_tables (side m t) first second) e in
    (leb-true inverses_slice inverses (asks_passed (leb inverses_slice inverses) OutputTooShort room), sizes)
