-- The verdict without a bound.
--     member_yes, no_none, yes_not_none     beside the bounded verdict: a member is a yes, a no is none for every n, and a yes is not none for some n
--     yes_not_no                            not both are right
--     verdict_yes, verdict_no               what the last row's entry at nothing says of the target, where series weigh nothing
-- Assumes, where rows decide a no, that the generators and the target are reduced.
use mathlib.Core.Path.{◌≡◌, refl}
use mathlib.Core.List.{List, [], ◌++◌, append-nil}
use Prim.Native.Nat.{ℕ, ◌+◌, ◌≤◌, ◌<◌}
use native.Mathlib.Nat.{le_refl}
use native.Mathlib.Omega.{arith}
use lib.ListN.{length, take}
use lib.Seq.{take-length}
use Rattle.words.specs.Word.{Word}
use Rattle.words.proofs.Reduced.{Reduced}
use Rattle.products.specs.Product.{Family, measure, NoneRight, MemberRight, YesRight, NoRight, plain}
use Rattle.products.specs.State.{weightless}
use Rattle.products.proofs.States.{nothing}
use Rattle.products.proofs.OneStep.{AllReduced}
use Rattle.products.proofs.Rows.{RowsClosed, RowsAttained}
use Rattle.products.proofs.RowClasses.{reads_series, reads_some, reads_made, row_reached, rows_least}
use Rattle.products.proofs.Exact.{ExactBy}
use Rattle.products.proofs.Rivals.{counted_some, some_counted, rival_of}

module _ (family : Family) (target : Word) where
  pub member_yes : (n : ℕ) (factors : List ℕ) (count : ℕ) → MemberRight family target n factors count → YesRight family target
  member_yes n factors count right = (factors, right.rival.series, right.rival.counted, right.reaches)

  pub no_none : NoRight family target → (n : ℕ) → NoneRight family target n
  no_none right n r k e = right r k.series k.counted e

  -- the measure of a series that reaches the target is such a bound
  pub yes_not_none : YesRight family target → (n : ℕ) × (NoneRight family target n → ⊥)
  yes_not_none (r, s, c, e) = (measure r, λ none. none r (rival_of s c (le_refl (measure r))) e)

  pub yes_not_no : YesRight family target → NoRight family target → ⊥
  yes_not_no (r, s, c, e) right = right r s c e

pub weightless_append : (a b : List ℕ) → weightless (a ++ b) ≡ weightless a + weightless b
weightless_append a b = refl

module _ (gens : List Word) (n : ℕ) (T : Word → Word → ℕ) (x : Word) (Row : ℕ → Word → ℕ) (exact : ExactBy gens weightless n T) where
  pub verdict_yes : RowsAttained gens n T x Row → Row (length x) [] ≤ n → YesRight (plain gens) x
  verdict_yes rows h =
      let (r, reads, weighs) = row_reached gens weightless weightless_append n T x Row exact rows (length x) (le_refl (length x)) [] nothing h in (
        r,
        reads_series gens x reads,
        some_counted (reads_some gens x reads),
        rw (append-nil (take (length x) x), take-length x) at (reads_made gens x reads),
      )

  -- every series weighs nothing, and the entry is no more than that of one that reaches x
  pub verdict_no : AllReduced gens → RowsClosed gens n T x Row → Reduced x → 0 < Row (length x) [] → NoRight (plain gens) x
  verdict_no all rows reduced h r s c e =
      let least = rows_least gens weightless weightless_append n T x Row exact all rows reduced r (counted_some c) s e (omega arith) in
      absurd (omega arith)
