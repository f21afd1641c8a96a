-- The table and then the rows are filled, and what is known then.
--     rows_used      there is room for the rows where there is for the entries that are used
--     searched       what is answered then is what the search promises
-- Assumes nothing.
use Rattle.std.specs.Prelude.{Result}
use Rattle.trees.specs.declared.Unfit.{Unfit}
use mathlib.Core.Path.{◌∙◌}
use mathlib.Core.List.{List}
use Prim.Native.Nat.{ℕ, zero, suc, ◌*◌, ◌≤◌}
use native.Mathlib.Nat.{mul-le-mul_right}
use native.Mathlib.Omega.{arith}
use lib.ListN.{length}
use Rattle.products.specs.Product.{measure}
use Rattle.trees.proofs.Remaining.{drop_later}
use Rattle.tables.specs.Filling.{Filled as TableFilled}
use Rattle.rows.specs.Rows.{Filled as RowsFilled, Fills as FillsRows}
use Rattle.rows.proofs.FilledFits.{filled_fits, rows_filled}
use Rattle.search.specs.Search.{Lent, used, Fits, Found, Searches}
use Rattle.search.specs.Answering.{Answered}

pub rows_used : (count t : ℕ) → suc t * count ≤ used count t
rows_used zero t = omega arith
rows_used (suc c) t = mul-le-mul_right (suc c) (omega arith)

-- the tables are written, and the witness is not
abbrev tabled : List ℕ → List ℕ → Lent → Lent
tabled table rows lent = record { first = table; second = rows; witness = lent.witness }

module _ {count n : ℕ} {letters rests children_r children_s wholes target : List ℕ} {lent : Lent} where
  module _ (fits : Fits count letters rests children_r children_s wholes target n lent) {table : List ℕ}
      (filled : TableFilled measure count letters rests children_r children_s wholes n lent.first table)
      (r : Result Unit Unfit) {rows : List ℕ} (fills : FillsRows count n children_r children_s target table lent.second r rows) where
    by_rows : RowsFilled count n children_r children_s target table lent.second rows
    by_rows =
        rows_filled r fills
        (filled_fits target lent.second fits.table filled fits.room.few fits.room.short (omega (arith, rows_used count (length target), fits.room.second)))

    pub searched : {found : Found} {after : Lent} → Answered count letters rests children_r children_s wholes target n found (tabled table rows lent) after
        → Searches count letters rests children_r children_s wholes target n found lent after
    searched answered =
        record {
          answers = λ fits gens words posed. answered.answers gens words posed;
          first =
              answered.first
              ∙ drop_later (count * count) (used count (length target)) table lent.first (omega arith) filled.kept;
          second =
              answered.second
              ∙ drop_later (suc (length target) * count) (used count (length target)) rows lent.second
              (rows_used count (length target)) by_rows.kept;
          unfit = λ unfit. absurd (unfit fits);
          unwritten = answered.unwritten;
        }
