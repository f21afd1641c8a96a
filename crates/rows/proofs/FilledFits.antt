-- The rows over a table that was filled.
--     filled_fits    it fits the rows of any target that is not too long
--     rows_filled    where the inputs fit, the rows are filled
-- Assumes nothing.
use Rattle.std.specs.Prelude.{Result, Ok, Err}
use Rattle.trees.specs.declared.Unfit.{Unfit}
use mathlib.Core.Path.{sym}
use mathlib.Core.List.{List}
use Prim.Native.Nat.{ℕ, suc, ◌-◌, ◌*◌, ◌≤◌, ◌<◌}
use native.Mathlib.Omega.{arith}
use lib.ListN.{length}
use lib.Seq.{get_or-take}
use Rattle.limits.specs.Limits.{most_letters, most_states}
use Rattle.trees.specs.Tree.{at}
use Rattle.trees.specs.Bounds.{AllAtMost}
use Rattle.tables.specs.Filling.{Fits as TableFits, Filled as TableFilled}
use Rattle.rows.specs.Rows.{Fits, Filled, Fills}

nodes_last : {count : ℕ} {children : List ℕ} → 1 ≤ count → count ≤ length children → ((p : ℕ) → p < count → at children p < count)
    → AllAtMost (count - 1) children count
nodes_last some room inside = record { room = room; low = λ p h. omega (arith, inside p h) }

pub filled_fits : {weight : List ℕ → ℕ} {count n : ℕ} {letters rests children_r children_s wholes before table : List ℕ} (target rows : List ℕ)
    → TableFits count letters rests children_r children_s wholes n before → TableFilled weight count letters rests children_r children_s wholes n before table
    → count ≤ most_states → length target ≤ most_letters → suc (length target) * count ≤ length rows → Fits count n children_r children_s target table rows
filled_fits {count = count} {n} {table = table} target rows fits filled few short room =
    let shape = fits.shape in
    record {
      room = record {
        some = shape.some;
        few = few;
        short = short;
        bound = fits.bound;
        rows = room;
      };
      by_r = nodes_last shape.some shape.room_r shape.child_r_inside;
      by_s = nodes_last shape.some shape.room_s shape.child_s_inside;
      table_low = record {
        room = omega (arith, filled.long, fits.room);
        low = λ p h. omega (arith, sym (get_or-take (count * count) table p 0 h), filled.full.bounded.high p h);
      };
    }

pub rows_filled : {count n : ℕ} {children_r children_s target table before : List ℕ} (r : Result Unit Unfit) {after : List ℕ}
    → Fills count n children_r children_s target table before r after → Fits count n children_r children_s target table before
    → Filled count n children_r children_s target table before after
rows_filled (Ok _) (fits, filled) fit = filled
rows_filled (Err _) (unfit, kept) fit = absurd (unfit fit)
