-- The row is a part of the table, which begins at the place of the row's first column: columns and places differ by that much. Assumes nothing.
use mathlib.Core.Path.{◌≡◌, sym, ap, ◌∙◌}
use mathlib.Core.List.{List}
use Prim.Native.Nat.{ℕ, ◌+◌, ◌-◌, ◌≤◌, ◌<◌}
use lib.ListN.{length}
use Rattle.levels.specs.Levels.{entry}
use Rattle.tables.specs.Rules.{place}
use Rattle.tables.specs.Levelling.{Sought}
use Rattle.tables.proofs.Places.{row_inside}
use Rattle.tables.proofs.Parts.{part, part_at, part_length}
use native.Mathlib.Omega.{arith}
use Rattle.tables.proofs.passes.seek.Goals.{After-place_of-row}
use Rattle.tables.proofs.passes.seek.Goals as goal

-- what is sought in a row is sought in the table
module _ (table : List ℕ) (count x row : ℕ) (begins : row ≡ place count x 0) (room : row + count ≤ length table) where
  abbrev entries : List ℕ
  entries = part table row (row + count)

  row-length : length entries ≡ count
  row-length = part_length table row (row + count) room ∙ omega arith

  row-entry : (p : ℕ) → p < count → entry entries p ≡ entry table (place count x p)
  row-entry p inside = part_at table row (row + count) p (omega arith) ∙ ap (entry table) (omega arith)

  row-sought : {k : ℕ} (y r : ℕ) → y < count → Sought k entries y (length entries - 1) r
      → Sought k table (place count x y) (place count x (count - 1)) (place count x r)
  row-sought y r column sought =
      let within : r ≤ count - 1 = omega (arith, sought.inside, row-length) in
      record {
        behind = omega (arith, sought.behind);
        inside = omega arith;
        without = λ p inside behind low high.
            let same : entry entries (p - row) ≡ entry table p = row-entry (p - row) (omega arith) ∙ ap (entry table) (omega arith) in
            sought.without (p - row) (omega arith) (omega arith) (omega arith) (omega arith);
        stops = λ before. sym (row-entry r (omega arith)) ∙ sought.stops (omega (arith, row-length));
      }

-- the row ends within the table
ends : (c : After-place_of-row) → c.place_of-row.result + c.args.count ≤ length c.args.table.now
ends c =
    let p = c.requires in
    omega (arith, c.place_of-row.ensures.0, row_inside p.x_lt_count, p.ready.bounded.long)

pub returns : goal.returns
returns c =
    let a = c.args in
    row-sought a.table.now a.count a.x c.place_of-row.result c.place_of-row.ensures.0 (ends (goal.at.returns c).After-place_of-row) a.y
    c.seek_in.result c.requires.y_lt_count c.seek_in.ensures
