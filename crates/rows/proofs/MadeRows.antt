-- The rows of a target are filled one after the other, and each is one round over what is read in the row before. Assumes nothing.
use mathlib.Core.Bool.{Bool, true, false}
use mathlib.Core.Logic.{◌⊎◌, inl, inr}
use mathlib.Core.Path.{◌≡◌, refl, sym, ap, ◌∙◌}
use mathlib.Core.List.{List}
use Prim.Native.Nat.{ℕ, suc, ◌+◌, ◌-◌, ◌*◌, ◌≤◌, ◌<◌, suc-le-suc}
use native.Mathlib.Nat.{le_refl, mul-le-mul_right}
use native.Mathlib.Decide.{ℕ_discrete, dec_lt}
use native.Mathlib.Numerals.{add-one}
use native.Mathlib.Omega.{arith}
use lib.Arith.{digits_lt}
use lib.Dec.{eqb}
use lib.ListN.{length, drop}
use Rattle.refusals.specs.Telling.{pick}
use Rattle.trees.specs.Tree.{at}
use Rattle.trees.specs.Bounds.{AtMost, AllAtMost}
use Rattle.tables.specs.Rules.{place}
use Rattle.rows.specs.Rows.{read_node, read_entry, PathRows, Fits}
use Rattle.rows.specs.Rounds.{Rewritten, least_sum, RowFits, NextRow}
use Rattle.rows.proofs.Rewriting.{same_rest}
use Rattle.rows.proofs.Sums.{sum_same, sum_low, sum_round, sum_attained}
use Rattle.rows.proofs.Parts.{row_inside}
use Rattle.rows.proofs.NextRows.{read_low}

pick_inside : (count : ℕ) (t : Bool) (l m : List ℕ) (p : ℕ) → at l p < count → at m p < count → at (pick t l m) p < count
pick_inside count true l m p h g = h
pick_inside count false l m p h g = g

module _ (count n : ℕ) (children_r children_s target table : List ℕ) where
  -- Row 0 and i rows behind it are made. `begun` has what stood there when row 0 was.
  pub record Filling (begun rows : List ℕ) (i : ℕ) : Type 0 where
    pub long : length rows ≡ length begun
    pub start : (q : ℕ) → q < count → at rows (place count 0 q) ≡ at table (place count 0 q)
    pub made : (j q : ℕ) → j < i → q < count
        → at rows (place count (suc j) q) ≡ least_sum count table (read_entry count n children_r children_s target table rows j) q count
    pub low : AtMost (n + 1) rows (suc i * count)
    pub rest : (p : ℕ) → suc i * count ≤ p → at rows p ≡ at begun p

module _ {count n : ℕ} {children_r children_s target table : List ℕ} where
  -- with a row for each letter these are the target's rows
  pub path_rows : {begun rows : List ℕ} {t : ℕ} → Filling count n children_r children_s target table begun rows t
      → PathRows count n children_r children_s target table rows t
  path_rows {rows = rows} f =
      record {
        start = f.start;
        low = λ i q h k. omega (arith, f.made i q h k, sum_low count table (read i) q count);
        round = λ i v q h g k. omega (arith, f.made i q h k, sum_round count table (read i) q count v g);
        attained = λ i q h k. from i q (f.made i q h k) (sum_attained count table (read i) q count);
      }
    where
      read : ℕ → ℕ → ℕ
      read = read_entry count n children_r children_s target table rows

      from : (i q : ℕ) {x s : ℕ} → x ≡ s → (s ≡ read i q) ⊎ ((v : ℕ) × (v < count) × (s ≡ read i v + at table (place count v q)))
          → (x ≡ read i q) ⊎ ((v : ℕ) × (v < count) × (x ≡ read i v + at table (place count v q)))
      from i q e (inl a) = inl (e ∙ a)
      from i q e (inr (v, h, a)) = inr (v, h, e ∙ a)

-- a number that is at most the last node's is a node's
node_inside : {count n : ℕ} {children_r children_s target table rows children : List ℕ} → Fits count n children_r children_s target table rows
    → AllAtMost (count - 1) children count → (p : ℕ) → p < count → at children p < count
node_inside fits nodes p h = omega (arith, fits.room.some, nodes.low p h)

module _ {count n : ℕ} {children_r children_s target table before : List ℕ} (fits : Fits count n children_r children_s target table before) where
  -- the table's row of the empty word is row 0
  pub filling_begins : {begun : List ℕ} → Rewritten (at table) before begun count → Filling count n children_r children_s target table begun begun 0
  filling_begins r =
      let inside = row_inside 0 count fits.room.some in
      record {
        long = refl;
        start = λ q h. r.new (place count 0 q) (omega arith);
        made = λ j q h k. absurd (omega arith);
        low = λ p h. omega (arith, r.new p (omega arith), fits.table_low.low p (omega arith));
        rest = λ p h. refl;
      }

  pub child_inside : (i v : ℕ) → v < count → read_node count n children_r children_s target table before i v < count
  child_inside i v h = pick_inside count (eqb (at target i) 82) children_r children_s v (node_inside fits fits.by_r v h) (node_inside fits fits.by_s v h)

  filling_next : {begun rows next : List ℕ} {i : ℕ} → Filling count n children_r children_s target table begun rows i
      → NextRow count n (pick (eqb (at target i) 82) children_r children_s) table i rows next
      → Filling count n children_r children_s target table begun next (suc i)
  filling_next {begun} {rows} {next} {i} f m =
      record {
        long = m.long ∙ f.long;
        start = λ q h. same 0 q (omega arith) h ∙ f.start q h;
        made = λ j q h k.
            elim (ℕ_discrete j i) [
              | yes last ↦
                  ap (λ (x : ℕ). at next (place count (suc x) q)) last ∙ m.made q k ∙ sums i q (omega arith) k
                  ∙ ap (λ (x : ℕ). least_sum count table (read next x) q count) (sym last)
              | no earlier ↦ same (suc j) q (omega arith) k ∙ f.made j q (omega arith) k ∙ sums j q (omega arith) k
            ];
        low = λ p h.
            elim (dec_lt p (suc i * count)) [
              | yes g ↦ omega (arith, m.front p g, f.low p g)
              | no g ↦
                  let q = p - suc i * count in
                  let k : q < count = omega arith in
                  let here : p ≡ place count (suc i) q = omega arith in
                  omega (arith, ap (at next) here, m.made q k, sum_low count table (read rows i) q count, read_bounded q k)
            ];
        rest = λ p h. m.rest p h ∙ f.rest p (omega arith);
      }
    where
      read : List ℕ → ℕ → ℕ → ℕ
      read l = read_entry count n children_r children_s target table l

      same : (j q : ℕ) → j ≤ i → q < count → at next (place count j q) ≡ at rows (place count j q)
      same j q h k = m.front (place count j q) (digits_lt {q = j} {m = suc i} {r = q} {c = count} (omega arith) k)

      read_same : (j : ℕ) → j ≤ i → (v : ℕ) → v < count → read rows j v ≡ read next j v
      read_same j h v k =
          let child = read_node count n children_r children_s target table before j v in
          ap (pick (eqb child 0) (n + 1)) (sym (same j child h (child_inside j v k)))

      sums : (j q : ℕ) → j ≤ i → q < count → least_sum count table (read rows j) q count ≡ least_sum count table (read next j) q count
      sums j q h k = sum_same count table (read rows j) (read next j) q count k (le_refl count) (read_same j h)

      read_bounded : (q : ℕ) → q < count → read rows i q ≤ n + 1
      read_bounded q k =
          let child = child_inside i q k in
          read_low n (pick (eqb (at target i) 82) children_r children_s) (λ p. at rows (place count i p)) q (f.low _ (omega arith))

  pub filling_more : {begun rows next : List ℕ} {i : ℕ} → Filling count n children_r children_s target table begun rows i
      → NextRow count n (pick (eqb (at target i) 82) children_r children_s) table i rows next
      → Filling count n children_r children_s target table begun next (i + 1)
  filling_more f m = rw add-one (filling_next f m)

  module _ {begun rows : List ℕ} {i : ℕ} (r : Rewritten (at table) before begun count) (f : Filling count n children_r children_s target table begun rows i) where
    -- what is left of the slice is never changed
    pub filling_rest : drop (suc i * count) rows ≡ drop (suc i * count) before
    filling_rest = same_rest before rows (suc i * count) (f.long ∙ r.long) (λ p h. f.rest p h ∙ r.old p (omega arith))

    -- the next row can be made
    module _ (h : i < length target) where
      rows_room : suc (suc i) * count ≤ length rows
      rows_room = omega (arith, mul-le-mul_right count (suc-le-suc h), fits.room.rows, f.long, r.long)

      pub row_fits : {children : List ℕ} → AllAtMost (count - 1) children count → RowFits count n children table i rows
      row_fits by =
          record {
            bound = fits.room.bound;
            children_room = by.room;
            inside = node_inside fits by;
            table_room = fits.table_low.room;
            table_low = fits.table_low.low;
            room = rows_room;
            low = f.low;
          }
