-- Row i + 1 is made of row i: what is read, and the round over it. Assumes nothing.
use mathlib.Core.Bool.{Bool, true, false}
use mathlib.Core.Path.{◌≡◌, ap, ◌∙◌}
use mathlib.Core.List.{List}
use Prim.Native.Nat.{ℕ, suc, ◌+◌, ◌-◌, ◌*◌, ◌≤◌, ◌<◌}
use native.Mathlib.Nat.{le_refl}
use native.Mathlib.Omega.{arith}
use lib.Dec.{eqb}
use lib.ListN.{length}
use borrow.Rule.Slice.PartMut.{put_mid}
use Rattle.refusals.specs.Telling.{pick}
use Rattle.trees.specs.Tree.{at}
use Rattle.tables.specs.Rules.{place}
use Rattle.rows.specs.Rounds.{read_at, least_sum, NextRow}
use Rattle.rows.proofs.Sums.{sum_same}
use Rattle.rows.proofs.Parts.{part, part_at, put_length, put_front, put_part, put_rest}

pick_low : (t : Bool) (a b k : ℕ) → a ≤ k → b ≤ k → pick t a b ≤ k
pick_low true a b k h g = h
pick_low false a b k h g = g

-- what is read is no more than n + 1 where no entry of the row is
pub read_low : (n : ℕ) (children : List ℕ) (row : ℕ → ℕ) (v : ℕ) → row (at children v) ≤ n + 1 → read_at n children row v ≤ n + 1
read_low n children row v h = pick_low (eqb (at children v) 0) (n + 1) (row (at children v)) (n + 1) (le_refl (n + 1)) h

module _ (count n i : ℕ) (children table rows : List ℕ) (inside : (p : ℕ) → p < count → at children p < count) (room : suc (suc i) * count ≤ length rows)
    (first : List ℕ) (reads : (v : ℕ) → v < count → at first v ≡ read_at n children (at (part rows (i * count) count)) v) where
  -- what is read, at the flat places of the rows
  read_at_lem : (v : ℕ) → v < count → at first v ≡ read_at n children (λ p. at rows (place count i p)) v
  read_at_lem v h = reads v h ∙ ap (pick (eqb (at children v) 0) (n + 1)) (part_at rows (i * count) count (at children v) (inside v h))

  pub next_row : (row : List ℕ) → length row ≡ count → ((q : ℕ) → q < count → at row q ≡ least_sum count table (at first) q count)
      → NextRow count n children table i rows (put_mid (i * count + count) (i * count + count + count - (i * count + count)) rows row)
  next_row row long sums =
      let after = put_mid (i * count + count) (i * count + count + count - (i * count + count)) rows row in
      record {
        long = put_length rows (i * count + count) count (omega arith) row long;
        made = λ q h.
            let here : place count (suc i) q ≡ i * count + count + q = omega arith in
            ap (at after) here ∙ put_part rows (i * count + count) count (omega arith) row long q h ∙ sums q h
            ∙ sum_same count table (at first) (read_at n children (λ p. at rows (place count i p))) q count h (le_refl count) read_at_lem;
        front = λ p h. put_front rows (i * count + count) count (omega arith) row long p (omega arith);
        rest = λ p h. put_rest rows (i * count + count) count (omega arith) row long p (omega arith);
      }
