-- The rows of a target, and what filling them promises. Row i, entry q, stands at i * count + q; it is about the series that make the target's
-- first i letters and then the word of node q. Numbers only. Assumes nothing: these are definitions.
use Rattle.std.specs.Prelude.{◌⊎◌, ◌≡◌, List, ℕ, suc, ◌+◌, ◌-◌, ◌*◌, ◌≤◌, ◌<◌, eqb, length, drop, Result, Ok, Err}
use Rattle.refusals.specs.Telling.{pick}
use Rattle.limits.specs.Limits.{most_letters, most_factors, most_states}
use Rattle.trees.specs.Tree.{at}
use Rattle.trees.specs.declared.Unfit.{Unfit}
use Rattle.trees.specs.Bounds.{AllAtMost}
use Rattle.tables.specs.Rules.{place}

module _ (count n : ℕ) (children_r children_s target table rows : List ℕ) where
  -- the node with letter i of the target in front of v's word, 0 where there is none
  abbrev pub read_node : ℕ → ℕ → ℕ
  read_node i v = at (pick (eqb (at target i) 82) children_r children_s) v

  -- what row i + 1 begins with at v: row i's entry where that letter is read, n + 1 where it cannot be
  abbrev pub read_entry : ℕ → ℕ → ℕ
  read_entry i v = pick (eqb (read_node i v) 0) (n + 1) (at rows (place count i (read_node i v)))

  -- Row 0 is the table's row of the empty word. Each further row is one round of rule F over what is read: the least of what is read there,
  -- and what is read anywhere plus the table's entry from there. t is how many rows there are besides row 0.
  pub record PathRows (t : ℕ) : Type 0 where
    pub start : (q : ℕ) → q < count → at rows (place count 0 q) ≡ at table (place count 0 q)
    pub low : (i q : ℕ) → i < t → q < count → at rows (place count (suc i) q) ≤ read_entry i q
    pub round : (i v q : ℕ) → i < t → v < count → q < count → at rows (place count (suc i) q) ≤ read_entry i v + at table (place count v q)
    pub attained : (i q : ℕ) → i < t → q < count
        → (at rows (place count (suc i) q) ≡ read_entry i q) ⊎ ((v : ℕ) × (v < count) × (at rows (place count (suc i) q) ≡ read_entry i v + at table (place count v q)))

-- Some nodes, and no more than a list has; a bound and a target as questions 13 and 8 let pass; and a row for each of its letters and one more.
pub record Room (count n letters rows_length : ℕ) : Type 0 where
  pub some : 1 ≤ count
  pub few : count ≤ most_states
  pub short : letters ≤ most_letters
  pub bound : n ≤ most_factors
  pub rows : suc letters * count ≤ rows_length

-- Besides, the children are nodes, and no entry of the table is above n + 1.
pub record Fits (count n : ℕ) (children_r children_s target table rows : List ℕ) : Type 0 where
  pub room : Room count n (length target) (length rows)
  pub by_r : AllAtMost (count - 1) children_r count
  pub by_s : AllAtMost (count - 1) children_s count
  pub table_low : AllAtMost (n + 1) table (count * count)

-- The rows are made, and what stands behind them is as it was: this fixes every entry (proofs/Unique.antt).
pub record Filled (count n : ℕ) (children_r children_s target table before after : List ℕ) : Type 0 where
  pub right : PathRows count n children_r children_s target table after (length target)
  pub long : length after ≡ length before
  pub kept : drop (suc (length target) * count) after ≡ drop (suc (length target) * count) before

-- Where the inputs fit the rows are filled; else nothing changes, and the answer says so.
abbrev pub Fills : ℕ → ℕ → List ℕ → List ℕ → List ℕ → List ℕ → List ℕ → Result Unit Unfit → List ℕ → Type 0
Fills count n children_r children_s target table before (Ok _) after =
    Fits count n children_r children_s target table before × Filled count n children_r children_s target table before after
Fills count n children_r children_s target table before (Err _) after =
    (Fits count n children_r children_s target table before → ⊥) × (after ≡ before)
