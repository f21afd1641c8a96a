-- One row made of the row before: inner contracts of the functions that fill the rows of a target. Assumes nothing: these are definitions.
use Rattle.std.specs.Prelude.{◌≡◌, List, ℕ, zero, suc, min, ◌+◌, ◌*◌, ◌≤◌, ◌<◌, eqb, length}
use Rattle.refusals.specs.Telling.{pick}
use Rattle.limits.specs.Limits.{most_factors}
use Rattle.trees.specs.Tree.{at}
use Rattle.trees.specs.Bounds.{AtMost}
use Rattle.tables.specs.Rules.{place}

-- The first m entries of a slice are what f says, and the others are as they were.
pub record Rewritten (f : ℕ → ℕ) (before after : List ℕ) (m : ℕ) : Type 0 where
  pub long : length after ≡ length before
  pub new : (p : ℕ) → p < m → at after p ≡ f p
  pub old : (p : ℕ) → m ≤ p → at after p ≡ at before p

-- Each entry is lowered to what f says, where that is less.
abbrev pub Lowered : (ℕ → ℕ) → List ℕ → List ℕ → Type 0
Lowered f before after = Rewritten (λ q. min (at before q) (f q)) before after (length before)

-- what is read at v: the row's entry at v's child, or n + 1 where there is none
abbrev pub read_at : ℕ → List ℕ → (ℕ → ℕ) → ℕ → ℕ
read_at n children row v = pick (eqb (at children v) 0) (n + 1) (row (at children v))

-- the least of what is read at q, and, over the first m nodes v, of what is read at v and the table's entry from v to q together
abbrev pub least_sum : ℕ → List ℕ → (ℕ → ℕ) → ℕ → ℕ → ℕ
least_sum count table read q zero = read q
least_sum count table read q (suc m) = min (least_sum count table read q m) (read m + at table (place count m q))

-- A row of w nodes is one round of rule F over what is read.
abbrev pub Round : List ℕ → List ℕ → ℕ → List ℕ → Type 0
Round first table w row = (q : ℕ) → q < w → at row q ≡ least_sum w table (at first) q w

-- What makes a round safe over w nodes: what is read, and the table, with no entry above n + 1.
pub record RoundFits (n : ℕ) (first table : List ℕ) (w : ℕ) : Type 0 where
  pub bound : n ≤ most_factors
  pub room : w ≤ length first
  pub table_room : w * w ≤ length table
  pub low : AtMost (n + 1) first w
  pub table_low : AtMost (n + 1) table (w * w)

-- What makes it safe to make row i + 1 of row i.
pub record RowFits (count n : ℕ) (children table : List ℕ) (i : ℕ) (rows : List ℕ) : Type 0 where
  pub bound : n ≤ most_factors
  pub children_room : count ≤ length children
  pub inside : (p : ℕ) → p < count → at children p < count
  pub table_room : count * count ≤ length table
  pub table_low : AtMost (n + 1) table (count * count)
  pub room : suc (suc i) * count ≤ length rows
  pub low : AtMost (n + 1) rows (suc i * count)

-- Row i + 1 is one round of rule F over what is read in row i, and nothing else is changed.
pub record NextRow (count n : ℕ) (children table : List ℕ) (i : ℕ) (before after : List ℕ) : Type 0 where
  pub long : length after ≡ length before
  pub made : (q : ℕ) → q < count
      → at after (place count (suc i) q) ≡ least_sum count table (read_at n children (λ p. at before (place count i p))) q count
  pub front : (p : ℕ) → p < suc i * count → at after p ≡ at before p
  pub rest : (p : ℕ) → suc (suc i) * count ≤ p → at after p ≡ at before p
