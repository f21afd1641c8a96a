-- Entries of a slice that are small enough. Assumes nothing: these are definitions.
use Rattle.std.specs.Prelude.{List, ℕ, ◌≤◌, ◌<◌, length}
use Rattle.trees.specs.Tree.{at}

-- each of the first m entries is at most k
abbrev pub AtMost : ℕ → List ℕ → ℕ → Type 0
AtMost k l m = (p : ℕ) → p < m → at l p ≤ k

-- there are m entries, and each of the first m is at most k
pub record AllAtMost (k : ℕ) (l : List ℕ) (m : ℕ) : Type 0 where
  pub room : m ≤ length l
  pub low : AtMost k l m
