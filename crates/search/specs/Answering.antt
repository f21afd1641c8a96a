-- What is known once the pairs and the rows are filled, and what the last row's entry decides then: inner contracts of the search.
-- Assumes nothing: these are definitions.
use Rattle.std.specs.Prelude.{Some, Result, Ok, Err, ◌≡◌, List, ℕ, ◌≤◌, ◌<◌, length, drop}
use Rattle.limits.specs.Limits.{most_factors}
use Rattle.words.specs.Word.{Word}
use Rattle.words.specs.declared.Factors.{Factors}
use Rattle.trees.specs.declared.Unfit.{Unfit}
use Rattle.products.specs.State.{LeastLead}
use Rattle.trees.specs.Tree.{at, word_at}
use Rattle.tables.specs.Rules.{place}
use Rattle.rows.specs.Rows.{PathRows}
use Rattle.search.specs.Search.{Lent, Room, used, Posed, Found, IsUnfit, Answers}

-- what the witness comes to
abbrev pub of_written : Result Factors Unfit → Found
of_written (Ok count) = Ok (Some count)
of_written (Err e) = Err e

-- There is room, the first table begins with the least count of each pair, and the second with the target's rows.
pub record Tabulated (count : ℕ) (letters rests children_r children_s wholes target : List ℕ) (n : ℕ) (lent : Lent) : Type 0 where
  pub some : 1 ≤ count
  pub room : Room count n (length target) (length wholes) (length lent.first) (length lent.second) (length lent.witness)
  pub bound : n ≤ most_factors
  pub exact : (gens words : List Word) → Posed gens words count letters rests children_r children_s wholes target
      → (p q : ℕ) → p < count → q < count → LeastLead gens n (word_at words p) (word_at words q) (at lent.first (place count p q))
  pub rows : PathRows count n children_r children_s target lent.first lent.second (length target)

-- The answer is right for every list of which the slices are the tree, and what stands behind the entries that are used is as it was. Where the answer is
-- that the inputs do not fit, the witness is as it was.
pub record Answered (count : ℕ) (letters rests children_r children_s wholes target : List ℕ) (n : ℕ) (r : Found) (before after : Lent) : Type 0 where
  pub answers : (gens words : List Word) → Posed gens words count letters rests children_r children_s wholes target
      → Answers gens target n before.witness r after.witness
  pub first : drop (used count (length target)) after.first ≡ drop (used count (length target)) before.first
  pub second : drop (used count (length target)) after.second ≡ drop (used count (length target)) before.second
  pub unwritten : IsUnfit r → after.witness ≡ before.witness
