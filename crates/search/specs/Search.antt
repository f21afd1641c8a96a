-- What the search for the first of the least series promises. Assumes nothing: these are definitions.
use Rattle.std.specs.Prelude.{Option, None, Some, Result, Ok, Err, ◌≡◌, List, ℕ, ◌+◌, ◌*◌, ◌≤◌, length, take, drop}
use Rattle.limits.specs.Limits.{most_letters, most_states}
use Rattle.words.specs.Word.{Word, Normal}
use Rattle.words.specs.Bytes.{word}
use Rattle.products.specs.Product.{NoneRight, MemberRight, plain}
use Rattle.products.specs.State.{AllNormal}
use Rattle.trees.specs.Tree.{Tree}
use Rattle.tables.specs.Filling.{Fits as TableFits}
use Rattle.words.specs.declared.Factors.{Factors}
use Rattle.trees.specs.declared.Unfit.{Unfit}

-- The first of the least series with its count, none within the bound, or inputs that do not fit.
abbrev pub Found : Type 0
Found = Result (Option Factors) Unfit

abbrev pub IsUnfit : Found → Type 0
IsUnfit (Ok _) = ⊥
IsUnfit (Err _) = Unit {0}

-- What is lent to be written: two tables of 16-bit numbers, and a witness slice of bytes.
pub record Lent : Type 0 where
  pub first : List ℕ
  pub second : List ℕ
  pub witness : List ℕ

-- How many entries of each table are used: a row for each node and, behind them, one for each letter of the target.
abbrev pub used : ℕ → ℕ → ℕ
used count letters = (count + letters) * count

-- No more nodes than a list has, a target that question 8 lets pass, generators whose numbers fit in bytes, the entries that are used, and a byte for
-- each factor.
pub record Room (count n letters generators first_length second_length witness_length : ℕ) : Type 0 where
  pub few : count ≤ most_states
  pub short : letters ≤ most_letters
  pub numbers : generators ≤ 256
  pub witness : n ≤ witness_length
  pub first : used count letters ≤ first_length
  pub second : used count letters ≤ second_length

pub record Fits (count : ℕ) (letters rests children_r children_s wholes target : List ℕ) (n : ℕ) (lent : Lent) : Type 0 where
  pub room : Room count n (length target) (length wholes) (length lent.first) (length lent.second) (length lent.witness)
  pub table : TableFits count letters rests children_r children_s wholes n lent.first

-- The slices are the tree of reduced generators, and the target is normal.
pub record Posed (gens words : List Word) (count : ℕ) (letters rests children_r children_s wholes target : List ℕ) : Type 0 where
  pub normal : AllNormal gens
  pub tree : Tree gens words letters rests children_r children_s wholes
  pub size : length words ≡ count
  pub target_normal : Normal (word target)

-- An answer is right for the target, and leaves what stands in the witness behind the factors. Of a list that is posed the inputs are not unfit.
abbrev pub Answers : List Word → List ℕ → ℕ → List ℕ → Found → List ℕ → Type 0
Answers gens target n before (Ok (Some count)) after =
    MemberRight (plain gens) (word target) n (take count.0 after) count.0 × (drop count.0 after ≡ drop count.0 before)
Answers gens target n before (Ok None) after = NoneRight (plain gens) (word target) n × (after ≡ before)
Answers gens target n before (Err _) after = ⊥

-- Where the inputs fit, the answer is right for every list of which the slices are the tree, and what stands behind the entries that are used is as it
-- was; else nothing changes. Where the answer is that the inputs do not fit, the witness is as it was.
pub record Searches (count : ℕ) (letters rests children_r children_s wholes target : List ℕ) (n : ℕ) (r : Found) (before after : Lent) : Type 0 where
  pub answers : Fits count letters rests children_r children_s wholes target n before → (gens words : List Word)
      → Posed gens words count letters rests children_r children_s wholes target → Answers gens target n before.witness r after.witness
  pub first : drop (used count (length target)) after.first ≡ drop (used count (length target)) before.first
  pub second : drop (used count (length target)) after.second ≡ drop (used count (length target)) before.second
  pub unfit : (Fits count letters rests children_r children_s wholes target n before → ⊥) → IsUnfit r × (after ≡ before)
  pub unwritten : IsUnfit r → after.witness ≡ before.witness
