-- What filling the table of pairs promises. Assumes nothing: these are definitions.
use Rattle.std.specs.Prelude.{◌≡◌, List, ℕ, ◌*◌, ◌≤◌, ◌<◌, length, take, drop, Result, Ok, Err}
use Rattle.limits.specs.Limits.{most_factors}
use Rattle.words.specs.Word.{Word}
use Rattle.products.specs.State.{AllNormal, LeastBy}
use Rattle.trees.specs.Tree.{at, most_of_entry, word_at, Shape, Tree}
use Rattle.trees.specs.declared.Unfit.{Unfit}
use Rattle.tables.specs.Rules.{place}
use Rattle.tables.specs.Nodes.{Linked}
use Rattle.tables.specs.Levelling.{Full}

-- Indices that can be followed, children that agree with the letters and rests, as those of every tree do, a bound that question 13 lets pass, and room
-- for a row and a column for each node.
pub record Fits (count : ℕ) (letters rests children_r children_s wholes : List ℕ) (n : ℕ) (table : List ℕ) : Type 0 where
  pub shape : Shape count letters rests children_r children_s wholes
  pub linked : Linked count letters rests children_r children_s
  pub few : count ≤ most_of_entry
  pub bound : n ≤ most_factors
  pub room : count * count ≤ length table

-- The first count × count entries hold, for each pair of nodes, the least number that the rules make, or n + 1: this fixes them
-- (proofs/Unique.antt), whether the slices are a tree or not. In the tree of a list of normal generators that is the least weight of a series, of one
-- factor or more, that leads from the one's word to the other's. The other entries are as they were.
-- 01: "each pair of states gets the least number of factors that makes u⁻¹v". That is the weight of `fill`, which is the measure; the diagonal is then not 0.
-- For `close` every series weighs nothing, and n is 1: an entry is 0 where a series leads from the one to the other, and 2 where none does.
pub record Filled (weight : List ℕ → ℕ) (count : ℕ) (letters rests children_r children_s wholes : List ℕ) (n : ℕ) (before after : List ℕ) : Type 0 where
  pub long : length after ≡ length before
  pub kept : drop (count * count) after ≡ drop (count * count) before
  pub full : Full count letters rests wholes weight n (take (count * count) after)
  pub exact : (gens words : List Word) → AllNormal gens → Tree gens words letters rests children_r children_s wholes → length words ≡ count
      → (p q : ℕ) → p < count → q < count → LeastBy gens weight n (word_at words p) (word_at words q) (at after (place count p q))

-- Where the inputs fit the table is filled; else nothing changes, and the answer says so.
abbrev pub Fills : (List ℕ → ℕ) → ℕ → List ℕ → List ℕ → List ℕ → List ℕ → List ℕ → ℕ → List ℕ → Result Unit Unfit → List ℕ → Type 0
Fills weight count letters rests children_r children_s wholes n before (Ok _) after =
    Fits count letters rests children_r children_s wholes n before × Filled weight count letters rests children_r children_s wholes n before after
Fills weight count letters rests children_r children_s wholes n before (Err _) after =
    (Fits count letters rests children_r children_s wholes n before → ⊥) × (after ≡ before)
