-- What a search is given: the tree of reduced generators, and a reduced target. Assumes nothing: these are definitions.
use Rattle.std.specs.Prelude.{◌≡◌, List, ℕ, suc, ◌≤◌, length}
use Rattle.limits.specs.Limits.{most_letters, most_signed_generators, most_of_signed_list}
use Rattle.words.specs.Word.{Word, Normal}
use Rattle.words.specs.Bytes.{word}
use Rattle.products.specs.State.{AllNormal}
use Rattle.trees.specs.Tree.{Tree}
use Rattle.trees.specs.Numbering.{numbered}
use Rattle.trees.specs.declared.SuffixTree.{SuffixTree}

-- The slices are the tree, of `count` nodes, of normal generators that have m letters together; and the form is normal.
pub record ReadyFor (gens : List Word) (m count : ℕ) (letters rests children_r children_s wholes form : List ℕ) : Type 0 where
  pub normal : AllNormal gens
  pub tree : Tree gens (numbered gens) letters rests children_r children_s wholes
  pub size : length (numbered gens) ≡ count
  pub few : count ≤ suc m
  pub short : m ≤ most_of_signed_list
  pub few_generators : length gens ≤ most_signed_generators
  pub form_normal : Normal (word form)
  pub form_short : length form ≤ most_letters

-- the same of a tree as one value
abbrev pub ReadyTree : List Word → ℕ → SuffixTree → List ℕ → Type 0
ReadyTree gens m tree form =
    ReadyFor gens m tree.count tree.letters.now tree.rests.now tree.children_r.now tree.children_s.now tree.wholes.now form
