-- A tree of suffixes while it grows: its nodes so far, and what one call adds. Assumes nothing: these are definitions.
use Rattle.std.specs.Prelude.{◌≡◌, List, [], ◌∷◌, ℕ, suc, ◌+◌, ◌≤◌, ◌<◌, length, drop}
use Rattle.words.specs.Word.{Letter, R, S, Word}
use Rattle.words.specs.Bytes.{letter}
use Rattle.products.specs.Product.{generators, generator}
use Rattle.products.specs.State.{State}
use Rattle.trees.specs.Tree.{at, most_of_entry, word_at, Child}
use Rattle.trees.specs.Numbering.{with_all, numbered}
use Rattle.trees.specs.Ends.{end_before}

-- What the lent slices say of the nodes: letters, rests, the children by one letter and those by the other.
pub record NodeSlices : Type 0 where
  pub letters : List ℕ
  pub rests : List ℕ
  pub children : List ℕ
  pub others : List ℕ

abbrev pub node_slices : List ℕ → List ℕ → List ℕ → List ℕ → NodeSlices
node_slices letters rests children others = record { letters = letters; rests = rests; children = children; others = others }

-- The nodes so far: each but node 0 is its letter in front of an earlier node's word, and no two have the same word.
pub record NodeWords (words : List Word) (letters rests : List ℕ) : Type 0 where
  pub some : 1 ≤ length words
  pub root : word_at words 0 ≡ []
  pub root_rest : at rests 0 ≡ 0
  pub rest_earlier : (p : ℕ) → 0 < p → p < length words → at rests p < p
  pub node : (p : ℕ) → 0 < p → p < length words → word_at words p ≡ letter (at letters p) ∷ word_at words (at rests p)
  pub spelled : (p : ℕ) → 0 < p → p < length words → (at letters p ≡ 82 → ⊥) → at letters p ≡ 83
  pub once : (p q : ℕ) → p < length words → q < length words → word_at words p ≡ word_at words q → p ≡ q

-- the children of the nodes by the letter a
pub record ChildrenBy (a : Letter) (words : List Word) (children : List ℕ) : Type 0 where
  pub inside : (p : ℕ) → p < length words → at children p < length words
  pub child : (p : ℕ) → p < length words → Child words a p (at children p)

-- The slices hold a tree whose nodes have the `words`, with the children by a and by the other letter b: one argument serves for both letters.
pub record Grown (a b : Letter) (words : List Word) (t : NodeSlices) : Type 0 where
  pub nodes : NodeWords words t.letters t.rests
  pub by_a : ChildrenBy a words t.children
  pub by_b : ChildrenBy b words t.others

-- the slices hold some tree of `count` nodes
abbrev pub SomeGrown : Letter → Letter → ℕ → NodeSlices → Type 0
SomeGrown a b count t = (words : List Word) × (length words ≡ count) × Grown a b words t

-- there is room for n nodes, and their numbers fit
pub record RoomFor (n : ℕ) (t : NodeSlices) : Type 0 where
  pub few : n ≤ most_of_entry
  pub in_letters : n ≤ length t.letters
  pub in_rests : n ≤ length t.rests
  pub in_children : n ≤ length t.children
  pub in_others : n ≤ length t.others

-- What stands behind the first `count` nodes remains, and so does the letter of node 0, which means nothing.
pub record Remains (count : ℕ) (before after : NodeSlices) : Type 0 where
  pub letters : drop count after.letters ≡ drop count before.letters
  pub rests : drop count after.rests ≡ drop count before.rests
  pub children : drop count after.children ≡ drop count before.children
  pub others : drop count after.others ≡ drop count before.others
  pub root_letter : at after.letters 0 ≡ at before.letters 0

-- The slices hold the tree of `words`, with `count` nodes, and `node` has the word `goal`.
pub record Grew (a b : Letter) (words : List Word) (goal : Word) (t : NodeSlices) (node count : ℕ) : Type 0 where
  pub counted : length words ≡ count
  pub grown : Grown a b words t
  pub inside : node < length words
  pub spells : word_at words node ≡ goal

-- What a call makes of any tree of `count` nodes: it reads the goal `into` the words, adds at most `more` nodes, writes nothing behind them, and
-- answers the node of the goal.
pub record Grows (a b : Letter) (into : List Word → Word → List Word) (goal : List Word → Word) (more count : ℕ) (before after : NodeSlices) (node count' : ℕ)
    : Type 0 where
  pub no_fewer : count ≤ count'
  pub few : count' ≤ count + more
  pub remains : Remains count' before after
  pub grew : (words : List Word) → length words ≡ count → Grown a b words before → Grew a b (into words (goal words)) (goal words) after node count'

-- The first i generators of a list are in the tree; with the others the words are all.
pub record Read (bytes ends : List ℕ) (i count : ℕ) (t : NodeSlices) (wholes : List ℕ) : Type 0 where
  pub words : List Word
  pub counted : length words ≡ count
  pub grown : Grown R S words t
  pub others : with_all words (drop i (generators bytes ends)) ≡ numbered (generators bytes ends)
  pub states : (p : ℕ) → p < length words → State (generators bytes ends) (word_at words p)
  pub whole_inside : (j : ℕ) → j < i → at wholes j < length words
  pub whole : (j : ℕ) → j < i → word_at words (at wholes j) ≡ generator (generators bytes ends) j
  pub few : count ≤ suc (end_before ends i)
