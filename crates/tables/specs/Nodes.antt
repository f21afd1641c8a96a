-- What the slices of a tree say of its nodes: numbers only. Assumes nothing: these are definitions.
use Rattle.std.specs.Prelude.{◌≡◌, List, ℕ, ◌*◌, ◌≤◌, ◌<◌, length, Option, Some, None}
use Rattle.limits.specs.Limits.{most_factors}
use Rattle.trees.specs.Tree.{at, most_of_entry}
use Rattle.trees.specs.declared.SuffixTree.{SuffixTree}

-- r is the one number below `count` of which P is true, and is not below `count` where there is none
pub record Finds (count : ℕ) (P : ℕ → Type 0) (r : ℕ) : Type 0 where
  pub found : r < count → P r
  pub only : (p : ℕ) → p < count → P p → p ≡ r

-- a number that may be missing, which is then as good as one that is no node
abbrev pub node_or : ℕ → Option ℕ → ℕ
node_or count (Some p) = p
node_or count None = count

-- a number that is there is a node
abbrev pub Node : ℕ → Option ℕ → Type 0
Node count (Some p) = p < count
Node count None = Unit {0}

-- each number among the first `many` is below the bound
abbrev pub AllBelow : List ℕ → ℕ → ℕ → Type 0
AllBelow nodes many bound = (p : ℕ) → p < many → at nodes p < bound

-- each node but the first is behind its rest
abbrev pub RestsEarlier : List ℕ → ℕ → Type 0
RestsEarlier rests count = (p : ℕ) → 0 < p → p < count → at rests p < p

-- What makes all lengths and numbers fit, before any number of a node is looked at.
pub record Room (count letters_length rests_length children_rlength children_slength n table_length : ℕ) : Type 0 where
  pub some : 1 ≤ count
  pub few : count ≤ most_of_entry
  pub letters : count ≤ letters_length
  pub rests : count ≤ rests_length
  pub children_r : count ≤ children_rlength
  pub children_s : count ≤ children_slength
  pub bound : n ≤ most_factors
  pub table : count * count ≤ table_length

-- c is noted as a child of p; 0 stands for none
abbrev pub Noted : List ℕ → ℕ → ℕ → ℕ → Type 0
Noted children count p c = (p < count) × (0 < c) × (at children p ≡ c)

-- the child that is noted at p, where there is one
abbrev pub NotedAt : List ℕ → ℕ → Option ℕ → Type 0
NotedAt children p (Some c) = (0 < c) × (at children p ≡ c)
NotedAt children p None = at children p ≡ 0

-- Letters, rests and the children by one letter whose indices can be followed.
pub record Followed (count : ℕ) (letters rests children : List ℕ) : Type 0 where
  pub room_letters : count ≤ length letters
  pub room_rests : count ≤ length rests
  pub room_children : count ≤ length children
  pub rest_earlier : RestsEarlier rests count
  pub inside : AllBelow children count count

module _ (letters rests : List ℕ) (letter : ℕ) (children : List ℕ) where
  -- p's child has the letter, and the rest p
  abbrev pub ChildAgrees : ℕ → Type 0
  ChildAgrees p = 0 < at children p → (at letters (at children p) ≡ letter) × (at rests (at children p) ≡ p)

  -- p, where its word begins with the letter, is the child of its rest
  abbrev pub RestAgrees : ℕ → Type 0
  RestAgrees p = 0 < p → at letters p ≡ letter → at children (at rests p) ≡ p

  -- the children by one letter agree with the letters and rests at p
  pub record Agrees (p : ℕ) : Type 0 where
    pub child : ChildAgrees p
    pub rest : RestAgrees p

  abbrev pub Agree : ℕ → Type 0
  Agree count = (p : ℕ) → p < count → Agrees p

-- the word of p begins with the letter; node 0 has none, whatever stands there
abbrev pub Begins : List ℕ → ℕ → ℕ → Type 0
Begins letters letter p = (0 < p) × (at letters p ≡ letter)

module _ (count : ℕ) (letters rests : List ℕ) where
  -- the word of the node a is the letter in front of the word of the node p
  abbrev pub Front : ℕ → ℕ → ℕ → Type 0
  Front letter a p = (0 < a) × (a < count) × (at letters a ≡ letter) × (at rests a ≡ p)

  -- the children by one letter: they can be followed, and agree with the letters and rests
  pub record LinkedBy (letter : ℕ) (children : List ℕ) : Type 0 where
    pub followed : Followed count letters rests children
    pub agree : Agree letters rests letter children count

  -- The children by R and by S. Every tree has this.
  pub record Linked (children_r children_s : List ℕ) : Type 0 where
    pub r : LinkedBy 82 children_r
    pub s : LinkedBy 83 children_s

-- the same of a tree of suffixes as one value
abbrev pub Linked_in : SuffixTree → Type 0
Linked_in t = Linked t.count t.letters.now t.rests.now t.children_r.now t.children_s.now
