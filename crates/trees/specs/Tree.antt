-- The tree of suffixes: the states of a list of generators, each with one number. Node 0 is the empty word; every other node is a letter
-- in front of the word of an earlier node, its rest. Assumes nothing: these are definitions.
use Rattle.std.specs.Prelude.{◌≡◌, List, [], ◌∷◌, ℕ, ◌≤◌, ◌<◌, length, get_or}
use Rattle.words.specs.Word.{Letter, R, S, Word}
use Rattle.words.specs.Bytes.{letter}
use Rattle.products.specs.Product.{generator, Factor}
use Rattle.products.specs.State.{State}

-- the most that a number of 16 bits is: the slices hold such numbers
abbrev pub most_of_entry : ℕ
most_of_entry = 65535

-- the number at a place of a list of numbers, and the word at a place of a list of words
abbrev pub at : List ℕ → ℕ → ℕ
at l p = get_or l p 0

abbrev pub word_at : List Word → ℕ → Word
word_at words p = get_or words p []

-- What makes the indices of a tree of `count` nodes safe to follow: numbers only.
pub record Shape (count : ℕ) (letters rests children_r children_s wholes : List ℕ) : Type 0 where
  pub some : 1 ≤ count
  pub room_letters : count ≤ length letters
  pub room_rests : count ≤ length rests
  pub room_r : count ≤ length children_r
  pub room_s : count ≤ length children_s
  pub rest_earlier : (p : ℕ) → 0 < p → p < count → at rests p < p
  pub child_r_inside : (p : ℕ) → p < count → at children_r p < count
  pub child_s_inside : (p : ℕ) → p < count → at children_s p < count
  pub whole_inside : (j : ℕ) → j < length wholes → at wholes j < count

-- c is the node of the word with the letter a in front of node p's, or 0 where no node has that word
pub record Child (words : List Word) (a : Letter) (p c : ℕ) : Type 0 where
  pub there : 0 < c → word_at words c ≡ a ∷ word_at words p
  pub nowhere : c ≡ 0 → (q : ℕ) → q < length words → word_at words q ≡ a ∷ word_at words p → ⊥

-- The tree of the suffixes of the generators. `words` has the word of each node.
pub record Tree (gens : List Word) (words : List Word) (letters rests children_r children_s wholes : List ℕ) : Type 0 where
  pub shape : Shape (length words) letters rests children_r children_s wholes
  pub wholes_count : length wholes ≡ length gens
  -- node 0, and every other node
  pub root : word_at words 0 ≡ []
  pub node : (p : ℕ) → 0 < p → p < length words → word_at words p ≡ letter (at letters p) ∷ word_at words (at rests p)
  -- each letter is spelled by its byte, 82 or 83
  pub spelled : (p : ℕ) → 0 < p → p < length words → (at letters p ≡ 82 → ⊥) → at letters p ≡ 83
  -- the nodes are the states, each once
  pub state : (p : ℕ) → p < length words → State gens (word_at words p)
  pub node_of : (q : Word) → State gens q → (p : ℕ) × (p < length words) × (word_at words p ≡ q)
  pub once : (p q : ℕ) → p < length words → q < length words → word_at words p ≡ word_at words q → p ≡ q
  -- children and whole generators
  pub child_r : (p : ℕ) → p < length words → Child words R p (at children_r p)
  pub child_s : (p : ℕ) → p < length words → Child words S p (at children_s p)
  pub whole : (j : ℕ) → Factor gens j → word_at words (at wholes j) ≡ generator gens j
