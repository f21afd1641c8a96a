-- The rules B to G of source 004's pairs of states, at the flat places of a table with a row and a column for each of the `count` nodes of a tree: the pair
-- (x, y) stands at x * count + y. A rule with one premise has for its second the place one past the end, count * count.
-- Assumes nothing: these are definitions.
use Rattle.std.specs.Prelude.{◌≡◌, List, ℕ, ◌+◌, ◌*◌, ◌<◌, ltb}
use Rattle.refusals.specs.Telling.{pick}
use Rattle.words.specs.Word.{Letter, R, S}
use Rattle.words.specs.Bytes.{byte}
use Rattle.trees.specs.Tree.{at}
use Rattle.trees.specs.declared.SuffixTree.{SuffixTree}

abbrev pub place : ℕ → ℕ → ℕ → ℕ
place count x y = x * count + y

-- The pair after a pair. Document 02, M-102: "row and column carry over with one comparison. For every pair of a table, whatever the row width, the new pair's
-- column is below the width too and its table place is the old one's plus 1." That both hold, and of no other pair, is proved in proofs/Places.antt. Behind the
-- last pair of all comes the first one of the row past the end.
abbrev pub next_pair : ℕ → ℕ → ℕ → ℕ × ℕ
next_pair width row column = pick (ltb (column + 1) width) (row, column + 1) (row + 1, 0)

module _ (count : ℕ) (letters rests : List ℕ) where
  -- a node whose word begins with the letter
  abbrev pub Is : Letter → ℕ → Type 0
  Is x p = (0 < p) × (p < count) × (at letters p ≡ byte x)

  -- `rest a` is the node of a's word without its first letter. In words: B from (x, R q) to (R x, q); C from (x, S q) to (S S x, q);
  -- D from (x, S S q) to (S x, q); E, the three S's of three factors, from (x, S v) and (v, S q) to (S x, q); F from (u, v) and (v, q)
  -- to (u, q); G from (x, y) to (a x, a y) for a letter a.
  pub data Rule : ℕ → ℕ → ℕ → Type 0 where
    B : (a b : ℕ) → Is R a → Is R b → Rule (place count (at rests a) b) (count * count) (place count a (at rests b))
    C : (a b : ℕ) → Is S a → Is S (at rests a) → Is S b → Rule (place count (at rests (at rests a)) b) (count * count) (place count a (at rests b))
    D : (a b : ℕ) → Is S a → Is S b → Is S (at rests b) → Rule (place count (at rests a) b) (count * count) (place count a (at rests (at rests b)))
    E : (a v b : ℕ) → Is S a → Is S v → Is S b → Rule (place count (at rests a) v) (place count (at rests v) b) (place count a (at rests b))
    F : (u v q : ℕ) → u < count → v < count → q < count → Rule (place count u v) (place count v q) (place count u q)
    G : (x : Letter) (a b : ℕ) → Is x a → Is x b → Rule (place count (at rests a) (at rests b)) (count * count) (place count a b)

-- the rules of a tree of suffixes as one value
abbrev pub Rule_in : SuffixTree → ℕ → ℕ → ℕ → Type 0
Rule_in t = Rule t.count t.letters.now t.rests.now
