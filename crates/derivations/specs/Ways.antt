-- The items of a list and a target, and their parts. With `count` nodes in the tree of the list's suffixes, an item is
--     (0, j)             the factor j
--     (p + 1, y)         the pair of the nodes p and y: what leads from the word of p to that of y
--     (count + i, q)     row i of the target at the node q, for i from 1 on: what makes the target's first i letters and then the word of q
-- so that the counts of pairs, and behind them those of rows, are one table with `count` in a row: item (p + 1, y) stands at p * count + y. Row 0 is the
-- pairs of node 0, and stands there once.
-- A way is a number from 0 on, below `ways`. Numbers only. Assumes nothing: these are definitions.
use Rattle.std.specs.Prelude.{Bool, false, List, ℕ, zero, suc, ◌+◌, ◌-◌, eqb, ltb, length}
use Rattle.refusals.specs.Telling.{pick}
use Rattle.trees.specs.Tree.{at, most_of_entry}
use Rattle.tables.specs.Rules.{place}
use Rattle.derivations.specs.declared.Setting.{Setting}
use Rattle.derivations.specs.declared.Parts.{Parts}
use Rattle.derivations.specs.declared.Parts.TheVariants.{One, Two, Nothing}

-- the first way and no other
abbrev pub only : ℕ → Parts → Parts
only d ps = pick (eqb d 0) ps Nothing

module _ (children_r children_s : List ℕ) where
  -- the node with that letter's byte in front of v's word, 0 where there is none
  abbrev pub child_by : ℕ → ℕ → ℕ
  child_by byte v = at (pick (eqb byte 82) children_r children_s) v

module _ (letters : List ℕ) where
  -- does the word of node p begin with S, and do the words of p and y begin alike, where p is not node 0?
  abbrev pub begins_s : ℕ → Bool
  begins_s p = pick (eqb p 0) false (eqb (at letters p) 83)

  abbrev pub alike : ℕ → ℕ → Bool
  alike p y = pick (eqb y 0) false (eqb (at letters y) (at letters p))

-- The letters that p's word begins with are carried over to y: R, two S's as one, one S as two.
abbrev pub over_ss : ℕ → ℕ → Parts
over_ss a c = pick (eqb c 0) Nothing (One (suc a) c)

module _ (letters rests children_s : List ℕ) where
  abbrev pub over_s : ℕ → ℕ → Parts
  over_s a b = pick (begins_s letters a) (One (suc (at rests a)) b) (over_ss a (at children_s b))

  abbrev pub over : ℕ → ℕ → ℕ → Parts
  over byte a b = pick (eqb b 0) Nothing (pick (eqb byte 82) (One (suc a) b) (over_s a b))

-- The halves of a pair: over a node v that p's first letter can stand before; and the three S's of p, v and y's child from three places.
module _ (letters children_r children_s : List ℕ) where
  abbrev pub past : ℕ → ℕ → ℕ → Parts
  past p y v = pick (eqb (child_by children_r children_s (at letters p) v) 0) Nothing (Two (suc p) v (suc v) y)

module _ (letters rests : List ℕ) where
  abbrev pub across : ℕ → ℕ → ℕ → Parts
  across a b v = pick (begins_s letters v) (pick (eqb b 0) Nothing (Two (suc a) v (suc (at rests v)) b)) Nothing

module _ (letters rests children_s : List ℕ) where
  abbrev pub triple : ℕ → ℕ → ℕ → Parts
  triple p y v =
      pick (eqb (at letters p) 83) (pick (begins_s letters (at rests p)) Nothing (across letters rests (at rests p) (at children_s y) v)) Nothing

module _ (letters rests children_r children_s : List ℕ) where
  -- A pair that is the same element: the first letter of both is taken away, or p's is carried over to y. Node p is not 0.
  abbrev pub shift : ℕ → ℕ → Parts
  shift p y =
      pick (alike letters p y) (One (suc (at rests p)) (at rests y))
      (over letters rests children_s (at letters p) (at rests p) (child_by children_r children_s (at letters p) y))

  abbrev pub halves : ℕ → ℕ → ℕ → ℕ → Parts
  halves count p y d =
      pick (ltb d count) (past letters children_r children_s p y d)
      (pick (ltb (d - count) count) (triple letters rests children_s p y (d - count)) Nothing)

  -- where there is a shift nothing is halved
  abbrev pub unless : Parts → ℕ → ℕ → ℕ → ℕ → Parts
  unless (One a b) count p y d = only d (One a b)
  unless (Two a b c e) count p y d = halves count p y d
  unless Nothing count p y d = halves count p y d

-- At node 0 the factor d begins: it is all of it where one factor is enough, and else the rest leads on from its generator's node.
abbrev pub by_factor : List ℕ → List ℕ → ℕ → ℕ → Parts
by_factor wholes counts y d =
    pick (ltb d (length wholes))
    (pick (eqb (at counts y) 1) (pick (eqb (at wholes d) y) (One 0 d) Nothing) (Two 0 d (suc (at wholes d)) y))
    Nothing

-- the first number of the items of row i
abbrev pub row_item : ℕ → ℕ → ℕ
row_item count zero = 1
row_item count (suc i) = suc (count + i)

module _ (count : ℕ) (children_r children_s target : List ℕ) where
  -- the node with letter i of the target in front of v's word
  abbrev pub read_at : ℕ → ℕ → ℕ
  read_at i v = child_by children_r children_s (at target i) v

  abbrev pub chain : ℕ → ℕ → ℕ → ℕ → Parts
  chain i q d c = pick (eqb c 0) Nothing (Two (row_item count i) c (suc d) q)

  -- Row i + 1: letter i is read where it can stand before q's word, and else before the word of some node d.
  abbrev pub next_row : ℕ → ℕ → ℕ → Parts
  next_row i q d =
      pick (eqb (read_at i q) 0)
      (pick (ltb d count) (chain i q d (read_at i d)) Nothing)
      (only d (One (row_item count i) (read_at i q)))

module _ (count : ℕ) (letters rests children_r children_s wholes counts : List ℕ) where
  abbrev pub of_pair : ℕ → ℕ → ℕ → Parts
  of_pair p y d =
      pick (eqb p 0) (by_factor wholes counts y d)
      (unless letters rests children_r children_s (shift letters rests children_r children_s p y) count p y d)

module _ (count : ℕ) (letters rests children_r children_s wholes target counts : List ℕ) where
  -- the parts of an item in a way
  abbrev pub parts : ℕ → ℕ → ℕ → Parts
  parts zero y d = Nothing
  parts (suc p) y d =
      pick (ltb p count) (of_pair count letters rests children_r children_s wholes counts p y d) (next_row count children_r children_s target (p - count) y d)

-- What an item weighs: a factor 1, any other what the table says; and what is no item weighs 0. More nodes or letters than an entry can tell are not read.
module _ (count generators letters : ℕ) (counts : List ℕ) where
  abbrev pub weigh : ℕ → ℕ → ℕ
  weigh zero y = pick (ltb y generators) 1 0
  weigh (suc p) y =
      pick (ltb most_of_entry count) 0
      (pick (ltb most_of_entry letters) 0 (pick (ltb y count) (pick (ltb p (count + letters)) (at counts (place count p y)) 0) 0))

-- No way from this number on has parts that weigh what the item does.
abbrev pub ways : ℕ → ℕ → ℕ → ℕ
ways count generators x = pick (eqb x 1) generators (pick (ltb most_of_entry count) 0 (pick (ltb count x) count (count + count)))

-- All that items are told by: the tree of a list, the target, and the table of counts.
pub record World : Type 0 where
  pub count : ℕ
  pub letters : List ℕ
  pub rests : List ℕ
  pub children_r : List ℕ
  pub children_s : List ℕ
  pub wholes : List ℕ
  pub target : List ℕ
  pub counts : List ℕ

abbrev pub world : ℕ → List ℕ → List ℕ → List ℕ → List ℕ → List ℕ → List ℕ → List ℕ → World
world count letters rests children_r children_s wholes target counts =
    record {
      count = count;
      letters = letters;
      rests = rests;
      children_r = children_r;
      children_s = children_s;
      wholes = wholes;
      target = target;
      counts = counts;
    }

-- what a setting of the code says
abbrev pub world_of : Setting → World
world_of s =
    let t = s.tree in
    world t.count t.letters.now t.rests.now t.children_r.now t.children_s.now t.wholes.now s.target.now s.counts.now

abbrev pub parts_in : World → ℕ → ℕ → ℕ → Parts
parts_in w x y d = parts w.count w.letters w.rests w.children_r w.children_s w.wholes w.target w.counts x y d

abbrev pub weight_in : World → ℕ → ℕ → ℕ
weight_in w x y = weigh w.count (length w.wholes) (length w.target) w.counts x y

-- no item has a greater first number
abbrev pub highest : World → ℕ
highest w = w.count + length w.target

-- the last row at node 0: what makes the target
abbrev pub whole : World → ℕ
whole w = row_item w.count (length w.target)
