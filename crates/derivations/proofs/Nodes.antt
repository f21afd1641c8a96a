-- The nodes of a query's tree as words: what an item of two nodes weighs is the table's entry at their words, and a node's letter, rest and children
-- are read at its word.
--     node_state, pair_weight, pair_some      a node's word is a state; a pair weighs its entry, 1 or more
--     factor_weight                           a factor weighs 1
--     child_inside, child_word, state_child   the child by a letter is a node, has that letter in front, and is there where that is a state
--     letter_of, begins                       what a node's word begins with, and whether it is that letter
--     begins_so, begins_other                 and the answer, from the word
-- Assumes a query.
use mathlib.Core.Bool.{Bool, true, false}
use mathlib.Core.Path.{◌≡◌, refl, sym, ap, subst, ◌∙◌}
use mathlib.Core.Logic.{◌≢◌}
use mathlib.Core.List.{List, [], ◌∷◌, nil≢cons}
use Prim.Native.Nat.{ℕ, zero, suc, ◌+◌, ◌≤◌, ◌<◌}
use native.Mathlib.Decide.{ℕ_discrete}
use native.Mathlib.Omega.{arith}
use lib.Dec.{eqb}
use lib.ListN.{length}
use borrow.Author.Tests.{lt-ltb, le-ltb, eq-eqb, ne_eqb}
use Rattle.words.specs.Word.{Letter, R, S, Word}
use Rattle.words.specs.Bytes.{letter, byte}
use Rattle.refusals.specs.Telling.{pick}
use Rattle.products.specs.Product.{Factor, measure}
use Rattle.products.specs.State.{State}
use Rattle.products.proofs.States.{NotS}
use Rattle.products.proofs.OneStep.{AllReduced}
use Rattle.products.proofs.Firsts.{First}
use Rattle.products.proofs.Exact.{Exact, all_reduced, measure_append, measure_factor, exact_positive}
use Rattle.trees.specs.Tree.{at, word_at, most_of_entry, Child}
use Rattle.trees.proofs.Nodes.{node_number_at, is_letter, byte_of, begins_letter}
use Rattle.rows.proofs.WordRows.{table_at, table_exact}
use Rattle.tables.specs.Rules.{place}
use Rattle.derivations.specs.Ways.{World, weight_in, child_by}
use Rattle.derivations.specs.Query.{Query}

-- the table's entry from one word to another
abbrev pub entry_at : List Word → World → Word → Word → ℕ
entry_at words w u q = table_at words w.count w.counts u q

-- the child by a letter
abbrev pub child_in : World → Letter → ℕ → ℕ
child_in w a v = child_by w.children_r w.children_s (byte a) v

-- what the first series of an item is: of a factor that factor, and of a pair of nodes the first that leads from word to word
abbrev pub PairSo : List Word → List Word → ℕ → World → ℕ → ℕ → List ℕ → Type 0
PairSo gens words n w zero j r = r ≡ j ∷ []
PairSo gens words n w (suc p) y r =
    p < w.count → y < w.count → weight_in w (suc p) y ≤ n → First gens measure (entry_at words w) (word_at words p) (word_at words y) r

-- does the word of node p begin with the letter?
abbrev pub begins_with : World → Letter → ℕ → Bool
begins_with w a p = pick (eqb p 0) false (eqb (at w.letters p) (byte a))

-- what the answer says
pub data Begins (words : List Word) (w : World) (a : Letter) (p : ℕ) : Bool → Type 0 where
  initial : (p ≡ 0 → ⊥) → word_at words p ≡ a ∷ word_at words (at w.rests p) → Begins words w a p true
  differing : ((q : Word) → word_at words p ≢ a ∷ q) → Begins words w a p false

pub not_s : (x : Word) → ((q : Word) → x ≢ S ∷ q) → NotS x
not_s [] other = tt
not_s (R ∷ x) other = tt
not_s (S ∷ x) other = other x refl

pub not_s_other : (x q : Word) → NotS x → x ≢ S ∷ q
not_s_other x q no_s e = rw e at no_s

module _ {gens words : List Word} {n : ℕ} {w : World} (query : Query gens words n w) where
  pub reduced : AllReduced gens
  reduced = all_reduced gens query.normal

  pub entries_exact : Exact gens n (entry_at words w)
  entries_exact =
      table_exact gens words w.count n w.letters w.rests w.children_r w.children_s w.wholes w.counts query.tree query.size measure
      query.exact

  -- ---- states and weights

  pub node_inside : (p : ℕ) → p < w.count → p < length words
  node_inside p h = omega (arith, query.size)

  pub node_state : (p : ℕ) → p < w.count → State gens (word_at words p)
  node_state p h = query.tree.state p (node_inside p h)

  pub node_of_state : (q : Word) → State gens q → (p : ℕ) × (p < w.count) × (word_at words p ≡ q)
  node_of_state q s = let (p, h, e) = query.tree.node_of q s in (p, omega (arith, query.size), e)

  pub node_once : (p q : ℕ) → p < w.count → q < w.count → word_at words p ≡ word_at words q → p ≡ q
  node_once p q h k e = query.tree.once p q (node_inside p h) (node_inside q k) e

  pub entry_some : (u q : Word) → State gens u → State gens q → 1 ≤ entry_at words w u q
  entry_some u q s t = exact_positive gens measure measure_append n (entry_at words w) entries_exact (measure_factor gens) u q s t

  -- an item inside the table weighs its entry
  pub table_weight : (p q : ℕ) → p < w.count + length w.target → q < w.count → weight_in w (suc p) q ≡ at w.counts (place w.count p q)
  table_weight p q h k =
      let few : w.count ≤ most_of_entry = omega (arith, query.few) in
      let short : length w.target ≤ most_of_entry = omega (arith, query.short) in
      rw (le-ltb most_of_entry w.count few, le-ltb most_of_entry (length w.target) short)
      (rw (lt-ltb q w.count k, lt-ltb p (w.count + length w.target) h))

  pub pair_weight : (p y : ℕ) → p < w.count → y < w.count → weight_in w (suc p) y ≡ entry_at words w (word_at words p) (word_at words y)
  pair_weight p y h k =
      rw (node_number_at query.tree p (node_inside p h), node_number_at query.tree y (node_inside y k)) (table_weight p y (omega arith) k)

  pub pair_some : (p y : ℕ) → p < w.count → y < w.count → 1 ≤ weight_in w (suc p) y
  pair_some p y h k =
      rw (pair_weight p y h k) (entry_some (word_at words p) (word_at words y) (node_state p h) (node_state y k))

  pub factor_weight : (j : ℕ) → Factor gens j → weight_in w 0 j ≡ 1
  factor_weight j f = rw (lt-ltb j (length w.wholes) (omega (arith, query.tree.wholes_count)))

  -- ---- children

  child : (a : Letter) (v : ℕ) → v < w.count → Child words a v (child_in w a v)
  child R v h = query.tree.child_r v (node_inside v h)
  child S v h = query.tree.child_s v (node_inside v h)

  pub child_inside : (a : Letter) (v : ℕ) → v < w.count → child_in w a v < w.count
  child_inside R v h = omega (arith, query.tree.shape.child_r_inside v (node_inside v h), query.size)
  child_inside S v h = omega (arith, query.tree.shape.child_s_inside v (node_inside v h), query.size)

  pub child_word : (a : Letter) (v : ℕ) → v < w.count → (child_in w a v ≡ 0 → ⊥) → word_at words (child_in w a v) ≡ a ∷ word_at words v
  child_word a v h some = (child a v h).there (omega arith)

  -- the child is there, where the word with the letter in front is a state
  pub state_child : (a : Letter) (v : ℕ) → v < w.count → State gens (a ∷ word_at words v) → child_in w a v ≡ 0 → ⊥
  state_child a v h s none = let (p, k, e) = node_of_state (a ∷ word_at words v) s in (child a v h).nowhere none p (node_inside p k) e

  pub child_state : (a : Letter) (v : ℕ) → v < w.count → (child_in w a v ≡ 0 → ⊥) → State gens (a ∷ word_at words v)
  child_state a v h some = subst (State gens) (child_word a v h some) (node_state (child_in w a v) (child_inside a v h))

  -- ---- letters and rests

  pub rest_earlier : (p : ℕ) → (p ≡ 0 → ⊥) → p < w.count → at w.rests p < p
  rest_earlier p some h = query.tree.shape.rest_earlier p (omega arith) (node_inside p h)

  -- a node's word is its letter in front of its rest's word
  pub letter_of : (p : ℕ) → (p ≡ 0 → ⊥) → p < w.count
      → (a : Letter) × (at w.letters p ≡ byte a) × (word_at words p ≡ a ∷ word_at words (at w.rests p))
  letter_of p some h = (
    letter (at w.letters p),
    byte_of query.tree (letter (at w.letters p)) p (omega arith) (node_inside p h) refl,
    query.tree.node p (omega arith) (node_inside p h),
  )

  -- the word of a node other than 0 is not empty
  pub node_some : (p : ℕ) → (p ≡ 0 → ⊥) → p < w.count → word_at words p ≢ []
  node_some p some h e = nil≢cons (sym e ∙ (letter_of p some h).2)

  pub begins : (a : Letter) (p : ℕ) → p < w.count → Begins words w a p (begins_with w a p)
  begins a p h =
      elim (ℕ_discrete p 0) [
        | yes z ↦ rw (eq-eqb p 0 z) (differing (λ q e. nil≢cons (sym query.tree.root ∙ ap (word_at words) (sym z) ∙ e)))
        | no z ↦ rw (ne_eqb p 0 z) (by_letter z)
      ]
    where
      by_letter : (p ≡ 0 → ⊥) → Begins words w a p (eqb (at w.letters p) (byte a))
      by_letter z =
          elim (ℕ_discrete (at w.letters p) (byte a)) [
            | yes e ↦ rw (eq-eqb (at w.letters p) (byte a) e) (initial z (is_letter query.tree a p (omega arith) (node_inside p h) e))
            | no d ↦ rw (ne_eqb (at w.letters p) (byte a) d) (differing (λ q e. d (begins_letter query.tree a p (node_inside p h) q e).1))
          ]

  answer_so : {a : Letter} {p : ℕ} {t : Bool} {q : Word} → Begins words w a p t → word_at words p ≡ a ∷ q → t ≡ true
  answer_so (initial _ _) e = refl
  answer_so {q = q} (differing d) e = absurd (d q e)

  answer_other : {a : Letter} {p : ℕ} {t : Bool} → Begins words w a p t → ((q : Word) → word_at words p ≢ a ∷ q) → t ≡ false
  answer_other {p = p} (initial _ e) d = absurd (d (word_at words (at w.rests p)) e)
  answer_other (differing _) d = refl

  pub begins_so : (a : Letter) (p : ℕ) {q : Word} → p < w.count → word_at words p ≡ a ∷ q → begins_with w a p ≡ true
  begins_so a p h e = answer_so (begins a p h) e

  pub begins_other : (a : Letter) (p : ℕ) → p < w.count → ((q : Word) → word_at words p ≢ a ∷ q) → begins_with w a p ≡ false
  begins_other a p h d = answer_other (begins a p h) d
