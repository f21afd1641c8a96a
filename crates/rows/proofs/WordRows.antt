-- The table and the rows, read at words: the numbers of the nodes are put away, and what the numbers promise is what the products ask.
--     table_exact    the table at words is exact
--     rows_rounds    the rows at words are rounds over what is read
-- Assumes a tree of the generators; the one its exact table, the other the rows of the target.
use mathlib.Core.Bool.{Bool, true, false}
use mathlib.Core.Logic.{◌⊎◌, inl, inr}
use mathlib.Core.Path.{◌≡◌, refl, sym, ap, subst, subst₂, ◌∙◌}
use mathlib.Core.List.{List, [], ◌∷◌}
use Prim.Native.Nat.{ℕ, zero, suc, ◌+◌, ◌<◌}
use native.Mathlib.Nat.{not-suc-le-zero, le_of_suc-le-suc}
use native.Mathlib.Decide.{ℕ_discrete}
use native.Mathlib.Omega.{arith}
use lib.Dec.{eqb}
use lib.ListN.{length, get_or, length-map}
use borrow.Author.Tests.{eq-eqb, ne_eqb}
use Rattle.words.specs.Word.{Letter, R, S, Word}
use Rattle.refusals.specs.Telling.{pick}
use Rattle.words.specs.Bytes.{letter, word}
use Rattle.products.specs.State.{State, LeastBy}
use Rattle.products.proofs.States.{state_tail}
use Rattle.products.proofs.Exact.{ExactBy}
use Rattle.products.proofs.Verdict.{AtLeast, Rounds}
use Rattle.trees.specs.Tree.{at, word_at, Child, Tree}
use Rattle.trees.proofs.Nodes.{node_number, node_number_at, state_number}
use Rattle.tables.specs.Rules.{place}
use Rattle.rows.specs.Rows.{read_node, read_entry, PathRows}

-- the letter at a place of a word that bytes spell
pub letter_at : (bs : List ℕ) (i : ℕ) → i < length bs → get_or (word bs) i R ≡ letter (at bs i)
letter_at [] i h = absurd (not-suc-le-zero h)
letter_at (b ∷ bs) zero h = refl
letter_at (b ∷ bs) (suc i) h = letter_at bs i (le_of_suc-le-suc h)

-- the table's entry from u to v, the entry of row i at q, and what is read there
abbrev pub table_at : List Word → ℕ → List ℕ → Word → Word → ℕ
table_at words count table u v = at table (place count (node_number words u) (node_number words v))

abbrev pub row_at : List Word → ℕ → List ℕ → ℕ → Word → ℕ
row_at words count rows i q = at rows (place count i (node_number words q))

module _ (words : List Word) (count n : ℕ) (children_r children_s target table rows : List ℕ) where
  abbrev pub read_word : ℕ → Word → ℕ
  read_word i q = read_entry count n children_r children_s target table rows i (node_number words q)

module _ (gens words : List Word) (count n : ℕ) (letters rests children_r children_s wholes table : List ℕ)
    (tree : Tree gens words letters rests children_r children_s wholes) (size : length words ≡ count) where
  -- the empty word is node 0
  pub root_number : node_number words [] ≡ 0
  root_number = ap (node_number words) (sym tree.root) ∙ node_number_at tree 0 tree.shape.some

  -- a state's number is a node's
  number_inside : (q : Word) → State gens q → node_number words q < count
  number_inside q s = omega (arith, (state_number tree q s).0)

  pub table_exact : (weight : List ℕ → ℕ)
      → ((p q : ℕ) → p < count → q < count → LeastBy gens weight n (word_at words p) (word_at words q) (at table (place count p q)))
      → ExactBy gens weight n (table_at words count table)
  table_exact weight exact u v s t =
      subst₂ (λ (x y : Word). LeastBy gens weight n x y (table_at words count table u v)) (state_number tree u s).1 (state_number tree v t).1
      (exact (node_number words u) (node_number words v) (number_inside u s) (number_inside v t))

  module _ (target rows : List ℕ) (path : PathRows count n children_r children_s target table rows (length target)) where
    abbrev node : ℕ → ℕ → ℕ
    node = read_node count n children_r children_s target table rows

    abbrev entry : ℕ → ℕ → ℕ
    entry = read_entry count n children_r children_s target table rows

    -- the node that a letter leads to is the child by that letter
    child : (i : ℕ) (a : Letter) (p : ℕ) → i < length target → get_or (word target) i R ≡ a → p < count → Child words a p (node i p)
    child i a p h e k = by (eqb (at target i) 82) (sym (letter_at target i h) ∙ e)
      where
        by : (t : Bool) → pick t R S ≡ a → Child words a p (at (pick t children_r children_s) p)
        by true f = subst (λ (b : Letter). Child words b p (at children_r p)) f (tree.child_r p (omega arith))
        by false f = subst (λ (b : Letter). Child words b p (at children_s p)) f (tree.child_s p (omega arith))

    node_inside : (i p : ℕ) → p < count → node i p < length words
    node_inside i p k = by (eqb (at target i) 82)
      where
        by : (t : Bool) → at (pick t children_r children_s) p < length words
        by true = tree.shape.child_r_inside p (omega arith)
        by false = tree.shape.child_s_inside p (omega arith)

    -- where a child is there, what is read is the row's entry at it
    entry_there : (i p : ℕ) → 0 < node i p → entry i p ≡ at rows (place count i (node i p))
    entry_there i p z = rw (ne_eqb (node i p) 0 (λ e. omega arith))

    entry_nowhere : (i p : ℕ) → node i p ≡ 0 → entry i p ≡ n + 1
    entry_nowhere i p z = rw (eq-eqb (node i p) 0 z)

    -- the word of the child at a state's number
    child_word : (i : ℕ) (a : Letter) (q : Word) → i < length target → get_or (word target) i R ≡ a → State gens q
        → 0 < node i (node_number words q) → word_at words (node i (node_number words q)) ≡ a ∷ q
    child_word i a q h e s z =
        (child i a (node_number words q) h e (number_inside q s)).there z ∙ ap (λ (x : Word). a ∷ x) (state_number tree q s).1

    -- a state with the letter in front is that child
    child_number : (i : ℕ) (a : Letter) (q : Word) → i < length target → get_or (word target) i R ≡ a → State gens (a ∷ q)
        → (0 < node i (node_number words q)) × (node i (node_number words q) ≡ node_number words (a ∷ q))
    child_number i a q h e s =
        let t = state_tail gens s in
        let c = node i (node_number words q) in
        let found = state_number tree (a ∷ q) s in
        let here = number_inside q t in
        elim (ℕ_discrete c 0) [
          | yes z ↦
              let spelled = found.1 ∙ ap (λ (x : Word). a ∷ x) (sym (state_number tree q t).1) in
              absurd ((child i a (node_number words q) h e here).nowhere z (node_number words (a ∷ q)) found.0 spelled)
          | no z ↦
              let itself = node_number_at tree c (node_inside i (node_number words q) here) in
              (omega arith, sym itself ∙ ap (node_number words) (child_word i a q h e t (omega arith)))
        ]

    pub rows_rounds : Rounds gens n (table_at words count table) (word target) (row_at words count rows)
        (read_word words count n children_r children_s target table rows)
    rows_rounds =
        record {
          first = λ q s.
              path.start (node_number words q) (number_inside q s) ∙ ap (λ (p : ℕ). at table (place count p (node_number words q))) (sym root_number);
          read_is = λ i a q h e s.
              let (z, same) = child_number i a q (here h) e s in
              entry_there i (node_number words q) z ∙ ap (λ (p : ℕ). at rows (place count i p)) same;
          read_some = λ i a q h e s k.
              elim (ℕ_discrete (node i (node_number words q)) 0) [
                | yes z ↦ absurd (omega (arith, entry_nowhere i (node_number words q) z))
                | no z ↦
                    subst (State gens) (child_word i a q (here h) e s (omega arith))
                    (tree.state (node i (node_number words q)) (node_inside i (node_number words q) (number_inside q s)))
              ];
          read = λ i q h s k. path.low i (node_number words q) (here h) (number_inside q s);
          round = λ i v q h s t k. path.round i (node_number words v) (node_number words q) (here h) (number_inside v s) (number_inside q t);
          attained = λ i q h s k. at_least i q (path.attained i (node_number words q) (here h) (number_inside q s));
        }
      where
        here : {i : ℕ} → i < length (word target) → i < length target
        here h = omega (arith, length-map target letter)

        at_least : (i : ℕ) (q : Word) {x : ℕ}
            → (x ≡ entry i (node_number words q)) ⊎ ((v : ℕ) × (v < count) × (x ≡ entry i v + at table (place count v (node_number words q))))
            → AtLeast gens (table_at words count table) (read_word words count n children_r children_s target table rows i) q x
        at_least i q (inl e) = inl (omega arith)
        at_least i q (inr (v, h, e)) =
            let same = ap (λ (p : ℕ). entry i p + at table (place count p (node_number words q))) (node_number_at tree v (omega arith)) in
            inr (word_at words v, tree.state v (omega arith), omega arith)
