-- The generators of a list are read into the tree, one after the other, and at the end the tree is that of the list. Assumes nothing.
use mathlib.Core.Path.{◌≡◌, refl, sym, ap, ◌∙◌}
use mathlib.Core.List.{List, [], ◌∷◌, ◌++◌, nil≢cons}
use Prim.Native.Nat.{ℕ, zero, suc, ◌+◌, ◌-◌, ◌≤◌, ◌<◌}
use native.Mathlib.Nat.{le_refl}
use native.Mathlib.Decide.{ℕ_discrete, dec_lt}
use native.Mathlib.Numerals.{add-one}
use native.Mathlib.Omega.{arith}
use lib.ListN.{length, drop, set, drop_of_length-le}
use lib.Seq.{slice, drop-cons}
use borrow.Author.Count.{below_more}
use Rattle.words.specs.Word.{Letter, R, S, Word}
use Rattle.words.specs.Bytes.{word}
use Rattle.products.specs.Product.{generators, generator}
use Rattle.products.specs.State.{State, nothing, suffix}
use Rattle.trees.specs.Tree.{at, word_at, Child, Tree}
use Rattle.trees.specs.Numbering.{with_suffixes, with_all, numbered}
use Rattle.trees.specs.Building.{Fits}
use Rattle.trees.specs.Ends.{end_before}
use Rattle.trees.specs.Growing.{NodeSlices, node_slices, NodeWords, ChildrenBy, Grown, Grows, Read}
use Rattle.trees.proofs.Lists.{generators_length, generator_at}
use Rattle.trees.proofs.Ends.{fits_ends, end_before_within, end_before_next}
use Rattle.trees.proofs.Behind.{at_same, at_below}
use Rattle.trees.proofs.Numbering.{suffixes_more, suffixes_kept, suffixes_new}

-- ---- node 0 alone

no_child : (x : Letter) → Child ([] ∷ []) x 0 0
no_child x = record { there = λ z. absurd (omega arith); nowhere = λ z q h e. none q h e }
  where
    none : (q : ℕ) → q < 1 → word_at ([] ∷ []) q ≡ x ∷ [] → ⊥
    none zero h e = nil≢cons e
    none (suc q) h e = absurd (omega arith)

no_children : (x : Letter) (children : List ℕ) → at children 0 ≡ 0 → ChildrenBy x ([] ∷ []) children
no_children x children e = record { inside = inside; child = child }
  where
    inside : (p : ℕ) → p < 1 → at children p < 1
    inside zero h = omega (arith, e)
    inside (suc p) h = absurd (omega arith)

    child : (p : ℕ) → p < 1 → Child ([] ∷ []) x p (at children p)
    child zero h = rw e (no_child x)
    child (suc p) h = absurd (omega arith)

module _ (bytes ends : List ℕ) where
  pub read_begins : (letters rests children_r children_s wholes : List ℕ) → at rests 0 ≡ 0 → at children_r 0 ≡ 0 → at children_s 0 ≡ 0
      → Read bytes ends 0 1 (node_slices letters rests children_r children_s) wholes
  read_begins letters rests children_r children_s wholes no_rest no_r no_s =
      record {
        words = [] ∷ [];
        counted = refl;
        grown = record { nodes = nodes; by_a = no_children R children_r no_r; by_b = no_children S children_s no_s };
        others = refl;
        states = states;
        whole_inside = λ j h. absurd (omega arith);
        whole = λ j h. absurd (omega arith);
        few = le_refl 1;
      }
    where
      nodes : NodeWords ([] ∷ []) letters rests
      nodes =
          record {
            some = le_refl 1;
            root = refl;
            root_rest = no_rest;
            rest_earlier = λ p z h. absurd (omega arith);
            node = λ p z h. absurd (omega arith);
            spelled = λ p z h. absurd (omega arith);
            once = λ p q h k e. omega arith;
          }

      states : (p : ℕ) → p < 1 → State (generators bytes ends) (word_at ([] ∷ []) p)
      states zero h = nothing
      states (suc p) h = absurd (omega arith)

  -- ---- one generator more, from the end before it to its own

  module _ {i count : ℕ} {letters rests children_r children_s wholes : List ℕ} (f : Fits bytes ends letters rests children_r children_s wholes)
      (h : i < length ends) (t : Read bytes ends i count (node_slices letters rests children_r children_s) wholes)
      (from end : ℕ) (starts : from ≡ end_before ends i) (stops : end ≡ at ends i) where
    pub generator_rises : from ≤ end
    generator_rises = omega (arith, (fits_ends f i h).rises)

    whole_word : generator (generators bytes ends) i ≡ word (slice from end bytes)
    whole_word = rw (starts, stops) (generator_at bytes ends i h)

    others_next : (words : List Word)
        → with_all (with_suffixes words (word (slice from end bytes))) (drop (i + 1) (generators bytes ends)) ≡ with_all words (drop i (generators bytes ends))
    others_next words =
        let inside : i < length (generators bytes ends) = rw generators_length h in
        rw (add-one, ← whole_word, drop-cons (generators bytes ends) i [] inside)

    pub read_more : {after : NodeSlices} {node count' : ℕ}
        → Grows R S with_suffixes (λ words. word (slice from end bytes)) (end - from) count (node_slices letters rests children_r children_s) after node count'
        → Read bytes ends (i + 1) count' after (set wholes i node)
    read_more {node = node} s =
        let w = word (slice from end bytes) in
        let all = with_suffixes t.words w in
        let more = suffixes_more t.words w in
        let kept = suffixes_kept t.words w in
        let m = s.grew t.words t.counted t.grown in
        let room : i < length wholes = omega (arith, f.room_wholes) in
        record {
          words = all;
          counted = m.counted;
          grown = m.grown;
          others = others_next t.words ∙ t.others;
          states =
              λ p z.
              elim (dec_lt p (length t.words)) [
                | yes old ↦ rw (kept p old) (t.states p old)
                | no new ↦ let (x, is) = suffixes_new t.words w p (omega arith) z in suffix i x (rw generators_length h) (whole_word ∙ is)
              ];
          whole_inside =
              below_more
              (λ (j : ℕ). at (set wholes i node) j < length all)
              i
              (λ j z. rw (at_below wholes i j node z) (omega (arith, t.whole_inside j z, more)))
              (rw (at_same wholes i node room) m.inside);
          whole =
              below_more
              (λ (j : ℕ). word_at all (at (set wholes i node) j) ≡ generator (generators bytes ends) j)
              i
              (λ j z. rw (at_below wholes i j node z) (kept (at wholes j) (t.whole_inside j z) ∙ t.whole j z))
              (rw (at_same wholes i node room) (m.spells ∙ sym whole_word));
          few = rw (end_before_next ends i) (omega (arith, generator_rises, t.few, s.few));
        }

  -- ---- all generators

  -- every suffix of a node's word has a node
  suffix_node : {a b : Letter} {words : List Word} (t : NodeSlices) → Grown a b words t → (x q : Word) (p : ℕ) → p < length words → word_at words p ≡ x ++ q
      → (n : ℕ) × (n < length words) × (word_at words n ≡ q)
  suffix_node t g [] q p h e = (p, h, e)
  suffix_node {words = words} t g (y ∷ x) q p h e =
      elim (ℕ_discrete p 0) [
        | yes z ↦ absurd (nil≢cons (sym g.nodes.root ∙ ap (word_at words) (sym z) ∙ e))
        | no z ↦
            let is = g.nodes.node p (omega arith) h in
            let tail : word_at words (at t.rests p) ≡ x ++ q = cc in
            suffix_node t g x q (at t.rests p) (omega (arith, g.nodes.rest_earlier p (omega arith) h)) tail
      ]

  module _ {letters rests children_r children_s wholes : List ℕ} (f : Fits bytes ends letters rests children_r children_s wholes)
      {count : ℕ} (t : Read bytes ends (length ends) count (node_slices letters rests children_r children_s) wholes) where
    pub few_nodes : count ≤ suc (length bytes)
    few_nodes = omega (arith, t.few, end_before_within f (length ends) (le_refl (length ends)))

    -- no generator is left, so these are all words
    all_words : t.words ≡ numbered (generators bytes ends)
    all_words =
        ap (with_all t.words) (sym (drop_of_length-le (generators bytes ends) {i = length ends} (omega (arith, generators_length bytes ends)))) ∙ t.others

    pub count_nodes : length (numbered (generators bytes ends)) ≡ count
    count_nodes = rw (← all_words) t.counted

    tree_of_words : Tree (generators bytes ends) t.words letters rests children_r children_s wholes
    tree_of_words =
        record {
          shape =
              record {
                some = t.grown.nodes.some;
                room_letters = omega (arith, few_nodes, t.counted, f.room_letters);
                room_rests = omega (arith, few_nodes, t.counted, f.room_rests);
                room_r = omega (arith, few_nodes, t.counted, f.room_r);
                room_s = omega (arith, few_nodes, t.counted, f.room_s);
                rest_earlier = t.grown.nodes.rest_earlier;
                child_r_inside = t.grown.by_a.inside;
                child_s_inside = t.grown.by_b.inside;
                whole_inside = λ j h. t.whole_inside j (omega (arith, f.room_wholes));
              };
          wholes_count = omega (arith, f.room_wholes, generators_length bytes ends);
          root = t.grown.nodes.root;
          node = t.grown.nodes.node;
          spelled = t.grown.nodes.spelled;
          state = t.states;
          node_of = node_of;
          once = t.grown.nodes.once;
          child_r = t.grown.by_a.child;
          child_s = t.grown.by_b.child;
          whole = λ j h. t.whole j (rw (generators_length bytes ends) at h);
        }
      where
        node_of : (q : Word) → State (generators bytes ends) q → (p : ℕ) × (p < length t.words) × (word_at t.words p ≡ q)
        node_of q nothing = (0, t.grown.nodes.some, t.grown.nodes.root)
        node_of q (suffix j x h e) =
            let k : j < length ends = rw (generators_length bytes ends) at h in
            suffix_node (node_slices letters rests children_r children_s) t.grown x q (at wholes j) (t.whole_inside j k) (t.whole j k ∙ e)

    pub read_tree : Tree (generators bytes ends) (numbered (generators bytes ends)) letters rests children_r children_s wholes
    read_tree = rw (← all_words) tree_of_words
