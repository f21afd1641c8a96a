-- A node is added to a tree: a letter in front of the word of a node that has no child by it. Assumes nothing.
use mathlib.Core.Path.{◌≡◌, refl, sym, ap, ◌∙◌}
use mathlib.Core.List.{List, ◌∷◌, nil≢cons}
use Prim.Native.Nat.{ℕ, ◌+◌, ◌<◌}
use native.Mathlib.Decide.{ℕ_discrete}
use native.Mathlib.Omega.{arith}
use lib.ListN.{length, set, length-set}
use Rattle.words.specs.Word.{Letter, R, S, Word}
use Rattle.words.specs.Bytes.{letter, byte}
use Rattle.words.proofs.Bytes.{letter_byte}
use Rattle.trees.specs.Tree.{at, word_at, Child}
use Rattle.trees.specs.Growing.{node_slices, NodeWords, ChildrenBy, Grown, RoomFor}
use Rattle.trees.proofs.Behind.{at_same, at_other, at_below, behind, behind_length, behind_old, behind_new, behind_each}

-- a letter is spelled by its byte, 82 or 83
byte_spelled : (a : Letter) (y : ℕ) → y ≡ byte a → (y ≡ 82 → ⊥) → y ≡ 83
byte_spelled R y e other = absurd (other e)
byte_spelled S y e other = e

not_own_tail : (a : Letter) (w : Word) → w ≡ a ∷ w → ⊥
not_own_tail a w e = omega (arith, ap length e)

-- `words` and the slices are a tree, whose node p has no child by a. The new node has the number `length words`.
module _ {a b : Letter} (differ : a ≡ b → ⊥) (words : List Word) (letters rests children others : List ℕ)
    (g : Grown a b words (node_slices letters rests children others)) (p : ℕ) (inside : p < length words) (missing : at children p ≡ 0) where
  abbrev all : List Word
  all = behind words (a ∷ word_at words p)

  one_more : length all ≡ length words + 1
  one_more = behind_length words (a ∷ word_at words p)

  kept : (q : ℕ) → q < length words → word_at all q ≡ word_at words q
  kept = behind_old words (a ∷ word_at words p)

  last : word_at all (length words) ≡ a ∷ word_at words p
  last = behind_new words (a ∷ word_at words p)

  each : (P : ℕ → Type 0) → ((q : ℕ) → q < length words → P q) → P (length words) → (q : ℕ) → q < length all → P q
  each = behind_each words (a ∷ word_at words p)

  is_new : (q : ℕ) → q < length words → word_at words q ≡ a ∷ word_at words p → ⊥
  is_new q h e = (g.by_a.child p inside).nowhere missing q h e

  -- every node's rest has a node, so no node's word is a letter in front of the new word
  none_longer : (x : Letter) (q : ℕ) → q < length words → word_at words q ≡ x ∷ a ∷ word_at words p → ⊥
  none_longer x q h e =
      elim (ℕ_discrete q 0) [
        | yes z ↦ nil≢cons (sym g.nodes.root ∙ ap (word_at words) (sym z) ∙ e)
        | no z ↦
            let is = g.nodes.node q (omega arith) h in
            let tail : word_at words (at rests q) ≡ a ∷ word_at words p = cc in
            is_new (at rests q) (omega (arith, g.nodes.rest_earlier q (omega arith) h)) tail
      ]

  -- ---- the nodes

  once_more : (q : ℕ) → q < length all → (r : ℕ) → r < length all → word_at all q ≡ word_at all r → q ≡ r
  once_more =
      each
      (λ (q : ℕ). (r : ℕ) → r < length all → word_at all q ≡ word_at all r → q ≡ r)
      (λ q h.
      each
      (λ (r : ℕ). word_at all q ≡ word_at all r → q ≡ r)
      (λ r k e. g.nodes.once q r h k (sym (kept q h) ∙ e ∙ kept r k))
      (λ e. absurd (is_new q h (sym (kept q h) ∙ e ∙ last))))
      (each
      (λ (r : ℕ). word_at all (length words) ≡ word_at all r → length words ≡ r)
      (λ r k e. absurd (is_new r k (sym (kept r k) ∙ sym e ∙ last)))
      (λ e. refl))

  module _ (y : ℕ) (is : y ≡ byte a) (in_letters : length words < length letters) (in_rests : length words < length rests) where
    abbrev letters' : List ℕ
    letters' = set letters (length words) y

    abbrev rests' : List ℕ
    rests' = set rests (length words) p

    last_letter : at letters' (length words) ≡ y
    last_letter = at_same letters (length words) y in_letters

    last_rest : at rests' (length words) ≡ p
    last_rest = at_same rests (length words) p in_rests

    node_more : (q : ℕ) → q < length all → 0 < q → word_at all q ≡ letter (at letters' q) ∷ word_at all (at rests' q)
    node_more =
        each
        (λ (q : ℕ). 0 < q → word_at all q ≡ letter (at letters' q) ∷ word_at all (at rests' q))
        (λ q h z.
        let rest = g.nodes.rest_earlier q z h in
        rw (at_below letters (length words) q y h, at_below rests (length words) q p h, kept q h, kept (at rests q) (omega arith)) (g.nodes.node q z h))
        (λ z. last ∙ rw (last_letter, last_rest, kept p inside, is, letter_byte a))

    nodes_more : NodeWords all letters' rests'
    nodes_more =
        record {
          some = omega (arith, one_more);
          root = kept 0 g.nodes.some ∙ g.nodes.root;
          root_rest = at_below rests (length words) 0 p g.nodes.some ∙ g.nodes.root_rest;
          rest_earlier =
              λ q z h.
              each
              (λ (q : ℕ). 0 < q → at rests' q < q)
              (λ q h z. rw (at_below rests (length words) q p h) (g.nodes.rest_earlier q z h))
              (λ z. rw last_rest inside)
              q
              h
              z;
          node = λ q z h. node_more q h z;
          spelled =
              λ q z h.
              each
              (λ (q : ℕ). 0 < q → (at letters' q ≡ 82 → ⊥) → at letters' q ≡ 83)
              (λ q h z. rw (at_below letters (length words) q y h) (g.nodes.spelled q z h))
              (λ z. rw last_letter (byte_spelled a y is))
              q
              h
              z;
          once = λ q r h k. once_more q h r k;
        }

  -- ---- the children

  child_kept : (x : Letter) (q c : ℕ) → q < length words → c < length words → (x ≡ a → q ≡ p → ⊥) → Child words x q c → Child all x q c
  child_kept x q c h k other d =
      record {
        there = λ z. kept c k ∙ d.there z ∙ ap (λ (w : Word). x ∷ w) (sym (kept q h));
        nowhere =
            λ z.
            each
            (λ (r : ℕ). word_at all r ≡ x ∷ word_at all q → ⊥)
            (λ r l e. d.nowhere z r l (sym (kept r l) ∙ e ∙ ap (λ (w : Word). x ∷ w) (kept q h)))
            (λ e. clash (sym last ∙ e ∙ ap (λ (w : Word). x ∷ w) (kept q h)));
      }
    where
      clash : a ∷ word_at words p ≡ x ∷ word_at words q → ⊥
      clash e =
          let first : x ≡ a = cc in
          let tail : word_at words q ≡ word_at words p = cc in
          other first (g.nodes.once q p h inside tail)

  child_none : (x : Letter) → Child all x (length words) 0
  child_none x =
      record {
        there = λ z. absurd (omega arith);
        nowhere =
            λ z.
            each
            (λ (r : ℕ). word_at all r ≡ x ∷ word_at all (length words) → ⊥)
            (λ r l e. none_longer x r l (sym (kept r l) ∙ e ∙ ap (λ (w : Word). x ∷ w) last))
            (not_own_tail x (word_at all (length words)));
      }

  child_new : Child all a p (length words)
  child_new =
      record { there = λ z. last ∙ ap (λ (w : Word). a ∷ w) (sym (kept p inside)); nowhere = λ z. absurd (omega arith) }

  -- node q's child by x, as the slice has it
  abbrev ChildAt : Letter → List ℕ → ℕ → Type 0
  ChildAt x slice q = (at slice q < length all) × Child all x q (at slice q)

  child_at : (x : Letter) (slice : List ℕ) (q c : ℕ) → at slice q ≡ c → c < length words + 1 → Child all x q c → ChildAt x slice q
  child_at x slice q c e h d = rw e (omega (arith, one_more), d)

  children_more : (x : Letter) (slice : List ℕ) → ((q : ℕ) → q < length words → ChildAt x slice q) → ChildAt x slice (length words) → ChildrenBy x all slice
  children_more x slice old new =
      record { inside = λ q h. (each (ChildAt x slice) old new q h).0; child = λ q h. (each (ChildAt x slice) old new q h).1 }

  by_a_more : length words < length children → ChildrenBy a all (set (set children (length words) 0) p (length words))
  by_a_more room =
      children_more
      a
      slice
      (λ q h.
      elim (ℕ_discrete q p) [
        | yes z ↦ rw z (child_at a slice p (length words) (at_same cleared p (length words) (rw length-set (omega arith))) (omega arith) child_new)
        | no z ↦
            let old = g.by_a.inside q h in
            child_at
            a
            slice
            q
            (at children q)
            (at_other cleared p q (length words) z ∙ at_below children (length words) q 0 h)
            (omega arith)
            (child_kept a q (at children q) h old (λ _. z) (g.by_a.child q h))
      ])
      (child_at
      a
      slice
      (length words)
      0
      (at_other cleared p (length words) (length words) (omega arith) ∙ at_same children (length words) 0 room)
      (omega arith)
      (child_none a))
    where
      cleared : List ℕ
      cleared = set children (length words) 0

      slice : List ℕ
      slice = set cleared p (length words)

  by_b_more : length words < length others → ChildrenBy b all (set others (length words) 0)
  by_b_more room =
      children_more
      b
      slice
      (λ q h.
      let old = g.by_b.inside q h in
      child_at
      b
      slice
      q
      (at others q)
      (at_below others (length words) q 0 h)
      (omega arith)
      (child_kept b q (at others q) h old (λ f _. differ (sym f)) (g.by_b.child q h)))
      (child_at b slice (length words) 0 (at_same others (length words) 0 room) (omega arith) (child_none b))
    where
      slice : List ℕ
      slice = set others (length words) 0

  pub grown_more : (y : ℕ) → y ≡ byte a → RoomFor (length words + 1) (node_slices letters rests children others)
      → Grown a b all (node_slices (set letters (length words) y) (set rests (length words) p) (set (set children (length words) 0) p (length words))
      (set others (length words) 0))
  grown_more y is room =
      record {
        nodes = nodes_more y is (omega (arith, room.in_letters)) (omega (arith, room.in_rests));
        by_a = by_a_more (omega (arith, room.in_children));
        by_b = by_b_more (omega (arith, room.in_others));
      }
