-- A tree grows: by one node or none at a step, and by a word's suffixes when the word is read. Assumes nothing.
use mathlib.Core.Path.{◌≡◌, refl, ap, subst, ◌∙◌}
use mathlib.Core.List.{List, ◌∷◌}
use Prim.Native.Nat.{ℕ, suc, ◌+◌, ◌-◌, ◌≤◌, ◌<◌}
use native.Mathlib.Nat.{le_refl}
use native.Mathlib.Omega.{arith}
use lib.ListN.{length, set}
use lib.Seq.{slice, slice-cons}
use Rattle.words.specs.Word.{Letter, R, S, Word}
use Rattle.words.specs.Bytes.{letter, byte, word}
use Rattle.trees.specs.Tree.{at, word_at}
use Rattle.trees.specs.Numbering.{with_word, with_suffixes}
use Rattle.trees.specs.Growing.{NodeSlices, node_slices, Grown, RoomFor, Remains, Grew, Grows}
use Rattle.trees.proofs.Behind.{behind_length, behind_new}
use Rattle.trees.proofs.Numbering.{with_there, with_new}
use Rattle.trees.proofs.Remaining.{remains_same, remains_more, remains_added}
use Rattle.trees.proofs.Adding.{grown_more}

-- ---- nothing is added

stays : {a b : Letter} (words : List Word) (t : NodeSlices) (goal : Word) (node : ℕ)
    → Grown a b words t → node < length words → word_at words node ≡ goal → Grew a b words goal t node (length words)
stays words t goal node g inside spells = record { counted = refl; grown = g; inside = inside; spells = spells }

-- ---- one step, from node p to its child by a

module _ {a b : Letter} (differ : a ≡ b → ⊥) (letters rests children others : List ℕ) (p count : ℕ) (inside : p < count) where
  abbrev Steps : NodeSlices → ℕ → ℕ → Type 0
  Steps after node count' = Grows a b with_word (λ words. a ∷ word_at words p) 1 count (node_slices letters rests children others) after node count'

  pub child_found : 0 < at children p → Steps (node_slices letters rests children others) (at children p) count
  child_found there =
      record {
        no_fewer = le_refl count;
        few = omega arith;
        remains = remains_same count (node_slices letters rests children others);
        grew =
            λ words e g.
            let child = g.by_a.inside p (omega arith) in
            let spells = (g.by_a.child p (omega arith)).there there in
            rw (← e, with_there words (a ∷ word_at words p) (at children p) child spells)
            (stays words (node_slices letters rests children others) (a ∷ word_at words p) (at children p) g child spells);
      }

  pub child_made : (y : ℕ) → at children p ≡ 0 → y ≡ byte a → RoomFor (count + 1) (node_slices letters rests children others)
      → Steps (node_slices (set letters count y) (set rests count p) (set (set children count 0) p count) (set others count 0)) count (count + 1)
  child_made y missing is room =
      record {
        no_fewer = omega arith;
        few = le_refl (count + 1);
        remains = remains_added letters rests children others count p y inside;
        grew =
            λ words e g.
            let w : Word = a ∷ word_at words p in
            rw (← e, with_new words w ((g.by_a.child p (omega arith)).nowhere missing))
            (record {
              counted = behind_length words w;
              grown = grown_more differ words letters rests children others g p (omega arith) missing y is (rw e room);
              inside = omega (arith, behind_length words w);
              spells = behind_new words w;
            });
      }

-- ---- the two letters change places

pub r_not_s : R ≡ S → ⊥
r_not_s e = let z : ◌≡◌ {A = ℕ} 0 1 = cc in omega arith

abbrev pub swapped : NodeSlices → NodeSlices
swapped t = node_slices t.letters t.rests t.others t.children

grown_swap : {a b : Letter} {words : List Word} (t : NodeSlices) → Grown a b words t → Grown b a words (swapped t)
grown_swap t g = record { nodes = g.nodes; by_a = g.by_b; by_b = g.by_a }

remains_swap : {count : ℕ} {before after : NodeSlices} → Remains count before after → Remains count (swapped before) (swapped after)
remains_swap r = record { letters = r.letters; rests = r.rests; children = r.others; others = r.children; root_letter = r.root_letter }

pub grows_swap : {a b : Letter} {into : List Word → Word → List Word} {goal : List Word → Word} {more count : ℕ} (before after : NodeSlices)
    {node count' : ℕ} → Grows a b into goal more count before after node count' → Grows b a into goal more count (swapped before) (swapped after) node count'
grows_swap before after s =
    record {
      no_fewer = s.no_fewer;
      few = s.few;
      remains = remains_swap s.remains;
      grew =
          λ words e g.
          let m = s.grew words e (grown_swap (swapped before) g) in
          record { counted = m.counted; grown = grown_swap after m.grown; inside = m.inside; spells = m.spells };
    }

-- ---- many steps: the bytes from `end` down to i are read

module _ (bytes : List ℕ) (end count : ℕ) (before : NodeSlices) where
  abbrev pub ReadTo : ℕ → NodeSlices → ℕ → ℕ → Type 0
  ReadTo i after node count' = Grows R S with_suffixes (λ words. word (slice i end bytes)) (end - i) count before after node count'

  module _ (within : end ≤ length bytes) (i : ℕ) (some : 0 < i) (left : i ≤ end) where
    abbrev next : Letter
    next = letter (at bytes (i - 1))

    longer : word (slice (i - 1) end bytes) ≡ next ∷ word (slice i end bytes)
    longer =
        let back : suc (i - 1) ≡ i = omega arith in
        ap word (slice-cons (i - 1) end bytes 0 (omega arith) within) ∙ ap (λ (j : ℕ). next ∷ word (slice j end bytes)) back

    pub read_one : {mid after : NodeSlices} {node count' node' count'' : ℕ}
        → ReadTo i mid node count' → Grows R S with_word (λ words. next ∷ word_at words node) 1 count' mid after node' count''
        → ReadTo (i - 1) after node' count''
    read_one {mid} {after} {node' = node'} {count'' = count''} s t =
        record {
          no_fewer = omega (arith, s.no_fewer, t.no_fewer);
          few = omega (arith, s.few, t.few);
          remains = remains_more before mid after t.no_fewer s.remains t.remains;
          grew =
              λ words e g.
              let shorter : List Word = with_suffixes words (word (slice i end bytes)) in
              let m = s.grew words e g in
              rw longer
              (subst (λ (w : Word). Grew R S (with_word shorter (next ∷ w)) (next ∷ w) after node' count'') m.spells
              (t.grew shorter m.counted m.grown));
        }
