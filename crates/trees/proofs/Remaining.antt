-- What stands behind the nodes remains: at each step, and so over many. Assumes nothing.
use mathlib.Core.Path.{◌≡◌, refl, sym, ap, ◌∙◌}
use mathlib.Core.List.{List, ◌++◌}
use Prim.Native.Nat.{ℕ, ◌+◌, ◌-◌, ◌≤◌, ◌<◌}
use native.Mathlib.Omega.{arith}
use lib.ListN.{length, take, drop, set, take-append-drop}
use lib.Seq.{length-take-le, drop-drop, drop-set-lt, get_or-take, ext_get_or}
use Rattle.trees.specs.Tree.{at}
use Rattle.trees.specs.Growing.{NodeSlices, node_slices, Remains}
use Rattle.trees.proofs.Behind.{at_below}

-- what is alike behind a place is alike behind any later one
pub drop_later : (j k : ℕ) (a b : List ℕ) → j ≤ k → drop j a ≡ drop j b → drop k a ≡ drop k b
drop_later j k a b h e =
    let sum : j + (k - j) ≡ k = omega arith in
    ap (λ (i : ℕ). drop i a) (sym sum) ∙ sym (drop-drop (k - j) j a) ∙ ap (drop (k - j)) e ∙ drop-drop (k - j) j b ∙ ap (λ (i : ℕ). drop i b) sum

-- lists that are alike up to a place and behind it are the same
pub same_parts : (k : ℕ) (a b : List ℕ) → take k a ≡ take k b → drop k a ≡ drop k b → a ≡ b
same_parts k a b front behind =
    sym (take-append-drop k a) ∙ ap (λ (l : List ℕ). l ++ drop k a) front ∙ ap (λ (l : List ℕ). take k b ++ l) behind ∙ take-append-drop k b

pub same_entries : (k : ℕ) (a b : List ℕ) → k ≤ length a → k ≤ length b → ((p : ℕ) → p < k → at a p ≡ at b p) → drop k a ≡ drop k b → a ≡ b
same_entries k a b within within' front =
    same_parts k a b
    (ext_get_or 0 _ _ (length-take-le k a within ∙ sym (length-take-le k b within'))
    (λ p inside.
    let below : p < k = omega (arith, length-take-le k a within) in
    get_or-take k a p 0 below ∙ front p below ∙ sym (get_or-take k b p 0 below)))

pub remains_same : (count : ℕ) (t : NodeSlices) → Remains count t t
remains_same count t = record { letters = refl; rests = refl; children = refl; others = refl; root_letter = refl }

-- two steps, the second with no fewer nodes
pub remains_more : {count count' : ℕ} (before mid after : NodeSlices) → count ≤ count' → Remains count before mid → Remains count' mid after
    → Remains count' before after
remains_more {count} {count'} before mid after h r s =
    record {
      letters = s.letters ∙ drop_later count count' mid.letters before.letters h r.letters;
      rests = s.rests ∙ drop_later count count' mid.rests before.rests h r.rests;
      children = s.children ∙ drop_later count count' mid.children before.children h r.children;
      others = s.others ∙ drop_later count count' mid.others before.others h r.others;
      root_letter = s.root_letter ∙ r.root_letter;
    }

module _ (letters rests children others : List ℕ) where
  -- a node is added, the child of node p
  pub remains_added : (count p y : ℕ) → p < count
      → Remains (count + 1) (node_slices letters rests children others)
      (node_slices (set letters count y) (set rests count p) (set (set children count 0) p count) (set others count 0))
  remains_added count p y inside =
      record {
        letters = drop-set-lt (count + 1) letters count y (omega arith);
        rests = drop-set-lt (count + 1) rests count p (omega arith);
        children =
            drop-set-lt (count + 1) (set children count 0) p count (omega arith) ∙ drop-set-lt (count + 1) children count 0 (omega arith);
        others = drop-set-lt (count + 1) others count 0 (omega arith);
        root_letter = at_below letters count 0 y (omega arith);
      }
