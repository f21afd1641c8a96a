-- The nodes of a tree of suffixes: each has one number, begins with its letter, and is found among its rest's children. Assumes nothing.
use mathlib.Core.Bool.{Bool, true, false}
use mathlib.Core.Path.{◌≡◌, refl, sym, ap, ◌∙◌}
use mathlib.Core.List.{List, [], ◌∷◌, nil≢cons}
use Prim.Native.Nat.{ℕ, zero, suc, ◌<◌, suc-le-suc}
use native.Mathlib.Nat.{not-suc-le-zero, le_of_suc-le-suc}
use native.Mathlib.Decide.{ℕ_discrete}
use native.Mathlib.Omega.{arith}
use lib.ListN.{length}
use Rattle.words.specs.Word.{Letter, R, S, Word}
use Rattle.words.specs.Bytes.{letter, byte}
use Rattle.refusals.specs.Telling.{pick}
use Rattle.words.proofs.Bytes.{letter_byte}
use Rattle.products.specs.State.{State}
use Rattle.trees.specs.Tree.{at, word_at, Child, Tree}
use Rattle.trees.specs.Numbering.{same_word}
use Rattle.trees.proofs.Numbering.{same_word_self, same_word_true}

-- ---- the number of a word

-- the first place of the word in the list, or the list's length where it has none
abbrev pub node_number : List Word → Word → ℕ
node_number [] q = 0
node_number (w ∷ words) q = pick (same_word w q) 0 (suc (node_number words q))

abbrev Found : List Word → Word → Type 0
Found words q = (node_number words q < length words) × (word_at words (node_number words q) ≡ q)

found : (words : List Word) (q : Word) (p : ℕ) → p < length words → word_at words p ≡ q → Found words q
found [] q p h e = absurd (not-suc-le-zero h)
found (w ∷ words) q zero h e =
    rw (← e, same_word_self w) (omega arith, refl)
found (w ∷ words) q (suc p) h e = by (same_word w q) refl (found words q p (le_of_suc-le-suc h) e)
  where
    by : (t : Bool) → same_word w q ≡ t → Found words q → Found (w ∷ words) q
    by true s f = rw s (omega arith, same_word_true w q s)
    by false s f = rw s (suc-le-suc f.0, f.1)

-- ---- laws of a tree

module _ {gens words : List Word} {letters rests children_r children_s wholes : List ℕ} (t : Tree gens words letters rests children_r children_s wholes) where
  pub state_number : (q : Word) → State gens q → (node_number words q < length words) × (word_at words (node_number words q) ≡ q)
  state_number q s = let n = t.node_of q s in found words q n.0 n.1 n.2

  pub node_number_at : (p : ℕ) → p < length words → node_number words (word_at words p) ≡ p
  node_number_at p h = let f = found words (word_at words p) p h refl in t.once _ p f.0 h f.1

  pub is_letter : (a : Letter) (p : ℕ) → 0 < p → p < length words → at letters p ≡ byte a → word_at words p ≡ a ∷ word_at words (at rests p)
  is_letter a p z h e =
      t.node p z h ∙ ap (λ (x : Letter). x ∷ word_at words (at rests p)) (ap letter e ∙ letter_byte a)

  -- the letter's byte, from the letter
  pub byte_of : (a : Letter) (p : ℕ) → 0 < p → p < length words → letter (at letters p) ≡ a → at letters p ≡ byte a
  byte_of a p z h e =
      elim (ℕ_discrete (at letters p) 82) [
        | yes r ↦ r ∙ ap byte (sym (ap letter r) ∙ e)
        | no n ↦ let s = t.spelled p z h n in s ∙ ap byte (sym (ap letter s) ∙ e)
      ]

  pub begins_letter : (a : Letter) (p : ℕ) → p < length words → (q : Word) → word_at words p ≡ a ∷ q
      → (0 < p) × (at letters p ≡ byte a) × (word_at words (at rests p) ≡ q)
  begins_letter a p h q e =
      elim (ℕ_discrete p 0) [
        | yes z ↦ absurd (nil≢cons (sym t.root ∙ ap (word_at words) (sym z) ∙ e))
        | no z ↦
            let is = t.node p (omega arith) h in
            let first : letter (at letters p) ≡ a = cc in
            let tail : word_at words (at rests p) ≡ q = cc in
            (omega arith, byte_of a p (omega arith) h first, tail)
      ]

  -- ---- children, by either letter

  child_node : (a : Letter) (p c : ℕ) → p < length words → 0 < c → c < length words → Child words a p c → (at letters c ≡ byte a) × (at rests c ≡ p)
  child_node a p c h z k d =
      let b = begins_letter a c k (word_at words p) (d.there z) in
      (b.1, t.once (at rests c) p (omega (arith, t.shape.rest_earlier c z k)) h b.2)

  child_found : (a : Letter) (c k : ℕ) → 0 < c → c < length words → at letters c ≡ byte a → k < length words → Child words a (at rests c) k → k ≡ c
  child_found a c k z h e i d =
      elim (ℕ_discrete k 0) [
        | yes none ↦ absurd (d.nowhere none c h (is_letter a c z h e))
        | no some ↦ t.once k c i h (d.there (omega arith) ∙ sym (is_letter a c z h e))
      ]

  pub child_r_node : (p : ℕ) → p < length words → 0 < at children_r p → (at letters (at children_r p) ≡ 82) × (at rests (at children_r p) ≡ p)
  child_r_node p h z = child_node R p (at children_r p) h z (t.shape.child_r_inside p h) (t.child_r p h)

  pub child_s_node : (p : ℕ) → p < length words → 0 < at children_s p → (at letters (at children_s p) ≡ 83) × (at rests (at children_s p) ≡ p)
  child_s_node p h z = child_node S p (at children_s p) h z (t.shape.child_s_inside p h) (t.child_s p h)

  rest_inside : (c : ℕ) → 0 < c → c < length words → at rests c < length words
  rest_inside c z h = omega (arith, t.shape.rest_earlier c z h)

  pub child_r_found : (c : ℕ) → 0 < c → c < length words → at letters c ≡ 82 → at children_r (at rests c) ≡ c
  child_r_found c z h e =
      child_found R c _ z h e (t.shape.child_r_inside _ (rest_inside c z h)) (t.child_r (at rests c) (rest_inside c z h))

  pub child_s_found : (c : ℕ) → 0 < c → c < length words → at letters c ≡ 83 → at children_s (at rests c) ≡ c
  child_s_found c z h e =
      child_found S c _ z h e (t.shape.child_s_inside _ (rest_inside c z h)) (t.child_s (at rests c) (rest_inside c z h))
