-- What `build` promises leaves no choice: the words of the nodes fix the slices of a tree, but for node 0's letter and rest and what stands behind the
-- nodes, and those are promised too. Assumes nothing.
use mathlib.Core.Path.{◌≡◌, refl, sym, ap, subst, ◌∙◌}
use mathlib.Core.List.{List}
use Prim.Native.Nat.{ℕ, zero, suc, ◌<◌}
use native.Mathlib.Decide.{ℕ_discrete}
use native.Mathlib.Omega.{arith}
use lib.ListN.{length}
use lib.Seq.{ext_get_or}
use Rattle.words.specs.Word.{Letter, R, S, Word}
use Rattle.words.specs.Bytes.{letter}
use Rattle.products.specs.Product.{generators, Factor}
use Rattle.std.specs.Prelude.{Result, Ok, Err}
use Rattle.trees.specs.declared.Unfit.{Unfit}
use Rattle.trees.specs.Tree.{at, word_at, Child, Tree}
use Rattle.trees.specs.Numbering.{numbered}
use Rattle.trees.specs.Building.{Slices, BuildsTree, Builds}
use Rattle.trees.proofs.Nodes.{byte_of}
use Rattle.trees.proofs.Remaining.{same_entries}

module _ {gens words : List Word} {letters rests children_r children_s wholes letters' rests' children_r' children_s' wholes' : List ℕ}
    (t : Tree gens words letters rests children_r children_s wholes) (t' : Tree gens words letters' rests' children_r' children_s' wholes') where
  pub rest_unique : (p : ℕ) → 0 < p → p < length words → at rests p ≡ at rests' p
  rest_unique p z h =
      let is = t.node p z h in
      let is' = t'.node p z h in
      let tail : word_at words (at rests p) ≡ word_at words (at rests' p) = cc in
      t.once (at rests p) (at rests' p) (omega (arith, t.shape.rest_earlier p z h)) (omega (arith, t'.shape.rest_earlier p z h)) tail

  pub letter_unique : (p : ℕ) → 0 < p → p < length words → at letters p ≡ at letters' p
  letter_unique p z h =
      let is = t.node p z h in
      let is' = t'.node p z h in
      let first : letter (at letters p) ≡ letter (at letters' p) = cc in
      byte_of t (letter (at letters' p)) p z h first ∙ sym (byte_of t' (letter (at letters' p)) p z h refl)

  child_unique : (a : Letter) (p c c' : ℕ) → c < length words → c' < length words → Child words a p c → Child words a p c' → c ≡ c'
  child_unique a p c c' h h' d d' =
      elim (ℕ_discrete c 0) [
        | yes none ↦
            elim (ℕ_discrete c' 0) [
              | yes none' ↦ none ∙ sym none'
              | no some' ↦ absurd (d.nowhere none c' h' (d'.there (omega arith)))
            ]
        | no some ↦
            elim (ℕ_discrete c' 0) [
              | yes none' ↦ absurd (d'.nowhere none' c h (d.there (omega arith)))
              | no some' ↦ t.once c c' h h' (d.there (omega arith) ∙ sym (d'.there (omega arith)))
            ]
      ]

  pub child_r_unique : (p : ℕ) → p < length words → at children_r p ≡ at children_r' p
  child_r_unique p h = child_unique R p _ _ (t.shape.child_r_inside p h) (t'.shape.child_r_inside p h) (t.child_r p h) (t'.child_r p h)

  pub child_s_unique : (p : ℕ) → p < length words → at children_s p ≡ at children_s' p
  child_s_unique p h = child_unique S p _ _ (t.shape.child_s_inside p h) (t'.shape.child_s_inside p h) (t.child_s p h) (t'.child_s p h)

  pub whole_unique : (j : ℕ) → Factor gens j → at wholes j ≡ at wholes' j
  whole_unique j h =
      t.once _ _ (t.shape.whole_inside j (omega (arith, t.wholes_count))) (t'.shape.whole_inside j (omega (arith, t'.wholes_count)))
      (t.whole j h ∙ sym (t'.whole j h))

-- ---- what `build` promises

slices_same : {a b : Slices} → a.letters ≡ b.letters → a.rests ≡ b.rests → a.children_r ≡ b.children_r → a.children_s ≡ b.children_s
    → a.wholes ≡ b.wholes → a ≡ b
slices_same l r c d w = λ i. record { letters = l i; rests = r i; children_r = c i; children_s = d i; wholes = w i }

module _ {bytes ends : List ℕ} {before after after' : Slices} {count : ℕ} (b : BuildsTree bytes ends before after count)
    (b' : BuildsTree bytes ends before after' count) where
  tree_unique : after ≡ after'
  tree_unique =
      let t = b.tree in
      let t' = b'.tree in
      let shape = t.shape in
      let shape' = t'.shape in
      let counted = b.counted in
      let inside : (p : ℕ) → p < count → p < length (numbered (generators bytes ends)) = λ p h. omega arith in
      slices_same
      (same_entries count _ _ (omega (arith, shape.room_letters)) (omega (arith, shape'.room_letters))
      (root after.letters after'.letters (b.remains.root_letter ∙ sym b'.remains.root_letter)
      (λ p positive h. letter_unique t t' p positive (inside p h)))
      (b.remains.letters ∙ sym b'.remains.letters))
      (same_entries count _ _ (omega (arith, shape.room_rests)) (omega (arith, shape'.room_rests))
      (root after.rests after'.rests (b.root_rest ∙ sym b'.root_rest) (λ p positive h. rest_unique t t' p positive (inside p h)))
      (b.remains.rests ∙ sym b'.remains.rests))
      (same_entries count _ _ (omega (arith, shape.room_r)) (omega (arith, shape'.room_r)) (λ p h. child_r_unique t t' p (inside p h))
      (b.remains.children ∙ sym b'.remains.children))
      (same_entries count _ _ (omega (arith, shape.room_s)) (omega (arith, shape'.room_s)) (λ p h. child_s_unique t t' p (inside p h))
      (b.remains.others ∙ sym b'.remains.others))
      (ext_get_or 0 _ _ (t.wholes_count ∙ sym t'.wholes_count) (λ j h. whole_unique t t' j (omega (arith, t.wholes_count))))
    where
      root : (l l' : List ℕ) → at l 0 ≡ at l' 0 → ((p : ℕ) → 0 < p → p < count → at l p ≡ at l' p) → (p : ℕ) → p < count → at l p ≡ at l' p
      root l l' first others zero h = first
      root l l' first others (suc p) h = others (suc p) (omega arith) h

-- Two outcomes that meet the contract are one: the answer, and all five slices in full.
pub builds_unique : (bytes ends : List ℕ) (before after after' : Slices) (r r' : Result ℕ Unfit)
    → Builds bytes ends before after r → Builds bytes ends before after' r' → (r ≡ r') × (after ≡ after')
builds_unique bytes ends before after after' (Ok count) (Ok count') b b' =
    let same : count ≡ count' = sym b.counted ∙ b'.counted in
    (ap Ok same, tree_unique b (subst (BuildsTree bytes ends before after') (sym same) b'))
builds_unique bytes ends before after after' (Ok count) (Err _) b b' = absurd (b'.0 b.fits)
builds_unique bytes ends before after after' (Err _) (Ok count) b b' = absurd (b.0 b'.fits)
builds_unique bytes ends before after after' (Err _) (Err _) b b' = (refl, b.1 ∙ sym b'.1)
