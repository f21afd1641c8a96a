-- A full table, read at the nodes of words, is closed under the rules on words. Assumes nothing.
use mathlib.Core.Path.{◌≡◌, sym, ap, ◌∙◌}
use mathlib.Core.List.{List, [], ◌∷◌}
use Prim.Native.Nat.{ℕ, ◌*◌, ◌≤◌, ◌<◌}
use native.Mathlib.Omega.{arith}
use lib.ListN.{length, get_or-eq_default}
use Rattle.words.specs.Word.{Letter, R, S, Word}
use Rattle.products.specs.Product.{generator, Factor}
use Rattle.products.specs.State.{State}
use Rattle.products.proofs.States.{state_tail}
use Rattle.products.proofs.Tables.{Closed}
use Rattle.trees.specs.Tree.{at, word_at, Tree}
use Rattle.levels.specs.Levels.{entry}
use Rattle.tables.specs.Rules.{place, Rule, Is, B, C, D, E, F, G}
use Rattle.tables.specs.Levelling.{Full}
use Rattle.trees.proofs.Nodes.{node_number, node_number_at, state_number, begins_letter}

module _ {gens words : List Word} {letters rests children_r children_s wholes : List ℕ} (tree : Tree gens words letters rests children_r children_s wholes) where
  -- the node of a word
  abbrev at_word : Word → ℕ
  at_word q = node_number words q

  word_inside : (q : Word) → State gens q → at_word q < length words
  word_inside q s = (state_number tree q s).0

  -- the number of a word whose node is known
  number_of : (p : ℕ) (q : Word) → p < length words → word_at words p ≡ q → p ≡ at_word q
  number_of p q inside same = sym (node_number_at tree p inside) ∙ ap at_word same

  -- the node of a word with a letter in front, and its rest
  word_front : (a : Letter) (x : Word) → State gens (a ∷ x)
      → Is (length words) letters rests a (at_word (a ∷ x)) × (at rests (at_word (a ∷ x)) ≡ at_word x)
  word_front a x s =
      let (inside, same) = state_number tree (a ∷ x) s in
      let (positive, spelled, rest) = begins_letter tree a (at_word (a ∷ x)) inside x same in
      ((positive, inside, spelled), number_of (at rests (at_word (a ∷ x))) x (omega (arith, tree.shape.rest_earlier (at_word (a ∷ x)) positive inside)) rest)

  -- the place of a pair of words
  abbrev at_pair : Word → Word → ℕ
  at_pair u v = place (length words) (at_word u) (at_word v)

  abbrev OnWords : ℕ → ℕ → ℕ → Type 0
  OnWords = Rule (length words) letters rests

  abbrev past : ℕ
  past = length words * length words

  -- ---- each rule on words is a rule at places

  rule_b : (x q : Word) → State gens (R ∷ x) → State gens (R ∷ q) → OnWords (at_pair x (R ∷ q)) past (at_pair (R ∷ x) q)
  rule_b x q s t = let (a, ra) = word_front R x s in let (b, rb) = word_front R q t in rw (← ra, ← rb) (B _ _ a b)

  rule_c : (x q : Word) → State gens (S ∷ S ∷ x) → State gens (S ∷ q) → OnWords (at_pair x (S ∷ q)) past (at_pair (S ∷ S ∷ x) q)
  rule_c x q s t =
      let (a, ra) = word_front S (S ∷ x) s in
      let (m, rm) = word_front S x (state_tail gens s) in
      let (b, rb) = word_front S q t in
      rw (← rm, ← ra, ← rb) (C _ _ a (rw ra m) b)

  rule_d : (x q : Word) → State gens (S ∷ x) → State gens (S ∷ S ∷ q) → OnWords (at_pair x (S ∷ S ∷ q)) past (at_pair (S ∷ x) q)
  rule_d x q s t =
      let (a, ra) = word_front S x s in
      let (b, rb) = word_front S (S ∷ q) t in
      let (m, rm) = word_front S q (state_tail gens t) in
      rw (← ra, ← rm, ← rb) (D _ _ a b (rw rb m))

  rule_e : (x v q : Word) → State gens (S ∷ x) → State gens (S ∷ v) → State gens (S ∷ q)
      → OnWords (at_pair x (S ∷ v)) (at_pair v (S ∷ q)) (at_pair (S ∷ x) q)
  rule_e x v q s t t' =
      let (a, ra) = word_front S x s in
      let (m, rm) = word_front S v t in
      let (b, rb) = word_front S q t' in
      rw (← ra, ← rm, ← rb) (E _ _ _ a m b)

  rule_f : (u v q : Word) → State gens u → State gens v → State gens q → OnWords (at_pair u v) (at_pair v q) (at_pair u q)
  rule_f u v q s t t' = F _ _ _ (word_inside u s) (word_inside v t) (word_inside q t')

  rule_g : (a : Letter) (x y : Word) → State gens (a ∷ x) → State gens (a ∷ y) → OnWords (at_pair x y) past (at_pair (a ∷ x) (a ∷ y))
  rule_g l x y s t = let (a, ra) = word_front l x s in let (b, rb) = word_front l y t in rw (← ra, ← rb) (G l _ _ a b)

  module _ {weight : List ℕ → ℕ} {n : ℕ} {table : List ℕ} (full : Full (length words) letters rests wholes weight n table) where
    -- the entry at the pair of two words
    abbrev pub entry_at : Word → Word → ℕ
    entry_at u v = entry table (at_pair u v)

    closed_one : (p c : ℕ) → OnWords p past c → entry table p ≤ n → entry table c ≤ entry table p
    closed_one p c rule small =
        let none : entry table past ≡ 0 = get_or-eq_default table 0 (omega (arith, full.bounded.long)) in
        omega (arith, full.closed p past c rule (omega arith))

    start_low : (j : ℕ) → Factor gens j → entry_at [] (generator gens j) ≤ weight (j ∷ [])
    start_low j factor =
        let below : j < length wholes = omega (arith, tree.wholes_count) in
        let root : 0 ≡ at_word [] = number_of 0 [] tree.shape.some tree.root in
        let node : at wholes j ≡ at_word (generator gens j) =
        number_of (at wholes j) (generator gens j) (tree.shape.whole_inside j below) (tree.whole j factor) in
        rw (← root, ← node) (full.starts j below)

    pub words_closed : Closed gens weight n entry_at
    words_closed =
        record {
          A = λ j factor small. start_low j factor;
          B = λ x q s t small. closed_one _ _ (rule_b x q s t) small;
          C = λ x q s t small. closed_one _ _ (rule_c x q s t) small;
          D = λ x q not_s s t small. closed_one _ _ (rule_d x q s t) small;
          E = λ x v q not_s s t t' small. full.closed _ _ _ (rule_e x v q s t t') small;
          F = λ u v q s t t' small. full.closed _ _ _ (rule_f u v q s t t') small;
          G = λ a x y s t small. closed_one _ _ (rule_g a x y s t) small;
        }
