-- The halves of a pair of nodes are halves of their words, and every halves of their words is that of the nodes in some way.
--     halving      what the halves of two nodes, in a way, say of their words
--     halving_way  the way of any halves of the words
-- Assumes a query.
use mathlib.Core.Bool.{Bool}
use mathlib.Core.Path.{◌≡◌, sym, ap, ◌∙◌}
use mathlib.Core.List.{List, ◌∷◌}
use Prim.Native.Nat.{ℕ, suc, ◌+◌, ◌-◌, ◌<◌}
use native.Mathlib.Decide.{ℕ_discrete, dec_lt}
use native.Mathlib.Omega.{arith}
use lib.Dec.{eqb}
use borrow.Author.Tests.{lt-ltb, le-ltb, eq-eqb, ne_eqb}
use Rattle.words.specs.Word.{Letter, R, S, Word}
use Rattle.words.specs.Bytes.{byte}
use Rattle.refusals.specs.Telling.{pick}
use Rattle.products.specs.State.{State}
use Rattle.products.proofs.States.{NotS, state_tail}
use Rattle.products.proofs.Halves.{Halves, through, across}
use Rattle.trees.specs.Tree.{at, word_at}
use Rattle.trees.proofs.Nodes.{begins_letter}
use Rattle.derivations.specs.declared.Parts.{Parts}
use Rattle.derivations.specs.declared.Parts.TheVariants.{Two, Nothing}
use Rattle.derivations.specs.Ways.{World, halves}
use Rattle.derivations.specs.Query.{Query}
use Rattle.derivations.proofs.Nodes.{child_in, Begins, initial, differing, not_s, not_s_other, begins, begins_so, begins_other, letter_of, rest_earlier}
use Rattle.derivations.proofs.Nodes.{child_inside, child_word, child_state, state_child, node_inside, node_state, node_of_state}

abbrev pub halves_in : World → ℕ → ℕ → ℕ → Parts
halves_in w p y d = halves w.letters w.rests w.children_r w.children_s w.count p y d

-- what the parts say that the halves of nodes p and y are
pub data Halving (gens words : List Word) (count p y : ℕ) : Parts → Type 0 where
  none : Halving gens words count p y Nothing
  both : (a b c e : ℕ) → a < count → b < count → c < count → e < count
      → Halves gens (word_at words p) (word_at words y) (word_at words a) (word_at words b) (word_at words c) (word_at words e)
      → Halving gens words count p y (Two (suc a) b (suc c) e)

-- a way in which the halves of nodes p and y have these words
pub data HalvingWay (words : List Word) (w : World) (p y : ℕ) : Word → Word → Word → Word → Type 0 where
  way : (d a b c e : ℕ) → a < w.count → b < w.count → c < w.count → e < w.count → halves_in w p y d ≡ Two (suc a) b (suc c) e
      → HalvingWay words w p y (word_at words a) (word_at words b) (word_at words c) (word_at words e)

module _ {gens words : List Word} {n : ℕ} {w : World} (query : Query gens words n w)
    (p y : ℕ) (some : p ≡ 0 → ⊥) (h : p < w.count) (k : y < w.count) where
  abbrev rest : ℕ
  rest = at w.rests p

  rest_inside : rest < w.count
  rest_inside = omega (arith, rest_earlier query p some h)

  -- ---- what the halves are

  passing : (a : Letter) (v : ℕ) → word_at words p ≡ a ∷ word_at words rest → v < w.count
      → Halving gens words w.count p y (pick (eqb (child_in w a v) 0) Nothing (Two (suc p) v (suc v) y))
  passing a v e i =
      elim (ℕ_discrete (child_in w a v) 0) [
        | yes z ↦ rw (eq-eqb (child_in w a v) 0 z) none
        | no z ↦ rw (ne_eqb (child_in w a v) 0 z) (both p v v y h i i k (rw e (through (child_state query a v i z))))
      ]

  crossing_child : (v : ℕ) → word_at words p ≡ S ∷ word_at words rest → NotS (word_at words rest) → v < w.count → (v ≡ 0 → ⊥)
      → word_at words v ≡ S ∷ word_at words (at w.rests v)
      → Halving gens words w.count p y (pick (eqb (child_in w S y) 0) Nothing (Two (suc rest) v (suc (at w.rests v)) (child_in w S y)))
  crossing_child v e no_s i some' e' =
      elim (ℕ_discrete (child_in w S y) 0) [
        | yes z ↦ rw (eq-eqb (child_in w S y) 0 z) none
        | no z ↦
            let behind : at w.rests v < w.count = omega (arith, rest_earlier query v some' i) in
            let front : State gens (S ∷ word_at words (at w.rests v)) = rw e' at (node_state query v i) in
            rw (ne_eqb (child_in w S y) 0 z)
            (both rest v (at w.rests v) (child_in w S y) rest_inside i behind (child_inside query S y k)
            (rw (e, e', child_word query S y k z) (across no_s front (child_state query S y k z))))
      ]

  crossing : (a : Letter) (v : ℕ) → word_at words p ≡ a ∷ word_at words rest → v < w.count → {t t' : Bool} → Begins words w S rest t → Begins words w S v t'
      → Halving gens words w.count p y
      (pick (eqb (byte a) 83)
      (pick t Nothing (pick t' (pick (eqb (child_in w S y) 0) Nothing (Two (suc rest) v (suc (at w.rests v)) (child_in w S y))) Nothing)) Nothing)
  crossing R v e i b b' = none
  crossing S v e i (initial _ _) b' = none
  crossing S v e i (differing single) (initial some' e') = crossing_child v e (not_s (word_at words rest) single) i some' e'
  crossing S v e i (differing single) (differing _) = none

  pub halving : (d : ℕ) → Halving gens words w.count p y (halves_in w p y d)
  halving d =
      let (a, spelled, e) = letter_of query p some h in
      elim (dec_lt d w.count) [
        | yes i ↦ rw (lt-ltb d w.count i, spelled) (passing a d e i)
        | no i ↦
            elim (dec_lt (d - w.count) w.count) [
              | yes j ↦
                  rw (le-ltb d w.count (omega arith), lt-ltb (d - w.count) w.count j, spelled)
                  (crossing a (d - w.count) e j (begins query S rest rest_inside) (begins query S (d - w.count) j))
              | no j ↦ rw (le-ltb d w.count (omega arith), le-ltb (d - w.count) w.count (omega arith)) none
            ]
      ]

  -- ---- any halves are of some way

  way_at : (d a b c e : ℕ) {x s t o : Word} → a < w.count → b < w.count → c < w.count → e < w.count → halves_in w p y d ≡ Two (suc a) b (suc c) e
      → word_at words a ≡ x → word_at words b ≡ s → word_at words c ≡ t → word_at words e ≡ o → HalvingWay words w p y x s t o
  way_at d a b c e ia ib ic ie is ex es et eo = rw (← ex, ← es, ← et, ← eo) (way d a b c e ia ib ic ie is)

  pub halving_way : {u q x s t o : Word} → Halves gens u q x s t o → word_at words p ≡ u → word_at words y ≡ q → HalvingWay words w p y x s t o
  halving_way (through {c} {x} {v} {q} st) e f =
      let (a, spelled, e') = letter_of query p some h in
      let (m, i, g) = node_of_state query v (state_tail gens st) in
      let alike : c ≡ a = cc in
      let there : State gens (a ∷ word_at words m) = rw (← alike, g) st in
      way_at m p m m y h i i k (rw (lt-ltb m w.count i, spelled, ne_eqb (child_in w a m) 0 (state_child query a m i there))) e g g f
  halving_way (across {x = x} {w = v} no_s st st') e f =
      let (z, spelled, e') = begins_letter query.tree S p (node_inside query p h) x e in
      let (m, i, g) = node_of_state query (S ∷ v) st in
      let (z', _, g') = begins_letter query.tree S m (node_inside query m i) v g in
      let back : w.count + m - w.count ≡ m = omega arith in
      let there : State gens (S ∷ word_at words y) = rw f st' in
      let child = state_child query S y k there in
      let behind : at w.rests m < w.count = omega (arith, rest_earlier query m (λ e. omega arith) i) in
      let single = begins_other query S rest rest_inside (λ l e''. not_s_other x l no_s (sym e' ∙ e'')) in
      way_at (w.count + m) rest m (at w.rests m) (child_in w S y) rest_inside i behind (child_inside query S y k)
      (rw (le-ltb (w.count + m) w.count (omega arith), back, lt-ltb m w.count i, spelled)
      (rw (single, begins_so query S m i g, ne_eqb (child_in w S y) 0 child)))
      e' g g' (child_word query S y k child ∙ ap (λ (l : Word). S ∷ l) f)
