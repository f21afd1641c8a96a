-- The shift of a pair of nodes is a shift of their words, and where there is none the words have none.
--     shifted    what the shift of two nodes says of their words
-- Assumes a query.
use mathlib.Core.Bool.{Bool}
use mathlib.Core.Path.{◌≡◌, refl}
use mathlib.Core.Logic.{◌≢◌}
use mathlib.Core.List.{List, ◌∷◌}
use Prim.Native.Nat.{ℕ, suc, ◌<◌}
use native.Mathlib.Decide.{ℕ_discrete}
use native.Mathlib.Omega.{arith}
use borrow.Author.Tests.{eq-eqb, ne_eqb}
use Rattle.words.specs.Word.{Letter, R, S, Word}
use Rattle.words.specs.Bytes.{byte}
use Rattle.refusals.specs.Telling.{pick}
use Rattle.products.specs.State.{State}
use Rattle.products.proofs.States.{state_tail}
use Rattle.products.proofs.Halves.{Shift, same, over_r, over_ss_lem, over_s, Unshifted, unshifted_r, unshifted_s}
use Rattle.trees.specs.Tree.{at, word_at}
use Rattle.derivations.specs.declared.Parts.{Parts}
use Rattle.derivations.specs.declared.Parts.TheVariants.{One, Nothing}
use Rattle.derivations.specs.Ways.{World, shift, over, over_ss}
use Rattle.derivations.specs.Query.{Query}
use Rattle.derivations.proofs.Nodes.{child_in, Begins, initial, differing, not_s, begins, letter_of, rest_earlier}
use Rattle.derivations.proofs.Nodes.{child_inside, child_word, child_state, state_child}

abbrev pub shift_in : World → ℕ → ℕ → Parts
shift_in w p y = shift w.letters w.rests w.children_r w.children_s p y

-- what the parts say that the shift of nodes p and y is
pub data Shifted (gens words : List Word) (count p y : ℕ) : Parts → Type 0 where
  carried : (a b : ℕ) → a < p → b < count → Shift gens (word_at words p) (word_at words y) (word_at words a) (word_at words b)
      → Shifted gens words count p y (One (suc a) b)
  kept : Unshifted gens (word_at words p) (word_at words y) → Shifted gens words count p y Nothing

-- neither one S nor two can be carried over
unshifted_no_s : (gens : List Word) {x q : Word} → ((y : Word) → q ≢ S ∷ y) → (State gens (S ∷ q) → ⊥) → Unshifted gens (S ∷ x) q
unshifted_no_s gens other none _ _ (same _ {y = y}) = other y refl
unshifted_no_s gens other none _ _ (over_ss_lem s) = none s
unshifted_no_s gens other none _ _ (over_s s) = none (state_tail gens s)

module _ {gens words : List Word} {n : ℕ} {w : World} (query : Query gens words n w)
    (p y : ℕ) (some : p ≡ 0 → ⊥) (h : p < w.count) (k : y < w.count) where
  abbrev rest : ℕ
  rest = at w.rests p

  earlier : rest < p
  earlier = rest_earlier query p some h

  -- two S's in front of y, where the first can stand there
  over_two : word_at words p ≡ S ∷ word_at words rest → ((q : Word) → word_at words y ≢ S ∷ q) → (child_in w S y ≡ 0 → ⊥) → ((q : Word) → word_at words rest ≢ S ∷ q)
      → Shifted gens words w.count p y (over_ss rest (child_in w S (child_in w S y)))
  over_two e differs there single =
      let one = child_word query S y k there in
      let inside = child_inside query S y k in
      let c = child_in w S y in
      elim (ℕ_discrete (child_in w S c) 0) [
        | yes z ↦
            rw (eq-eqb (child_in w S c) 0 z)
            (kept (rw e (unshifted_s gens (not_s (word_at words rest) single) differs (λ s. state_child query S c inside (rw one s) z))))
        | no z ↦
            rw (ne_eqb (child_in w S c) 0 z)
            (carried rest (child_in w S c) earlier (child_inside query S c inside)
            (rw (e, child_word query S c inside z, one) (over_s (rw one at (child_state query S c inside z)))))
      ]

  -- one S in front of y
  over_one : word_at words p ≡ S ∷ word_at words rest → ((q : Word) → word_at words y ≢ S ∷ q) → (child_in w S y ≡ 0 → ⊥)
      → {t : Bool} → Begins words w S rest t
      → Shifted gens words w.count p y
      (pick t (One (suc (at w.rests rest)) (child_in w S y))
      (over_ss rest (child_in w S (child_in w S y))))
  over_one e differs there (initial some' e') =
      carried (at w.rests rest) (child_in w S y) (omega (arith, earlier, rest_earlier query rest some' (omega (arith, earlier)))) (child_inside query S y k)
      (rw (e, e', child_word query S y k there) (over_ss_lem (child_state query S y k there)))
  over_one e differs there (differing single) = over_two e differs there single

  carried_over : (a : Letter) → word_at words p ≡ a ∷ word_at words rest → ((q : Word) → word_at words y ≢ a ∷ q)
      → Shifted gens words w.count p y (over w.letters w.rests w.children_s (byte a) rest (child_in w a y))
  carried_over R e differs =
      elim (ℕ_discrete (child_in w R y) 0) [
        | yes z ↦ rw (eq-eqb (child_in w R y) 0 z) (kept (rw e (unshifted_r gens differs (λ s. state_child query R y k s z))))
        | no z ↦
            rw (ne_eqb (child_in w R y) 0 z)
            (carried rest (child_in w R y) earlier (child_inside query R y k)
            (rw (e, child_word query R y k z) (over_r (child_state query R y k z))))
      ]
  carried_over S e differs =
      elim (ℕ_discrete (child_in w S y) 0) [
        | yes z ↦ rw (eq-eqb (child_in w S y) 0 z) (kept (rw e (unshifted_no_s gens differs (λ s. state_child query S y k s z))))
        | no z ↦ rw (ne_eqb (child_in w S y) 0 z) (over_one e differs z (begins query S rest (omega (arith, earlier))))
      ]

  shifted_by : (a : Letter) → word_at words p ≡ a ∷ word_at words rest → {t : Bool} → Begins words w a y t
      → Shifted gens words w.count p y
      (pick t (One (suc rest) (at w.rests y))
      (over w.letters w.rests w.children_s (byte a) rest (child_in w a y)))
  shifted_by a e (initial some' e') =
      carried rest (at w.rests y) earlier (omega (arith, rest_earlier query y some' k)) (rw (e, e') (same a))
  shifted_by a e (differing differs) = carried_over a e differs

  pub shifted : Shifted gens words w.count p y (shift_in w p y)
  shifted = let (a, spelled, e) = letter_of query p some h in rw spelled (shifted_by a e (begins query a y k))
