-- What is true of every series that ends at a state is shown along the rules: by induction on the length of the series, then of the word.
--     lengths_induction    on two lengths
--     ends_induction       along the rules; what a rule asks of smaller instances holds of them
-- Assumes that the generators are reduced.
use mathlib.Core.Path.{refl}
use mathlib.Core.Logic.{◌≢◌}
use mathlib.Core.List.{List, [], ◌∷◌, ◌++◌}
use Prim.Native.Nat.{ℕ, zero, suc, ◌≤◌, ◌<◌}
use native.Mathlib.Omega.{arith}
use lib.ListN.{length, length-append}
use Rattle.words.specs.Word.{R, S, Word}
use Rattle.words.proofs.Reduced.{Reduced, reduced_tail}
use Rattle.products.proofs.States.{Ends, Step, A, B, C, D, E, F, state_tail, ends_not_empty}
use Rattle.products.proofs.OneStep.{AllReduced, state_reduced, one_step}

length_not_empty : (r : List ℕ) → r ≢ [] → 1 ≤ length r
length_not_empty [] h = absurd (h refl)
length_not_empty (j ∷ r) h = omega arith

-- two series that are not empty are both shorter than the two together
pub shorter_parts : (a b : List ℕ) → a ≢ [] → b ≢ [] → (length a < length (a ++ b)) × (length b < length (a ++ b))
shorter_parts a b h k = rw (length-append a b) (let i = length_not_empty a h in let j = length_not_empty b k in (omega arith, omega arith))

-- P holds of every shorter series, with any word
abbrev pub Shorter : (List ℕ → Word → Type 0) → List ℕ → Type 0
Shorter P r = (s : List ℕ) (v : Word) → length s < length r → P s v

-- P holds of the same series with every shorter word
abbrev pub Deeper : (List ℕ → Word → Type 0) → List ℕ → Word → Type 0
Deeper P r u = (v : Word) → length v < length u → P r v

module _ (P : List ℕ → Word → Type 0) (step : (r : List ℕ) (u : Word) → Shorter P r → Deeper P r u → P r u) where
  by_word : (k : ℕ) → ((s : List ℕ) (v : Word) → length s < k → P s v) → (l : ℕ) (r : List ℕ) (u : Word) → length r ≤ k → length u < l → P r u
  by_word k shorter zero r u h i = absurd (omega arith)
  by_word k shorter (suc l) r u h i =
      step r u (λ s v j. shorter s v (omega arith)) (λ v j. by_word k shorter l r v h (omega arith))

  by_series : (k : ℕ) (r : List ℕ) (u : Word) → length r < k → P r u
  by_series zero r u h = absurd (omega arith)
  by_series (suc k) r u h = by_word k (by_series k) (suc (length u)) r u (omega arith) (omega arith)

  pub lengths_induction : (r : List ℕ) (u : Word) → P r u
  lengths_induction r u = by_series (suc (length r)) r u (omega arith)

module _ (gens : List Word) (all : AllReduced gens) (P : Word → List ℕ → Word → Type 0) where
  -- a smaller instance, and what is known of it
  abbrev pub Known : Word → List ℕ → Word → Type 0
  Known u r q = Ends gens u r q × P u r q

  Shown : List ℕ → Word → Type 0
  Shown r u = (q : Word) → Reduced u → Ends gens u r q → P u r q

  known_step : {u q : Word} {r : List ℕ} → Reduced u → Shorter Shown r → Deeper Shown r u → Step gens (Ends gens) u r q → Step gens Known u r q
  unfolding Shown
  known_step h shorter deeper (A j f) = A j f
  known_step h shorter deeper (B {x} {q} s e) = B s (e, deeper x (omega arith) (R ∷ q) (reduced_tail R x h) e)
  known_step h shorter deeper (C {x} {q} s e) = C s (e, deeper x (omega arith) (S ∷ q) (reduced_tail S x (reduced_tail S (S ∷ x) h)) e)
  known_step h shorter deeper (D {x} {q} n s e) = D n s (e, deeper x (omega arith) (S ∷ S ∷ q) (reduced_tail S x h) e)
  known_step h shorter deeper (E {x} {w} {q} {a} {b} n s t e f) =
      let less = shorter_parts a b (ends_not_empty gens e) (ends_not_empty gens f) in
      E n s t (e, shorter a x less.0 (S ∷ w) (reduced_tail S x h) e) (f, shorter b w less.1 (S ∷ q) (state_reduced gens all (state_tail gens s)) f)
  known_step h shorter deeper (F {u} {v} {q} {a} {b} s t e f) =
      let less = shorter_parts a b (ends_not_empty gens e) (ends_not_empty gens f) in
      F s t (e, shorter a u less.0 v h e) (f, shorter b v less.1 q (state_reduced gens all s) f)

  pub ends_induction : {u q : Word} {r : List ℕ} → ((u : Word) (r : List ℕ) (q : Word) → Step gens Known u r q → P u r q)
      → Reduced u → Ends gens u r q → P u r q
  unfolding Shown
  ends_induction {u} {q} {r} step h e =
      lengths_induction Shown (λ r u shorter deeper q h e. step u r q (known_step h shorter deeper (one_step gens all u h e))) r u q h e
