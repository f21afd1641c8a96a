-- The heart: what ends at a state from a reduced word does so by one of the six rules. Every partner of the word's first letter is found
-- in the null parse of the letters that cancel, and each cut of a generator at a partner leaves a state.
-- Assumes that the generators are reduced.
use mathlib.Core.Path.{refl, subst}
use mathlib.Core.Logic.{◌≢◌}
use mathlib.Core.List.{List, [], ◌∷◌, ◌++◌, append_assoc, append-nil}
use Prim.Native.Nat.{ℕ}
use Rattle.words.specs.Word.{R, S, Word}
use Rattle.words.proofs.Reduced.{Reduced, reduced_drop}
use Rattle.products.specs.Product.{generator, Factor}
use Rattle.products.proofs.Null.{Null, null_equal, equal_null, null_front, null_r, null_s, null_ss}
use Rattle.products.proofs.States.{NotS, State, nothing, suffix, Ends, Step, A, B, C, D, E, F, ends_state, ends_not_empty, step_ends}
use Rattle.products.proofs.Runs.{Run, stop, more, run_cut, run_of_ends, ends_of_run}

abbrev pub AllReduced : List Word → Type 0
AllReduced gens = (j : ℕ) → Factor gens j → Reduced (generator gens j)

pub state_reduced : (gens : List Word) → AllReduced gens → {q : Word} → State gens q → Reduced q
state_reduced gens all nothing = tt
state_reduced gens all (suffix j p {q} f g) = reduced_drop p q (subst Reduced g (all j f))

module _ (gens : List Word) (all : AllReduced gens) where
  -- A rule has brought a series to v. The letters after that cancel too: either there is no more than q, or the rest ends at q from v.
  finish : {u v q w : Word} {a b : List ℕ} → Step gens (Ends gens) u a v → Run gens v b q w → Null w → Step gens (Ends gens) u (a ++ b) q
  finish {u} {v} {q} {w} {a} s (stop e) n =
      rw (append-nil a, ← null_front [] v w q (state_reduced gens all (ends_state gens (step_ends gens s))) n e) s
  finish s (more j f t) n =
      let e = ends_of_run gens (more j f t) (null_equal n) in
      F (ends_state gens (step_ends gens s)) (ends_state gens e) (step_ends gens s) e

  from_nothing : {q w : Word} {r : List ℕ} → r ≢ [] → Run gens [] r q w → Null w → Step gens (Ends gens) [] r q
  from_nothing h (stop e) n = absurd (h refl)
  from_nothing h (more j f t) n = finish (A j f) t n

  from_r : {x v q w₁ w₂ : Word} {a b : List ℕ} → Reduced (R ∷ x) → Run gens x a (R ∷ v) w₁ → Null w₁ → Run gens v b q w₂ → Null w₂
      → Step gens (Ends gens) (R ∷ x) (a ++ b) q
  from_r {x} {v} {w₁} h (stop e) m t n =
      absurd (subst (λ (l : Word). Reduced (R ∷ l)) (null_front (R ∷ []) x w₁ (R ∷ v) h m e) h)
  from_r h (more j f s) m t n = let e = ends_of_run gens (more j f s) (null_equal m) in finish (B (ends_state gens e) e) t n

  from_ss : {x v q w₁ w₂ : Word} {a b : List ℕ} → Reduced (S ∷ S ∷ x) → Run gens x a (S ∷ v) w₁ → Null w₁ → Run gens v b q w₂ → Null w₂
      → Step gens (Ends gens) (S ∷ S ∷ x) (a ++ b) q
  from_ss {x} {v} {w₁} h (stop e) m t n =
      absurd (subst (λ (l : Word). Reduced (S ∷ S ∷ l)) (null_front (S ∷ S ∷ []) x w₁ (S ∷ v) h m e) h)
  from_ss h (more j f s) m t n = let e = ends_of_run gens (more j f s) (null_equal m) in finish (C (ends_state gens e) e) t n

  -- S and then no S: its two partners, from one generator (D) or from two (E)
  from_s : {x v₁ v₂ q w₁ w₂ w₃ : Word} {a b c : List ℕ} → NotS x → Reduced (S ∷ x)
      → Run gens x a (S ∷ v₁) w₁ → Null w₁ → Run gens v₁ b (S ∷ v₂) w₂ → Null w₂ → Run gens v₂ c q w₃ → Null w₃
      → Step gens (Ends gens) (S ∷ x) (a ++ (b ++ c)) q
  from_s {x} {v₁} {w₁} no_s h (stop e) k s m t n = absurd (subst NotS (null_front (S ∷ []) x w₁ (S ∷ v₁) h k e) no_s)
  from_s {x} {v₁} {v₂} {w₂} {a} no_s h (more j f i) k (stop e) m t n =
      let d₁ : Ends gens x a (S ∷ v₁) = ends_of_run gens (more j f i) (null_equal k) in
      let joined = null_front (S ∷ []) v₁ w₂ (S ∷ v₂) (state_reduced gens all (ends_state gens d₁)) m e in
      let d₂ = subst (λ (l : Word). Ends gens x a (S ∷ l)) joined d₁ in
      finish (D no_s (ends_state gens d₂) d₂) t n
  from_s {x} {v₁} {v₂} {a} {b} {c} no_s h (more j f i) k (more j' f' i') m t n =
      let d₁ : Ends gens x a (S ∷ v₁) = ends_of_run gens (more j f i) (null_equal k) in
      let d₂ : Ends gens v₁ b (S ∷ v₂) = ends_of_run gens (more j' f' i') (null_equal m) in
      rw (append_assoc a b c) at (finish (E no_s (ends_state gens d₁) (ends_state gens d₂) d₁ d₂) t n)

  alone : (x : Word) → NotS x → Reduced (S ∷ x) → {r : List ℕ} {q : Word} → Ends gens (S ∷ x) r q → Step gens (Ends gens) (S ∷ x) r q
  alone x no_s h e =
      let (y₁, y₂, y₃, n₁, n₂, n₃, p) = null_s (equal_null _ e.cancels) in
      let c = run_cut gens y₁ S (y₂ ++ S ∷ y₃) (run_of_ends gens x e) p in
      let d = run_cut gens y₂ S y₃ c.after refl in
      rw (c.split, d.split) (from_s no_s h c.before n₁ d.before n₂ d.after n₃)

  pub one_step : (u : Word) → Reduced u → {r : List ℕ} {q : Word} → Ends gens u r q → Step gens (Ends gens) u r q
  one_step [] h e = from_nothing (ends_not_empty gens e) (run_of_ends gens [] e) (equal_null _ e.cancels)
  one_step (R ∷ x) h e =
      let (y₁, y₂, n₁, n₂, p) = null_r (equal_null _ e.cancels) in
      let c = run_cut gens y₁ R y₂ (run_of_ends gens x e) p in
      rw c.split (from_r h c.before n₁ c.after n₂)
  one_step (S ∷ []) h e = alone [] tt h e
  one_step (S ∷ R ∷ x) h e = alone (R ∷ x) tt h e
  one_step (S ∷ S ∷ x) h e =
      let (y₁, y₂, n₁, n₂, p) = null_ss (equal_null _ e.cancels) in
      let c = run_cut gens y₁ S y₂ (run_of_ends gens x e) p in
      rw c.split (from_ss h c.before n₁ c.after n₂)
