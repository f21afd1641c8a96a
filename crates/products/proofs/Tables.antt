-- A table on pairs of states that is closed under the rules holds at each pair no more than any series that leads there weighs, up to the bound.
--     ends_least     of the series that end at a state: along the rules
--     table_least    of all series that lead there: by where the first letter that is left comes from
-- Assumes that the generators are reduced, and that a series weighs what its parts weigh together, be it nothing.
use mathlib.Core.Path.{◌≡◌, refl}
use mathlib.Core.Logic.{◌≢◌}
use mathlib.Core.List.{List, [], ◌∷◌, ◌++◌}
use Prim.Native.Nat.{ℕ, ◌+◌, ◌≤◌}
use native.Mathlib.Omega.{arith}
use Rattle.words.specs.Word.{Letter, R, S, Word}
use Rattle.products.specs.Product.{generator, Factor, Series}
use Rattle.products.proofs.States.{NotS, State, Leads, Ends, Step, A, B, C, D, E, F, state_tail, ends_state, ends_not_empty, leads_ends_nothing}
use Rattle.products.proofs.OneStep.{AllReduced, state_reduced}
use Rattle.products.proofs.FirstLetter.{FirstLetter, kept, ended, passed, first_letter}
use Rattle.products.proofs.Induction.{Known, Shorter, Deeper, lengths_induction, ends_induction, shorter_parts}

module _ (gens : List Word) (weight : List ℕ → ℕ) (n : ℕ) (T : Word → Word → ℕ) where
  -- Each rule holds as an inequality wherever its premises add up to no more than n. T u v is the entry at the pair u, v of states.
  pub record Closed : Type 0 where
    pub A : (j : ℕ) → Factor gens j → weight (j ∷ []) ≤ n → T [] (generator gens j) ≤ weight (j ∷ [])
    pub B : (x q : Word) → State gens (R ∷ x) → State gens (R ∷ q) → T x (R ∷ q) ≤ n → T (R ∷ x) q ≤ T x (R ∷ q)
    pub C : (x q : Word) → State gens (S ∷ S ∷ x) → State gens (S ∷ q) → T x (S ∷ q) ≤ n → T (S ∷ S ∷ x) q ≤ T x (S ∷ q)
    pub D : (x q : Word) → NotS x → State gens (S ∷ x) → State gens (S ∷ S ∷ q) → T x (S ∷ S ∷ q) ≤ n → T (S ∷ x) q ≤ T x (S ∷ S ∷ q)
    pub E : (x w q : Word) → NotS x → State gens (S ∷ x) → State gens (S ∷ w) → State gens (S ∷ q)
        → T x (S ∷ w) + T w (S ∷ q) ≤ n → T (S ∷ x) q ≤ T x (S ∷ w) + T w (S ∷ q)
    pub F : (u v q : Word) → State gens u → State gens v → State gens q → T u v + T v q ≤ n → T u q ≤ T u v + T v q
    pub G : (a : Letter) (x y : Word) → State gens (a ∷ x) → State gens (a ∷ y) → T x y ≤ n → T (a ∷ x) (a ∷ y) ≤ T x y

  -- Each entry up to n is the weight of a series that leads there.
  pub record Sound : Type 0 where
    pub led : (u v : Word) → State gens u → State gens v → T u v ≤ n → (r : List ℕ) × (r ≢ []) × Leads gens u r v × (weight r ≡ T u v)

-- Where a factor weighs 1 or more, so does a series of one factor or more.
module _ (gens : List Word)
    (weight : List ℕ → ℕ) (weight_append : (a b : List ℕ) → weight (a ++ b) ≡ weight a + weight b)
    (weight_factor : (j : ℕ) → Factor gens j → 1 ≤ weight (j ∷ [])) where
  pub weight_positive : (r : List ℕ) → Series gens r → r ≢ [] → 1 ≤ weight r
  weight_positive [] s h = absurd (h refl)
  weight_positive (j ∷ r) s h = let f = weight_factor j s.0 in omega (arith, weight_append (j ∷ []) r)

  -- an entry up to n is at least 1
  pub sound_positive : (n : ℕ) (T : Word → Word → ℕ) → Sound gens weight n T
      → (u v : Word) → State gens u → State gens v → T u v ≤ n → 1 ≤ T u v
  sound_positive n T sound u v s t h = let (r, ne, l, e) = sound.led u v s t h in rw e at (weight_positive r l.series ne)

module _ (gens : List Word)
    (weight : List ℕ → ℕ) (weight_append : (a b : List ℕ) → weight (a ++ b) ≡ weight a + weight b)
    (n : ℕ) (T : Word → Word → ℕ) (all : AllReduced gens) (closed : Closed gens weight n T) where
  abbrev Least : Word → List ℕ → Word → Type 0
  Least u r q = State gens u → weight r ≤ n → T u q ≤ weight r

  least_step : (u : Word) (r : List ℕ) (q : Word) → Step gens (Known gens all Least) u r q → Least u r q
  least_step u r q (A j f) s h = closed.A j f h
  least_step u r q (B {x} t k) s h = let i = k.1 (state_tail gens s) h in omega (arith, closed.B x q s t (omega arith))
  least_step u r q (C {x} t k) s h = let i = k.1 (state_tail gens (state_tail gens s)) h in omega (arith, closed.C x q s t (omega arith))
  least_step u r q (D {x} no_s t k) s h = let i = k.1 (state_tail gens s) h in omega (arith, closed.D x q no_s s t (omega arith))
  least_step u r q (E {x} {w} {a} {b} no_s t t' k l) s h =
      let sum = weight_append a b in
      let i = k.1 (state_tail gens s) (omega arith) in
      let j = l.1 (state_tail gens t) (omega arith) in
      omega (arith, closed.E x w q no_s s t t' (omega arith))
  least_step u r q (F {v} {a} {b} t t' k l) s h =
      let sum = weight_append a b in
      let i = k.1 s (omega arith) in
      let j = l.1 t (omega arith) in
      omega (arith, closed.F u v q s t t' (omega arith))

  pub ends_least : {u q : Word} {r : List ℕ} → State gens u → Ends gens u r q → weight r ≤ n → T u q ≤ weight r
  ends_least s e h = ends_induction gens all Least least_step (state_reduced gens all s) e s h

  abbrev LeastLead : List ℕ → Word → Type 0
  LeastLead r u = (v : Word) → State gens u → State gens v → r ≢ [] → Leads gens u r v → weight r ≤ n → T u v ≤ weight r

  least_first : {u y : Word} {r : List ℕ} {a : Letter} → Shorter LeastLead r → Deeper LeastLead r u
      → State gens u → State gens (a ∷ y) → r ≢ [] → weight r ≤ n → FirstLetter gens u r a y → T u (a ∷ y) ≤ weight r
  least_first {y} shorter deeper s t ne h (kept {a} {z} l) =
      let i = deeper z (omega arith) y (state_tail gens s) (state_tail gens t) ne l h in
      omega (arith, closed.G a z y s t (omega arith))
  least_first shorter deeper s t ne h (ended e) = ends_least s e h
  least_first {u} {y} {a} shorter deeper s t ne h (passed {z} {p} {r} e not l) =
      let sum = weight_append p r in
      let i = ends_least s e (omega arith) in
      let less = shorter_parts p r (ends_not_empty gens e) not in
      let j = shorter r (a ∷ z) less.1 (a ∷ y) (ends_state gens e) t not l (omega arith) in
      omega (arith, closed.F u (a ∷ z) (a ∷ y) s (ends_state gens e) t (omega arith))

  least_lead : (r : List ℕ) (u : Word) → Shorter LeastLead r → Deeper LeastLead r u → LeastLead r u
  least_lead r u shorter deeper [] s t ne l h = ends_least s (leads_ends_nothing gens l ne) h
  least_lead r u shorter deeper (a ∷ y) s t ne l h =
      least_first shorter deeper s t ne h (first_letter gens all (state_reduced gens all s) (state_reduced gens all t) l)

  pub table_least : (u v : Word) → State gens u → State gens v → (r : List ℕ) → r ≢ [] → Leads gens u r v → weight r ≤ n → T u v ≤ weight r
  table_least u v s t r ne l h = lengths_induction LeastLead least_lead r u v s t ne l h
