-- A table is exact where each entry is the least weight of a series that leads from the one state to the other, or n + 1. That is the same as
-- closed and sound.
--     exact_of_closed                a table that is closed and sound is exact
--     exact_closed, exact_sound      an exact table is closed and sound
--     exact_positive                 no entry is 0, where a factor weighs 1 or more
-- Assumes that a series weighs what its parts weigh together, and that the generators are reduced where closed gives exact.
use mathlib.Core.Path.{◌≡◌, refl, sym}
use mathlib.Core.List.{List, [], ◌∷◌, ◌++◌, nil≢cons, append-ne-nil_of_right_ne-nil}
use Prim.Native.Nat.{ℕ, ◌+◌, ◌≤◌}
use native.Mathlib.Decide.{dec_le}
use native.Mathlib.Omega.{arith}
use lib.ListN.{length-append}
use Rattle.words.specs.Word.{R, S, Word}
use Rattle.words.proofs.Reduced.{reduced_of_normal}
use Rattle.products.specs.Product.{generator, Factor, measure}
use Rattle.products.specs.State.{AllNormal, LeastBy}
use Rattle.products.proofs.States.{State, nothing, suffix, Leads, A, B, C, D, E, state_tail, step_leads, leads_append, leads_behind}
use Rattle.products.proofs.OneStep.{AllReduced}
use Rattle.products.proofs.Tables.{Closed, Sound, sound_positive, table_least}

-- a list whose generators are normal, by clauses
pub all_reduced : (gens : List Word) → AllNormal gens → AllReduced gens
all_reduced gens normal j f = reduced_of_normal (generator gens j) (normal j f)

-- the measure adds up, and a factor counts 1
pub measure_append : (a b : List ℕ) → measure (a ++ b) ≡ measure a + measure b
measure_append a b = length-append a b

pub measure_factor : (gens : List Word) (j : ℕ) → Factor gens j → 1 ≤ measure (j ∷ [])
measure_factor gens j f = omega arith

abbrev pub ExactBy : List Word → (List ℕ → ℕ) → ℕ → (Word → Word → ℕ) → Type 0
ExactBy gens weight n T = (u v : Word) → State gens u → State gens v → LeastBy gens weight n u v (T u v)

abbrev pub Exact : List Word → ℕ → (Word → Word → ℕ) → Type 0
Exact gens n T = ExactBy gens measure n T

module _ (gens : List Word)
    (weight : List ℕ → ℕ) (weight_append : (a b : List ℕ) → weight (a ++ b) ≡ weight a + weight b)
    (n : ℕ) (T : Word → Word → ℕ) where
  pub exact_of_closed : AllReduced gens → Closed gens weight n T → Sound gens weight n T
      → ((u v : Word) → State gens u → State gens v → T u v ≤ n + 1) → ExactBy gens weight n T
  exact_of_closed all closed sound bounded u v s t =
      record {
        bounded = bounded u v s t;
        led = sound.led u v s t;
        least = table_least gens weight weight_append n T all closed u v s t;
      }

  module _ (exact : ExactBy gens weight n T) where
    pub exact_sound : Sound gens weight n T
    exact_sound = record { led = λ u v s t. (exact u v s t).led }

    -- an entry up to n is the weight of a series, and so at least 1 where a factor weighs that; any other is n + 1
    pub exact_positive : ((j : ℕ) → Factor gens j → 1 ≤ weight (j ∷ [])) → (u v : Word) → State gens u → State gens v → 1 ≤ T u v
    exact_positive weight_factor u v s t =
        elim (dec_le (T u v) n) [
          | yes h ↦ sound_positive gens weight weight_append weight_factor n T exact_sound u v s t h
          | no h ↦ omega arith
        ]

    -- What leads from x to p leads from u to q. So the entry there is no more than the one here.
    pub from_one : (x p u q : Word) → State gens x → State gens p → State gens u → State gens q
        → ((r : List ℕ) → Leads gens x r p → Leads gens u r q) → T x p ≤ n → T u q ≤ T x p
    from_one x p u q sx sp su sq on h =
        let (r, ne, l, e) = (exact x p sx sp).led h in
        rw (← e) ((exact u q su sq).least r ne (on r l) (rw (← e) at h))

    -- the same of two series, one behind the other
    pub from_two : (x p y o u q : Word) → State gens x → State gens p → State gens y → State gens o → State gens u → State gens q
        → ((a b : List ℕ) → Leads gens x a p → Leads gens y b o → Leads gens u (a ++ b) q) → T x p + T y o ≤ n → T u q ≤ T x p + T y o
    from_two x p y o u q sx sp sy so su sq on h =
        let (a, ne, l, e) = (exact x p sx sp).led (omega arith) in
        let (b, ne', m, e') = (exact y o sy so).led (omega arith) in
        let sum = weight_append a b in
        omega (arith, (exact u q su sq).least (a ++ b) (append-ne-nil_of_right_ne-nil a ne') (on a b l m) (omega arith))

    pub exact_closed : Closed gens weight n T
    exact_closed =
        record {
          A = λ j f h. (exact [] (generator gens j) nothing (suffix j [] f refl)).least (j ∷ []) (λ e. nil≢cons (sym e)) (step_leads gens (A j f)) h;
          B = λ x q s t h. from_one x (R ∷ q) (R ∷ x) q (state_tail gens s) t s (state_tail gens t) (λ r l. step_leads gens (B t l)) h;
          C = λ x q s t h. from_one x (S ∷ q) (S ∷ S ∷ x) q (state_tail gens (state_tail gens s)) t s (state_tail gens t) (λ r l. step_leads gens (C t l)) h;
          D = λ x q no_s s t h.
              from_one x (S ∷ S ∷ q) (S ∷ x) q (state_tail gens s) t s (state_tail gens (state_tail gens t)) (λ r l. step_leads gens (D no_s t l)) h;
          E = λ x w q no_s s t t' h.
              from_two x (S ∷ w) w (S ∷ q) (S ∷ x) q (state_tail gens s) t (state_tail gens t) t' s (state_tail gens t')
              (λ a b l m. step_leads gens (E no_s t t' l m)) h;
          F = λ u v q s t t' h. from_two u v v q u q s t t t' s t' (λ a b l m. leads_append gens l m) h;
          G = λ a x y s t h. from_one x y (a ∷ x) (a ∷ y) (state_tail gens s) (state_tail gens t) s t (λ r l. leads_behind gens (a ∷ []) l) h;
        }
