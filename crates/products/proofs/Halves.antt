-- How a series that leads from one state to another is taken apart, the series being kept.
--     shift_leads, shift_states      a shift of a pair is the same element: the same series lead there
--     unshifted_r, -ss, -s           where there is none
--     halves_leads, halves_states    what leads over the two halves of a pair, one behind the other, leads over the pair
--     halved                         where a pair has no shift, every series that leads there goes over two halves of it
-- Assumes that the generators are reduced where series are taken apart, and nothing else.
use mathlib.Core.Path.{◌≡◌, refl}
use mathlib.Core.Logic.{◌≢◌, ◌↔◌}
use mathlib.Core.List.{List, [], ◌∷◌, ◌++◌, append_assoc, append-ne-nil_of_right_ne-nil}
use Prim.Native.Nat.{ℕ}
use Rattle.words.specs.Word.{Letter, R, S, Word, Equal, rr, sss, back, then}
use Rattle.words.proofs.NormalForm.{equal_path, equal_behind, equal_before}
use Rattle.products.specs.Product.{letters}
use Rattle.products.proofs.Null.{equal_uncons}
use Rattle.products.proofs.States.{NotS, State, Leads, Ends, Step, A, B, C, D, E, F, state_tail, step_leads, ends_leads, ends_not_empty}
use Rattle.products.proofs.States.{leads_append, leads_behind, leads_cancel, leads_ends_nothing}
use Rattle.products.proofs.OneStep.{AllReduced, state_reduced}
use Rattle.products.proofs.Induction.{Known, ends_induction}
use Rattle.products.proofs.FirstLetter.{FirstLetter, kept, ended, passed, first_letter}

module _ (gens : List Word) where
  -- The pair u, q is the same element as the pair x, p: the first letter of both goes, or what u begins with is carried over to q.
  pub data Shift : Word → Word → Word → Word → Type 0 where
    same : (a : Letter) {x y : Word} → Shift (a ∷ x) (a ∷ y) x y
    over_r : {x q : Word} → State gens (R ∷ q) → Shift (R ∷ x) q x (R ∷ q)
    over_ss_lem : {x q : Word} → State gens (S ∷ q) → Shift (S ∷ S ∷ x) q x (S ∷ q)
    over_s : {x q : Word} → State gens (S ∷ S ∷ q) → Shift (S ∷ x) q x (S ∷ S ∷ q)

  -- no shift can be taken
  abbrev pub Unshifted : Word → Word → Type 0
  Unshifted u q = (x p : Word) → Shift u q x p → ⊥

  -- no shift, by what u begins with: q begins with another letter, and u's own cannot be carried over
  pub unshifted_r : {x q : Word} → ((y : Word) → q ≢ R ∷ y) → (State gens (R ∷ q) → ⊥) → Unshifted (R ∷ x) q
  unshifted_r other none _ _ (same _ {y = y}) = other y refl
  unshifted_r other none _ _ (over_r s) = none s

  pub unshifted_ss : {x q : Word} → ((y : Word) → q ≢ S ∷ y) → (State gens (S ∷ q) → ⊥) → Unshifted (S ∷ S ∷ x) q
  unshifted_ss other none _ _ (same _ {y = y}) = other y refl
  unshifted_ss other none _ _ (over_ss_lem s) = none s
  unshifted_ss other none _ _ (over_s s) = none (state_tail gens s)

  pub unshifted_s : {x q : Word} → NotS x → ((y : Word) → q ≢ S ∷ y) → (State gens (S ∷ S ∷ q) → ⊥) → Unshifted (S ∷ x) q
  unshifted_s no_s other none _ _ (same _ {y = y}) = other y refl
  unshifted_s no_s other none _ _ (over_ss_lem s) = absurd no_s
  unshifted_s no_s other none _ _ (over_s s) = none s

  leads_carry : (p c : Word) {u q : Word} {r : List ℕ} → Equal (c ++ p) [] → Leads gens (p ++ u) r q → Leads gens u r (c ++ q)
  leads_carry p c {u} {q} {r} n l =
      record {
        series = l.series;
        equal =
            then (back (equal_before (u ++ letters gens r) n)) (then (equal_path regrouped) (equal_behind c l.equal));
      }
    where
      regrouped : (c ++ p) ++ (u ++ letters gens r) ≡ c ++ ((p ++ u) ++ letters gens r)
      regrouped = simp append_assoc

  pub shift_leads : {u q x p : Word} → Shift u q x p → (r : List ℕ) → Leads gens u r q ↔ Leads gens x r p
  shift_leads (same a) r = ((λ l. record { series = l.series; equal = equal_uncons a l.equal }), (λ l. leads_behind gens (a ∷ []) l))
  shift_leads (over_r s) r = ((λ l. leads_carry (R ∷ []) (R ∷ []) (rr [] []) l), (λ l. leads_cancel gens (R ∷ []) (R ∷ []) (rr [] []) l))
  shift_leads (over_ss_lem s) r =
      ((λ l. leads_carry (S ∷ S ∷ []) (S ∷ []) (sss [] []) l), (λ l. leads_cancel gens (S ∷ S ∷ []) (S ∷ []) (sss [] []) l))
  shift_leads (over_s s) r =
      ((λ l. leads_carry (S ∷ []) (S ∷ S ∷ []) (sss [] []) l), (λ l. leads_cancel gens (S ∷ []) (S ∷ S ∷ []) (sss [] []) l))

  pub shift_states : {u q x p : Word} → Shift u q x p → State gens u → State gens q → State gens x × State gens p
  shift_states (same a) s t = (state_tail gens s, state_tail gens t)
  shift_states (over_r p) s t = (state_tail gens s, p)
  shift_states (over_ss_lem p) s t = (state_tail gens (state_tail gens s), p)
  shift_states (over_s p) s t = (state_tail gens s, p)

  -- The two halves of a pair u, q: through a state v that u's first letter can stand before, or, where u begins with a single S, its three
  -- S's from three places.
  pub data Halves : Word → Word → Word → Word → Word → Word → Type 0 where
    through : {c : Letter} {x v q : Word} → State gens (c ∷ v) → Halves (c ∷ x) q (c ∷ x) v v q
    across : {x w q : Word} → NotS x → State gens (S ∷ w) → State gens (S ∷ q) → Halves (S ∷ x) q x (S ∷ w) w (S ∷ q)

  pub halves_leads : {u q x p y o : Word} {a b : List ℕ} → Halves u q x p y o → Leads gens x a p → Leads gens y b o → Leads gens u (a ++ b) q
  halves_leads (through s) l m = leads_append gens l m
  halves_leads (across no_s s t) l m = step_leads gens (E no_s s t l m)

  pub halves_states : {u q x p y o : Word} → Halves u q x p y o → State gens u → State gens q
      → State gens x × State gens p × State gens y × State gens o
  halves_states (through v) s t = (s, state_tail gens v, state_tail gens v, t)
  halves_states (across no_s w q) s t = (state_tail gens s, w, state_tail gens w, q)

  -- the series goes over two halves of the pair
  pub data Halved : Word → List ℕ → Word → Type 0 where
    parts : {u q x p y o : Word} {a b : List ℕ} → Halves u q x p y o → a ≢ [] → b ≢ [] → Leads gens x a p → Leads gens y b o → Halved u (a ++ b) q

  -- A series by its first rule, and what may follow it. Of u = nothing no more is said.
  data Begun : Word → List ℕ → Word → Type 0 where
    factor : {r : List ℕ} {q : Word} → Begun [] r q
    shifted : {c : Letter} {x q y p : Word} {r : List ℕ} → State gens (c ∷ q) → Shift (c ∷ x) q y p → Begun (c ∷ x) r q
    halfway : {u q : Word} {r : List ℕ} → Halved u r q → Begun u r q

  -- what leads on from where it ends
  halved_on : {u v q : Word} {a b : List ℕ} → Halved u a v → b ≢ [] → Leads gens v b q → Halved u (a ++ b) q
  halved_on {b = b} (parts {a = a₁} {b = a₂} (through s) ne ne' l l') some m =
      rw (append_assoc a₁ a₂ b) (parts (through s) ne (append-ne-nil_of_right_ne-nil a₂ some) l (leads_append gens l' m))
  halved_on (parts {a = a₁} (across no_s s t) ne ne' l l') some m =
      parts (through t) (append-ne-nil_of_right_ne-nil a₁ ne') some (halves_leads (across no_s s t) l l') m

  begun_on : {u v q : Word} {a b : List ℕ} → Begun u a v → a ≢ [] → Leads gens u a v → b ≢ [] → Leads gens v b q → Begun u (a ++ b) q
  begun_on factor ne l some m = factor
  begun_on (shifted s h) ne l some m = halfway (parts (through s) ne some l m)
  begun_on (halfway h) ne l some m = halfway (halved_on h some m)

  module _ (all : AllReduced gens) where
    begun_step : (u : Word) (r : List ℕ) (q : Word) → Step gens (Known gens all Begun) u r q → Begun u r q
    begun_step u r q (A j f) = factor
    begun_step u r q (B s k) = shifted s (over_r s)
    begun_step u r q (C s k) = shifted s (over_ss_lem s)
    begun_step u r q (D no_s s k) = shifted (state_tail gens s) (over_s s)
    begun_step u r q (E no_s s t k l) =
        halfway (parts (across no_s s t) (ends_not_empty gens k.0) (ends_not_empty gens l.0) (ends_leads gens k.0) (ends_leads gens l.0))
    begun_step u r q (F s t k l) =
        begun_on k.1 (ends_not_empty gens k.0) (ends_leads gens k.0) (ends_not_empty gens l.0) (ends_leads gens l.0)

    ends_begun : {u q : Word} {r : List ℕ} → State gens u → Ends gens u r q → Begun u r q
    ends_begun s e = ends_induction gens all Begun begun_step (state_reduced gens all s) e

    first_begun : {u y : Word} {a : Letter} {r : List ℕ} → State gens u → Unshifted u (a ∷ y) → FirstLetter gens u r a y → Begun u r (a ∷ y)
    first_begun {y = y} s un (kept {a} {z} l) = absurd (un z y (same a))
    first_begun s un (ended e) = ends_begun s e
    first_begun s un (passed e some m) = begun_on (ends_begun s e) (ends_not_empty gens e) (ends_leads gens e) some m

    begun : (u q : Word) {r : List ℕ} → State gens u → State gens q → Unshifted u q → r ≢ [] → Leads gens u r q → Begun u r q
    begun u [] s t un ne l = ends_begun s (leads_ends_nothing gens l ne)
    begun u (a ∷ y) s t un ne l = first_begun s un (first_letter gens all (state_reduced gens all s) (state_reduced gens all t) l)

    not_shifted : {u q : Word} {r : List ℕ} → u ≢ [] → Unshifted u q → Begun u r q → Halved u r q
    not_shifted some un factor = absurd (some refl)
    not_shifted some un (shifted {y} {p} s h) = absurd (un y p h)
    not_shifted some un (halfway h) = h

    pub halved : (u q : Word) {r : List ℕ} → State gens u → State gens q → u ≢ [] → Unshifted u q → r ≢ [] → Leads gens u r q → Halved u r q
    halved u q s t some un ne l = not_shifted some un (begun u q s t un ne l)
