-- The order of series.
--     before_differs, before_trans       none stands before itself, and the order is transitive
--     no_later_append                    of two series, each no later than another, the one behind the other is no later than those two so
--     series_compare                     series that weigh the same are the same, or one is before the other
--     least_first_unique, member_unique  of the lightest there is but one first
-- Assumes nothing of words; where series are weighed, that a series weighs what its parts weigh together, and a factor 1 or more.
use mathlib.Core.Path.{◌≡◌, refl, sym, ap, ◌∙◌}
use mathlib.Core.Logic.{◌≢◌, ◌⊎◌, inl, inr}
use mathlib.Core.List.{List, [], ◌∷◌, ◌++◌, head-eq_of_cons-eq, tail-eq_of_cons-eq}
use Prim.Native.Nat.{ℕ, ◌+◌, ◌≤◌}
use native.Mathlib.Nat.{le_refl}
use native.Mathlib.Omega.{arith}
use native.Mathlib.Decide.{dec_lt}
use lib.ListN.{length}
use Rattle.words.specs.Word.{Word}
use Rattle.products.specs.Product.{Family, Each, Reaches, measure, Rival, MemberRight, Before, smaller, further}
use Rattle.products.proofs.Exact.{measure_append}

pub before_differs : {r s : List ℕ} → Before r s → r ≢ s
before_differs (smaller h) e = absurd (omega (arith, head-eq_of_cons-eq e))
before_differs (further b) e = before_differs b (tail-eq_of_cons-eq e)

-- nothing stands before the empty series
pub before_nothing : {r : List ℕ} → Before r [] → ⊥
before_nothing = elim [ ]

pub before_trans : {r s t : List ℕ} → Before r s → Before s t → Before r t
before_trans (smaller {i = i} h) (smaller {j = j} k) = smaller {i = i} {j = j} (omega arith)
before_trans (smaller h) (further c) = smaller h
before_trans (further b) (smaller h) = smaller h
before_trans (further b) (further c) = further (before_trans b c)

-- whatever stands behind them
pub before_append : (c d : List ℕ) {r s : List ℕ} → Before r s → Before (r ++ c) (s ++ d)
before_append c d (smaller h) = smaller h
before_append c d (further b) = further (before_append c d b)

pub before_behind : (p : List ℕ) {r s : List ℕ} → Before r s → Before (p ++ r) (p ++ s)
before_behind [] b = b
before_behind (i ∷ p) b = further (before_behind p b)

-- the same, or before
abbrev pub NoLater : List ℕ → List ℕ → Type 0
NoLater r s = (r ≡ s) ⊎ Before r s

pub no_later_refl : (r : List ℕ) → NoLater r r
no_later_refl r = inl refl

pub no_later_trans : {r s t : List ℕ} → NoLater r s → NoLater s t → NoLater r t
no_later_trans (inl e) l = rw e l
no_later_trans (inr b) (inl f) = inr (rw f at b)
no_later_trans (inr b) (inr c) = inr (before_trans b c)

pub no_later_append : (a b c d : List ℕ) → NoLater a b → NoLater c d → NoLater (a ++ c) (b ++ d)
no_later_append a b c d (inl e) (inl f) = inl (rw (e, f))
no_later_append a b c d (inl e) (inr g) = rw e (inr (before_behind b g))
no_later_append a b c d (inr g) l = inr (before_append c d g)

pub no_later_cons : (i : ℕ) {r s : List ℕ} → NoLater r s → NoLater (i ∷ r) (i ∷ s)
no_later_cons i {r} {s} l = no_later_append (i ∷ []) (i ∷ []) r s (inl refl) l

-- what is no later than s is not behind it
pub no_later_not_before : {r s : List ℕ} → NoLater r s → Before s r → ⊥
no_later_not_before (inl e) b = before_differs b (sym e)
no_later_not_before (inr c) b = before_differs (before_trans b c) refl

pub no_later_antisym : {r s : List ℕ} → NoLater r s → NoLater s r → r ≡ s
no_later_antisym (inl e) l = e
no_later_antisym (inr b) l = absurd (no_later_not_before l b)

module _ (P : ℕ → Type 0)
    (weight : List ℕ → ℕ) (weight_append : (a b : List ℕ) → weight (a ++ b) ≡ weight a + weight b)
    (weight_factor : (j : ℕ) → P j → 1 ≤ weight (j ∷ [])) where
  -- where one series is empty the other is, since they weigh the same
  pub series_compare : (r s : List ℕ) → Each P r → Each P s → weight r ≡ weight s → NoLater r s ⊎ Before s r
  series_compare [] [] h k e = inl (inl refl)
  series_compare [] (j ∷ s) h k e =
      let one = weight_factor j k.0 in
      let sum = weight_append (j ∷ []) s in
      absurd (omega (arith, weight_append [] []))
  series_compare (i ∷ r) [] h k e =
      let one = weight_factor i h.0 in
      let sum = weight_append (i ∷ []) r in
      absurd (omega (arith, weight_append [] []))
  series_compare (i ∷ r) (j ∷ s) h k e =
      elim (dec_lt i j) [
        | yes l ↦ inl (inr (smaller l))
        | no l ↦ elim (dec_lt j i) [
          | yes m ↦ inr (smaller m)
          | no m ↦
              let same : i ≡ j = omega arith in
              let weigh : weight (i ∷ s) ≡ weight (j ∷ s) = ap (λ (n : ℕ). weight (n ∷ s)) same in
              let first = weight_append (i ∷ []) r in
              let second = weight_append (i ∷ []) s in
              rw (← same) (onward (series_compare r s h.1 k.1 (omega arith)))
        ]
      ]
    where
      onward : NoLater r s ⊎ Before s r → NoLater (i ∷ r) (i ∷ s) ⊎ Before (i ∷ s) (i ∷ r)
      onward (inl l) = inl (no_later_cons i l)
      onward (inr b) = inr (further b)

  pub no_later_of_not_before : (r s : List ℕ) → Each P r → Each P s → weight r ≡ weight s → (Before s r → ⊥) → NoLater r s
  no_later_of_not_before r s h k e not = elim (series_compare r s h k e) [ inl l ↦ l | inr b ↦ absurd (not b) ]

-- Of the series of a class none is lighter than r, and of those that weigh the same none stands before it.
pub record LeastFirst (weight : List ℕ → ℕ) (Class : List ℕ → Type 0) (r : List ℕ) : Type 0 where
  pub in_class : Class r
  pub least : (s : List ℕ) → Class s → weight r ≤ weight s
  pub first : (s : List ℕ) → Class s → weight s ≡ weight r → Before s r → ⊥

module _ (P : ℕ → Type 0)
    (weight : List ℕ → ℕ) (weight_append : (a b : List ℕ) → weight (a ++ b) ≡ weight a + weight b)
    (weight_factor : (j : ℕ) → P j → 1 ≤ weight (j ∷ []))
    (Class : List ℕ → Type 0) (each : (r : List ℕ) → Class r → Each P r) where
  pub least_first_unique : (r s : List ℕ) → LeastFirst weight Class r → LeastFirst weight Class s → r ≡ s
  least_first_unique r s f g =
      same (series_compare P weight weight_append weight_factor r s (each r f.in_class) (each s g.in_class) (weigh r s f g))
    where
      weigh : (r s : List ℕ) → LeastFirst weight Class r → LeastFirst weight Class s → weight r ≡ weight s
      weigh r s f g = omega (arith, f.least s g.in_class, g.least r f.in_class)

      same : NoLater r s ⊎ Before s r → r ≡ s
      same (inl (inl e)) = e
      same (inl (inr b)) = absurd (g.first r f.in_class (weigh r s f g) b)
      same (inr b) = absurd (f.first s g.in_class (weigh s r g f) b)

-- Two right members are the same: a verdict is a function of the list, the target and the bound.
pub member_unique : (family : Family) (target : Word) (n : ℕ) (r s : List ℕ) (k l : ℕ)
    → MemberRight family target n r k → MemberRight family target n s l → (r ≡ s) × (k ≡ l)
member_unique family target n r s k l f g = (same, f.counts ∙ ap length same ∙ sym g.counts)
  where
    Reaching : List ℕ → Type 0
    Reaching t = Rival family n t × Reaches family t target

    of : (t : List ℕ) (m : ℕ) → MemberRight family target n t m → LeastFirst measure Reaching t
    of t m right =
        record {
          in_class = (right.rival, right.reaches);
          least = λ u c. right.least u c.0 c.1;
          first = λ u c e b. right.first u c.0 c.1 e b;
        }

    same : r ≡ s
    same = least_first_unique family.Number measure measure_append (λ j f. le_refl 1) Reaching (λ t c. c.0.series) r s (of r k f) (of s l g)
