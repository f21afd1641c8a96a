-- What follows from a run of stores, each of which lowers an entry to k more than another; and how functions that relax rules are put
-- together. Assumes nothing.
use mathlib.Core.Path.{◌≡◌, refl, sym, ap, subst, ◌∙◌}
use mathlib.Core.Logic.{◌⊎◌, inl, inr}
use mathlib.Core.List.{List}
use Prim.Native.Nat.{ℕ, ◌+◌, ◌≤◌, ◌<◌, min}
use native.Mathlib.Nat.{le_refl}
use native.Mathlib.Decide.{ℕ_discrete, dec_lt}
use native.Mathlib.Omega.{arith}
use lib.ListN.{length, set, length-set, get_or-eq_default}
use lib.Seq.{get_or-set_same, get_or-set_other, set-get_or}
use Rattle.levels.specs.Levels.{entry, Uses, Lowers, done, store, Relaxed}
use Rattle.levels.specs.Passes.{Only, Upto, Sound, Premise, led, missing}

-- an entry behind a store: it was stored to, or it is as it was
pub data Stored (t : List ℕ) (c v p : ℕ) : Type 0 where
  here : p ≡ c → entry (set t c v) p ≡ v → Stored t c v p
  elsewhere : entry (set t c v) p ≡ entry t p → Stored t c v p

pub stored : (t : List ℕ) (c v p : ℕ) → c < length t → Stored t c v p
stored t c v p inside =
    elim (ℕ_discrete p c) [
      | yes e ↦ here e (ap (entry (set t c v)) e ∙ get_or-set_same t c v 0 inside)
      | no other ↦ elsewhere (get_or-set_other t c p v 0 other)
    ]

-- ---- a run of stores

module _ {k : ℕ} {Y : Uses} where
  pub lowers_length : {t t' : List ℕ} → Lowers k Y t t' → length t' ≡ length t
  lowers_length done = refl
  lowers_length (store {t} q c y inside less rest) = lowers_length rest ∙ length-set t c (k + entry t q)

  pub lowers_falls : {t t' : List ℕ} → Lowers k Y t t' → (p : ℕ) → entry t' p ≤ entry t p
  lowers_falls done p = le_refl _
  lowers_falls (store {t} q c y inside less rest) p =
      elim (stored t c (k + entry t q) p inside) [
        | here e v ↦ omega (arith, lowers_falls rest p, ap (entry t) e)
        | elsewhere v ↦ omega (arith, lowers_falls rest p)
      ]

  -- an entry that is at most k is never stored to
  pub lowers_keeps : {t t' : List ℕ} → Lowers k Y t t' → (p : ℕ) → entry t p ≤ k → entry t' p ≡ entry t p
  lowers_keeps done p low = refl
  lowers_keeps (store {t} q c y inside less rest) p low =
      elim (stored t c (k + entry t q) p inside) [
        | here e v ↦ absurd (omega (arith, ap (entry t) e))
        | elsewhere v ↦ lowers_keeps rest p (omega arith) ∙ v
      ]

  -- no entry falls below a number up to k, since each value stored is at least k
  pub lowers_floor : {t t' : List ℕ} {j : ℕ} → Lowers k Y t t' → j ≤ k → (p : ℕ) → j ≤ entry t p → j ≤ entry t' p
  lowers_floor done small p low = low
  lowers_floor (store {t} q c y inside less rest) small p low =
      elim (stored t c (k + entry t q) p inside) [
        | here e v ↦ lowers_floor rest small p (omega arith)
        | elsewhere v ↦ lowers_floor rest small p (omega arith)
      ]

  pub lowers_bound : {t t' : List ℕ} → Lowers k Y t t' → 1 ≤ k → ((p : ℕ) → p < length t → 1 ≤ entry t p) → (p : ℕ) → p < length t' → 1 ≤ entry t' p
  lowers_bound run positive low p inside = lowers_floor run positive p (low p (omega (arith, lowers_length run)))

  -- An entry that a run brings down to k was stored to by a rule with one premise: where all entries are at least 1, other stores give more.
  pub lowers_to_level : {t t' : List ℕ} → Lowers k Y t t' → 1 ≤ k → ((p : ℕ) → p < length t → 1 ≤ entry t p) → (p : ℕ) → entry t' p ≤ k
      → (entry t p ≤ k) ⊎ ((q : ℕ) × (length t ≤ q) × Y q p)
  lowers_to_level done positive low p reached = inl reached
  lowers_to_level (store {t} q c y inside less rest) positive low p reached =
      elim (lowers_to_level rest positive (lowers_bound {t = t} (store q c y inside less done) positive low) p reached) [
        | inl at_level ↦ before at_level
        | inr rule ↦ inr (rule.0, omega (arith, rule.1, length-set t c (k + entry t q)), rule.2)
      ]
    where
      before : entry (set t c (k + entry t q)) p ≤ k → (entry t p ≤ k) ⊎ ((r : ℕ) × (length t ≤ r) × Y r p)
      before at_level =
          elim (stored t c (k + entry t q) p inside) [
            | here e v ↦ elim (dec_lt q (length t)) [
              | yes within ↦ absurd (omega (arith, low q within))
              | no beyond ↦ inr (q, omega arith, subst (Y q) (sym e) y)
            ]
            | elsewhere v ↦ inl (omega arith)
          ]

  -- A table stays sound where each store is: to k more than a premise that is led to, or to k where the premise is missing.
  pub lowers_sound : (Led : ℕ → ℕ → Type 0) (n : ℕ) {t t' : List ℕ} → ((q c v : ℕ) → Y q c → Premise Led (length t) q v → Led c (k + v))
      → Lowers k Y t t' → Sound Led n t → Sound Led n t'
  lowers_sound Led n leads done sound = sound
  lowers_sound Led n leads (store {t} q c y inside less rest) sound =
      lowers_sound Led n (λ r d v z premise. leads r d v z (subst (λ (N : ℕ). Premise Led N r v) same_length premise)) rest sound_after
    where
      same_length : length (set t c (k + entry t q)) ≡ length t
      same_length = length-set t c (k + entry t q)

      premise_at_q : entry t q ≤ n → Premise Led (length t) q (entry t q)
      premise_at_q small =
          elim (dec_lt q (length t)) [
            | yes within ↦ led within (sound q within small)
            | no beyond ↦ missing (omega arith) (get_or-eq_default t 0 (omega arith))
          ]

      sound_after : Sound Led n (set t c (k + entry t q))
      sound_after p within small =
          elim (stored t c (k + entry t q) p inside) [
            | here e v ↦ rw (v, e) (leads q c (entry t q) y (premise_at_q (omega arith)))
            | elsewhere v ↦ rw v (sound p (omega (arith, same_length)) (omega arith))
          ]

  lowers_then : {t t' t'' : List ℕ} → Lowers k Y t t' → Lowers k Y t' t'' → Lowers k Y t t''
  lowers_then done run = run
  lowers_then (store q c y inside less rest) run = store q c y inside less (lowers_then rest run)

  -- the same run where more is allowed
  lowers_wider : {Z : Uses} {t t' : List ℕ} → ((q c : ℕ) → Y q c → c < length t → Z q c) → Lowers k Y t t' → Lowers k Z t t'
  lowers_wider wider done = done
  lowers_wider wider (store {t} q c y inside less rest) =
      store q c (wider q c y inside) inside less (lowers_wider (λ r d z within. wider r d z (omega (arith, length-set t c (k + entry t q)))) rest)

-- ---- functions that relax rules

module _ {k : ℕ} {Y : Uses} where
  -- where the inequalities hold already, nothing is to be done
  pub relaxed_already : {t : List ℕ} → ((q c : ℕ) → Y q c → c < length t → entry t c ≤ k + entry t q) → Relaxed k Y t t
  relaxed_already already = record { lowers = done; holds = already }

  pub relaxed_none : {t : List ℕ} → ((q c : ℕ) → Y q c → ⊥) → Relaxed k Y t t
  relaxed_none none = relaxed_already (λ q c y. absurd (none q c y))

  pub relaxed_then : {Z : Uses} {t t' t'' : List ℕ} → Relaxed k Y t t' → Relaxed k Z t' t'' → Relaxed k (λ q c. Y q c ⊎ Z q c) t t''
  relaxed_then first second =
      record {
        lowers = lowers_then (lowers_wider (λ q c y within. inl y) first.lowers) (lowers_wider (λ q c z within. inr z) second.lowers);
        holds = λ q c allowed within. elim allowed [
          | inl y ↦ omega (arith, first.holds q c y within, lowers_falls second.lowers c)
          | inr z ↦ omega (arith, second.holds q c z (omega (arith, lowers_length first.lowers)), lowers_falls first.lowers q)
        ];
      }

  -- The same, with the rules said otherwise. Only conclusions inside the table matter.
  pub relaxed_same : {Z : Uses} {t t' : List ℕ} → ((q c : ℕ) → Y q c → c < length t → Z q c) → ((q c : ℕ) → Z q c → c < length t → Y q c)
      → Relaxed k Y t t' → Relaxed k Z t t'
  relaxed_same wider narrower relaxed =
      record {
        lowers = lowers_wider wider relaxed.lowers;
        holds = λ q c z within. relaxed.holds q c (narrower q c z within) within;
      }

-- One pair. The value v is k where the premise is missing, since the entry one past the end is 0.
module _ {k v : ℕ} (t : List ℕ) (q c : ℕ) (sum : v ≡ k + entry t q) where
  relaxed_one_stores : c < length t → v < entry t c → Relaxed k (Only q c) t (set t c v)
  relaxed_one_stores inside less =
      record {
        lowers = rw sum (store {t = t} q c (refl, refl) inside (omega arith) done);
        holds = λ q' c' same within. rw (same.0, same.1, get_or-set_same t c v 0 inside) (omega arith);
      }

  relaxed_one_stays : entry t c ≤ v → Relaxed k (Only q c) t t
  relaxed_one_stays enough = relaxed_already (λ q' c' same within. rw (same.0, same.1) (omega arith))

  -- the lesser of the two is stored
  pub relaxed_one : c < length t → Relaxed k (Only q c) t (set t c (min (entry t c) v))
  relaxed_one inside =
      elim (dec_lt v (entry t c)) [
        | yes less ↦ (let new : min (entry t c) v ≡ v = omega arith in rw new (relaxed_one_stores inside less))
        | no enough ↦ (let old : min (entry t c) v ≡ entry t c = omega arith in rw (old, set-get_or t c 0) (relaxed_one_stays (omega arith)))
      ]

-- the same for a rule with one premise
pub relaxed_one_missing : {k : ℕ} (t : List ℕ) (c : ℕ) → c < length t → Relaxed k (Only (length t) c) t (set t c (min (entry t c) k))
relaxed_one_missing t c inside = relaxed_one t (length t) c (omega (arith, get_or-eq_default t 0 {n = length t} (le_refl _))) inside

-- A loop, whose turn i uses Y i.
module _ {k : ℕ} {Y : ℕ → Uses} where
  pub relaxed_begins : {t : List ℕ} → Relaxed k (Upto Y 0) t t
  relaxed_begins = relaxed_none (λ q c turn. omega (arith, turn.1))

  pub relaxed_turn : {i : ℕ} {t t' t'' : List ℕ} → Relaxed k (Upto Y i) t t' → Relaxed k (Y i) t' t'' → Relaxed k (Upto Y (i + 1)) t t''
  relaxed_turn {i} so_far turn =
      relaxed_same
      (λ q c either within. elim either [
        | inl past ↦ (past.0, omega (arith, past.1), past.2)
        | inr y ↦ (i, omega arith, y)
      ])
      (λ q c upto within. elim (dec_lt upto.0 i) [
        | yes past ↦ inl (upto.0, past, upto.2)
        | no now ↦ inr (subst (λ (j : ℕ). Y j q c) (omega (arith, upto.1)) upto.2)
      ])
      (relaxed_then so_far turn)
