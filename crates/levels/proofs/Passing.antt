-- A pass goes through the table from its first place to its last, and relaxes the rules of each entry that equals the level. One pass a
-- level is enough: a rule with two premises leads above the level, and one with a single premise to a place that the pass has yet to reach.
-- Assumes nothing.
use mathlib.Core.Path.{◌≡◌, refl, sym, ap, subst, ◌∙◌}
use mathlib.Core.Logic.{inl, inr, ◌≢◌}
use mathlib.Core.List.{List}
use Prim.Native.Nat.{ℕ, ◌+◌, ◌≤◌, ◌<◌}
use native.Mathlib.Nat.{le_refl, add_comm}
use native.Mathlib.Decide.{ℕ_discrete, dec_le, dec_lt}
use native.Mathlib.Omega.{arith}
use lib.ListN.{length, get_or-eq_default}
use Rattle.levels.specs.Levels.{entry, Uses, Lowers, Relaxed, Rules, Using, first, second, Closed}
use Rattle.levels.specs.Passes.{Bounded, Counts, Sound, Premise, led, missing, Forward, Settled, Passed, NoneBetween}
use Rattle.levels.proofs.Relaxing.{lowers_length, lowers_falls, lowers_keeps, lowers_floor, lowers_to_level, lowers_sound}

pub counts_bounded : {n N : ℕ} {t : List ℕ} → Counts n N t → Bounded n N t
counts_bounded counts = record { long = counts.long; high = counts.high }

pub bounded_relaxed : {n N k : ℕ} {Y : Uses} {t t' : List ℕ} → Bounded n N t → Relaxed k Y t t' → Bounded n N t'
bounded_relaxed bounded relaxed =
    record {
      long = lowers_length relaxed.lowers ∙ bounded.long;
      high = λ p inside. omega (arith, lowers_falls relaxed.lowers p, bounded.high p inside);
    }

pub counts_relaxed : {n N k : ℕ} {Y : Uses} {t t' : List ℕ} → Counts n N t → 1 ≤ k → Relaxed k Y t t' → Counts n N t'
counts_relaxed counts positive relaxed =
    let bounded = bounded_relaxed (counts_bounded counts) relaxed in
    record {
      long = bounded.long;
      low = λ p inside. lowers_floor relaxed.lowers positive p (counts.low p inside);
      high = bounded.high;
    }

-- a place other than z that is settled when the pass leaves z was settled when it came to z
settled_before : {k z : ℕ} (t t' : List ℕ) (p : ℕ) → entry t' p ≡ entry t p → (entry t p ≡ k → p ≢ z) → Settled t' k (z + 1) p → Settled t k z p
settled_before t t' p same other (inl below) = inl (omega arith)
settled_before t t' p same other (inr level) = inr (omega arith, omega (arith, other (omega arith)))

-- when a pass begins, only what is below the level is settled
settled_first : {k : ℕ} (t : List ℕ) (p : ℕ) → Settled t k 0 p → entry t p < k
settled_first t p (inl below) = below
settled_first t p (inr level) = absurd (omega arith)

-- ---- from place to place

pub pass_skips : {Rule : Rules} {k z : ℕ} {t : List ℕ} → (entry t z ≡ k → ⊥) → Passed Rule t k z → Passed Rule t k (z + 1)
pass_skips {k = k} {z} {t} other passed = record { holds = λ p q c r p_settled q_settled. passed.holds p q c r (before p p_settled) (before q q_settled) }
  where
    before : (p : ℕ) → Settled t k (z + 1) p → Settled t k z p
    before p = settled_before t t p refl (λ level same. other (ap (entry t) (sym same) ∙ level))

module _ {Rule : Rules} {N : ℕ} (rules : Forward Rule N) where
  -- nothing is below 1 but the missing premise, and a rule has another one
  pub pass_begins : {n : ℕ} {t : List ℕ} → Counts n N t → Passed Rule t 1 0
  pass_begins {t = t} counts =
      record { holds = λ p q c r p_settled. absurd (omega (arith, settled_first t p p_settled, counts.low p (rules.inside p q c r).0)) }

  -- a rule that has z alone for a premise leads to a place behind z
  using_later : {z q c : ℕ} → Using Rule z q c → N ≤ q → z < c
  using_later {z} {q} {c} (first r) beyond = rules.later z q c r beyond
  using_later {z} {q} {c} (second r) beyond = absurd (omega (arith, (rules.inside q z c r).0))

  -- a table stays sound where the rules that use a place are relaxed by a right value of it
  pub using_sound : (Led : ℕ → ℕ → Type 0) (m : ℕ) {k z : ℕ} {t t' : List ℕ} → ((p q c v w : ℕ) → Rule p q c → Led p v → Premise Led N q w → Led c (v + w))
      → length t ≡ N → z < N → Led z k → Lowers k (Using Rule z) t t' → Sound Led m t → Sound Led m t'
  using_sound Led m {k} {z} {t} leads long inside z_led run sound =
      lowers_sound Led m (λ q c v uses premise. sound_store uses (subst (λ (l : ℕ). Premise Led l q v) long premise)) run sound
    where
      sound_store : {q c v : ℕ} → Using Rule z q c → Premise Led N q v → Led c (k + v)
      sound_store {q} {c} {v} (first r) premise = leads z q c k v r z_led premise
      sound_store {q} {c} {v} (second r) (led within q_led) = rw (add_comm k v) (leads q z c v k r q_led (led inside z_led))
      sound_store {q} {c} {v} (second r) (missing beyond none) = absurd (omega (arith, (rules.inside q z c r).0))

  module _ {n k z : ℕ} {t t' : List ℕ} (counts : Counts n N t) (positive : 1 ≤ k) (level : entry t z ≡ k) (relaxed : Relaxed k (Using Rule z) t t') where
    -- what was stored while z was relaxed is above the level, or at it behind z
    settled_not_stored : (p : ℕ) → k < entry t p → Settled t' k (z + 1) p → ⊥
    settled_not_stored p high (inl below) = omega (arith, lowers_floor relaxed.lowers (le_refl k) p (omega arith))
    settled_not_stored p high (inr at_level) =
        elim (lowers_to_level relaxed.lowers positive (λ q inside. counts.low q (omega (arith, counts.long))) p (omega arith)) [
          | inl low ↦ omega arith
          | inr rule ↦ omega (arith, using_later rule.2 (omega (arith, rule.1, counts.long)))
        ]

    settled_kept : (p : ℕ) → Settled t' k (z + 1) p → entry t' p ≡ entry t p
    settled_kept p settled =
        elim (dec_le (entry t p) k) [
          | yes low ↦ lowers_keeps relaxed.lowers p low
          | no high ↦ absurd (settled_not_stored p (omega arith) settled)
        ]

    -- A rule whose premises are now settled was just relaxed where one of them is z; otherwise they were settled before.
    pub pass_relaxes : Passed Rule t k z → Passed Rule t' k (z + 1)
    pass_relaxes passed = record { holds = holds_now }
      where
        holds_now : (p q c : ℕ) → Rule p q c → Settled t' k (z + 1) p → Settled t' k (z + 1) q → entry t' c ≤ entry t' p + entry t' q
        holds_now p q c r p_settled q_settled =
            let p_kept : entry t' p ≡ entry t p = settled_kept p p_settled in
            let q_kept : entry t' q ≡ entry t q = settled_kept q q_settled in
            let inside : c < length t = omega (arith, (rules.inside p q c r).2, counts.long) in
            elim (ℕ_discrete p z) [
              | yes p_at_z ↦ omega (arith, ap (entry t) p_at_z, relaxed.holds q c (first (subst (λ (x : ℕ). Rule x q c) p_at_z r)) inside)
              | no p_other ↦ elim (ℕ_discrete q z) [
                | yes q_at_z ↦ omega (arith, ap (entry t) q_at_z, relaxed.holds p c (second (subst (λ (x : ℕ). Rule p x c) q_at_z r)) inside)
                | no q_other ↦
                    let p_before : Settled t k z p = settled_before t t' p p_kept (λ e. p_other) p_settled in
                    let q_before : Settled t k z q = settled_before t t' q q_kept (λ e. q_other) q_settled in
                    omega (arith, passed.holds p q c r p_before q_before, lowers_falls relaxed.lowers c)
              ]
            ]

    -- a sound table stays sound where the rules are
    pub pass_sound : (Led : ℕ → ℕ → Type 0) (m : ℕ) → ((p q c v w : ℕ) → Rule p q c → Led p v → Premise Led N q w → Led c (v + w))
        → z < N → k ≤ m → Sound Led m t → Sound Led m t'
    pass_sound Led m leads inside small sound =
        using_sound Led m leads counts.long inside (subst (Led z) level (sound z (omega (arith, counts.long)) (omega arith))) relaxed.lowers sound

-- ---- from level to level

-- After the last place all entries up to the level are settled, and so are those below the next level where there are none between.
settled_all : {n N k k' : ℕ} {t : List ℕ} → Counts n N t → 1 ≤ k → NoneBetween N t k k' → (p : ℕ) → entry t p < k' → Settled t k N p
settled_all {N = N} {k} {k'} {t} counts positive none p low =
    elim (dec_lt (entry t p) k) [
      | yes below ↦ inl below
      | no not_below ↦ elim (dec_lt p N) [
        | yes inside ↦ elim (dec_le (entry t p) k) [
          | yes not_above ↦ inr (omega arith, inside)
          | no above ↦ absurd (omega (arith, none p inside (omega arith)))
        ]
        | no beyond ↦ absurd (omega (arith, get_or-eq_default t 0 {n = p} (omega (arith, counts.long))))
      ]
    ]

pub next_level : {Rule : Rules} {n N k k' : ℕ} {t : List ℕ} → Counts n N t → 1 ≤ k → NoneBetween N t k k' → Passed Rule t k N → Passed Rule t k' 0
next_level {N = N} {k} {k'} {t} counts positive none passed =
    record { holds = λ p q c r p_settled q_settled. passed.holds p q c r (all p p_settled) (all q q_settled) }
  where
    all : (p : ℕ) → Settled t k' 0 p → Settled t k N p
    all p settled = settled_all counts positive none p (settled_first t p settled)

-- at a level above n all entries up to n are settled
pub closed_above : {Rule : Rules} {n k z : ℕ} {t : List ℕ} → n < k → Passed Rule t k z → Closed Rule n t
closed_above above passed = λ p q c r sum. passed.holds p q c r (inl (omega arith)) (inl (omega arith))
