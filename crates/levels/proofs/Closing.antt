-- A table of yes and no under rules. The entry of a place that is led to is 1 while the rules in which it is a premise are yet to be used, and 0 when they
-- were: a place is used when its 1 becomes 0 and those rules are relaxed by 1. Other entries are 2, and 0 is the entry of a premise that is missing.
-- Assumes nothing.
use mathlib.Core.Path.{◌≡◌, sym, ap, subst, ◌∙◌}
use mathlib.Core.List.{List, [], ◌∷◌}
use Prim.Native.Nat.{ℕ, zero, suc, ◌+◌, ◌≤◌, ◌<◌}
use native.Mathlib.Nat.{le_refl}
use native.Mathlib.Decide.{ℕ_discrete, dec_lt}
use native.Mathlib.Omega.{arith}
use borrow.Author.Count.{below_more}
use lib.ListN.{length, set, length-set, get_or-eq_default}
use lib.Seq.{get_or-set_same, get_or-set_other}
use Rattle.levels.specs.Levels.{entry, Relaxed, Rules, Using, first, second, Closed}
use Rattle.levels.specs.Passes.{Bounded, Counts, Sound, Premise, Forward}
use Rattle.levels.proofs.Relaxing.{here, elsewhere, stored, lowers_falls, lowers_floor}
use Rattle.levels.proofs.Passing.{bounded_relaxed, using_sound}

-- The conclusion of each rule whose premises were both used is led to.
pub record UsedUp (Rule : Rules) (t : List ℕ) : Type 0 where
  pub holds : (p q c : ℕ) → Rule p q c → entry t p ≡ 0 → entry t q ≡ 0 → entry t c ≤ 1

-- Of a place the table tells only whether it is led to: whatever value it has is right then.
abbrev pub Reached : (ℕ → Type 0) → ℕ → ℕ → Type 0
Reached Led p v = Led p

-- before any place is used only a missing premise is 0, and a rule has another one
pub used_up_begins : {Rule : Rules} {n N : ℕ} {t : List ℕ} → Forward Rule N → Counts n N t → UsedUp Rule t
used_up_begins rules counts = record { holds = λ p q c r p_used. absurd (omega (arith, counts.low p (rules.inside p q c r).0)) }

-- ---- a place is used

pub cleared_bounded : {n N : ℕ} (t : List ℕ) (z : ℕ) → z < length t → Bounded n N t → Bounded n N (set t z 0)
cleared_bounded t z inside bounded =
    record {
      long = length-set t z 0 ∙ bounded.long;
      high = λ p within. elim (stored t z 0 p inside) [
        | here e v ↦ omega arith
        | elsewhere v ↦ omega (arith, bounded.high p within)
      ];
    }

module _ {Rule : Rules} {z : ℕ} (t : List ℕ) {t' : List ℕ} (fresh : entry t z ≡ 1) (relaxed : Relaxed 1 (Using Rule z) (set t z 0) t') where
  -- beyond the end the entry is 0
  within : z < length t
  within =
      elim (dec_lt z (length t)) [
        | yes inside ↦ inside
        | no beyond ↦ absurd (omega (arith, get_or-eq_default t 0 {n = z} (omega arith)))
      ]

  pub use_falls : (p : ℕ) → entry t' p ≤ entry t p
  use_falls p =
      elim (stored t z 0 p within) [
        | here e v ↦ omega (arith, lowers_falls relaxed.lowers p)
        | elsewhere v ↦ omega (arith, lowers_falls relaxed.lowers p)
      ]

  pub use_clears : entry t' z ≡ 0
  use_clears = omega (arith, get_or-set_same t z 0 0 within, lowers_falls relaxed.lowers z)

  pub use_bounded : {n N : ℕ} → Bounded n N t → Bounded n N t'
  use_bounded bounded = bounded_relaxed (cleared_bounded t z within bounded) relaxed

  -- what is 0 now was so before the rules were relaxed, since each value stored is at least 1
  zero_before : (p : ℕ) → entry t' p ≡ 0 → entry (set t z 0) p ≡ 0
  zero_before p now =
      elim (dec_lt 0 (entry (set t z 0) p)) [
        | yes positive ↦ absurd (omega (arith, lowers_floor relaxed.lowers (le_refl 1) p (omega arith)))
        | no none ↦ omega arith
      ]

  module _ {N : ℕ} (rules : Forward Rule N) (long : length t ≡ N) where
    -- A rule whose premises are now used was just relaxed where one of them is z; otherwise they were used before.
    pub use_used_up : UsedUp Rule t → UsedUp Rule t'
    use_used_up used_up = record { holds = holds_now }
      where
        holds_now : (p q c : ℕ) → Rule p q c → entry t' p ≡ 0 → entry t' q ≡ 0 → entry t' c ≤ 1
        holds_now p q c r p_used q_used =
            let p_zero : entry (set t z 0) p ≡ 0 = zero_before p p_used in
            let q_zero : entry (set t z 0) q ≡ 0 = zero_before q q_used in
            let inside : c < length (set t z 0) = omega (arith, (rules.inside p q c r).2, long, length-set t z 0) in
            elim (ℕ_discrete p z) [
              | yes p_at_z ↦ omega (arith, relaxed.holds q c (first (subst (λ (x : ℕ). Rule x q c) p_at_z r)) inside)
              | no p_other ↦ elim (ℕ_discrete q z) [
                | yes q_at_z ↦ omega (arith, relaxed.holds p c (second (subst (λ (x : ℕ). Rule p x c) q_at_z r)) inside)
                | no q_other ↦
                    let p_before : entry t p ≡ 0 = sym (get_or-set_other t z p 0 0 p_other) ∙ p_zero in
                    let q_before : entry t q ≡ 0 = sym (get_or-set_other t z q 0 0 q_other) ∙ q_zero in
                    omega (arith, used_up.holds p q c r p_before q_before, use_falls c)
              ]
            ]

    -- places stay led to, and the rules lead to the new ones
    pub use_sound : (Led : ℕ → Type 0) → ((p q c v w : ℕ) → Rule p q c → Led p → Premise (Reached Led) N q w → Led c)
        → Sound (Reached Led) 1 t → Sound (Reached Led) 1 t'
    use_sound Led leads sound =
        using_sound rules (Reached Led) 1 leads (length-set t z 0 ∙ long) (omega (arith, within, long)) (sound z within (omega arith))
        relaxed.lowers sound_cleared
      where
        sound_cleared : Sound (Reached Led) 1 (set t z 0)
        sound_cleared p inside small =
            elim (stored t z 0 p within) [
              | here e v ↦ sound p (omega (arith, length-set t z 0)) (omega (arith, ap (entry t) e))
              | elsewhere v ↦ sound p (omega (arith, length-set t z 0)) (omega arith)
            ]

-- ---- no place is fresh

module _ (t : List ℕ) (none : (p : ℕ) → p < length t → entry t p ≡ 1 → ⊥) where
  -- each place that is led to was used; beyond the end the entry is 0
  pub none_fresh : (p : ℕ) → entry t p ≤ 1 → entry t p ≡ 0
  none_fresh p small =
      elim (dec_lt p (length t)) [
        | yes inside ↦ elim (ℕ_discrete (entry t p) 1) [
          | yes fresh ↦ absurd (none p inside fresh)
          | no other ↦ omega arith
        ]
        | no beyond ↦ get_or-eq_default t 0 {n = p} (omega arith)
      ]

  pub used_up_closed : {Rule : Rules} → UsedUp Rule t → Closed Rule 1 t
  used_up_closed used_up p q c r sum =
      let p_used : entry t p ≡ 0 = none_fresh p (omega arith) in
      let q_used : entry t q ≡ 0 = none_fresh q (omega arith) in
      omega (arith, none_fresh c (used_up.holds p q c r p_used q_used))

-- where not all of the first `many` places are without the entry v, one has it
pub some_entry : (t : List ℕ) (v many : ℕ) → (((p : ℕ) → p < many → entry t p ≡ v → ⊥) → ⊥) → (p : ℕ) × (p < many) × (entry t p ≡ v)
some_entry t v zero some = absurd (some (λ p inside. absurd (omega arith)))
some_entry t v (suc many) some =
    elim (ℕ_discrete (entry t many) v) [
      | yes found ↦ (many, le_refl _, found)
      | no other ↦
          let earlier = some_entry t v many (λ none. some (λ p inside. below_more (λ q. entry t q ≡ v → ⊥) many none other p (omega arith))) in
          (earlier.0, omega (arith, earlier.1), earlier.2)
    ]

-- ---- the sum of all entries

abbrev pub total : List ℕ → ℕ
total [] = 0
total (n ∷ t) = n + total t

total_falls : (t t' : List ℕ) → length t' ≡ length t → ((p : ℕ) → entry t' p ≤ entry t p) → total t' ≤ total t
total_falls [] [] long falls = le_refl 0
total_falls [] (m ∷ t') long falls = absurd (omega arith)
total_falls (n ∷ t) [] long falls = absurd (omega arith)
total_falls (n ∷ t) (m ∷ t') long falls = omega (arith, falls 0, total_falls t t' (omega arith) (λ p. falls (suc p)))

-- where entries only fall, and one of them does, the sum falls
pub total_less : (t t' : List ℕ) → length t' ≡ length t → ((p : ℕ) → entry t' p ≤ entry t p) → (p : ℕ) → entry t' p < entry t p → total t' < total t
total_less [] [] long falls p less = absurd (omega arith)
total_less [] (m ∷ t') long falls p less = absurd (omega arith)
total_less (n ∷ t) [] long falls p less = absurd (omega arith)
total_less (n ∷ t) (m ∷ t') long falls zero less = omega (arith, total_falls t t' (omega arith) (λ p. falls (suc p)))
total_less (n ∷ t) (m ∷ t') long falls (suc p) less = omega (arith, falls 0, total_less t t' (omega arith) (λ p. falls (suc p)) p less)
