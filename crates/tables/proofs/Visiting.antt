-- What follows from a pass in which place after place is visited, whatever a visit does, and where places are visited at a level. Assumes, where it says so,
-- that the rules lead forward.
use mathlib.Core.Path.{◌≡◌, refl, sym, subst}
use mathlib.Core.List.{List}
use Prim.Native.Nat.{ℕ, ◌+◌, ◌*◌, ◌≤◌, ◌<◌}
use native.Mathlib.Nat.{le_refl}
use native.Mathlib.Decide.{ℕ_discrete, le_ind}
use native.Mathlib.Numerals.{add-one}
use native.Mathlib.Omega.{arith}
use lib.ListN.{length}
use Rattle.limits.specs.Limits.{most_factors}
use Rattle.levels.specs.Levels.{entry, Rules}
use Rattle.levels.specs.Passes.{Bounded, Counts, Sound, Premise, Forward, Passed}
use Rattle.levels.proofs.Relaxing.{lowers_falls, relaxed_already}
use Rattle.levels.proofs.Passing.{bounded_relaxed, counts_relaxed, pass_skips, pass_relaxes, pass_sound}
use Rattle.tables.specs.Rules.{place, next_pair}
use Rattle.tables.specs.Relaxing.{Ready}
use Rattle.tables.specs.Levelling.{Visited, relaxed, skipped, Passes, begin, visit}
use Rattle.tables.proofs.Places.{next_stands}
use Rattle.tables.proofs.Steps.{ready_bounded}

-- ---- whatever a visit does

module _ {Visits : ℕ → List ℕ → List ℕ → Type 0} where
  -- what each visit keeps, a pass keeps
  pub passes_keep : (P : List ℕ → Type 0) → ((z : ℕ) (t t' : List ℕ) → Visits z t t' → P t → P t')
      → {z : ℕ} {t t' : List ℕ} → Passes Visits z t t' → P t → P t'
  passes_keep P keeps begin start = start
  passes_keep P keeps (visit {z} {t} {t'} {t''} run last) start = keeps z t' t'' last (passes_keep P keeps run start)

  pub passes_falls : ((z : ℕ) (t t' : List ℕ) → Visits z t t' → (p : ℕ) → entry t' p ≤ entry t p)
      → {z : ℕ} {t t' : List ℕ} → Passes Visits z t t' → (p : ℕ) → entry t' p ≤ entry t p
  passes_falls falls {z} {t} run p =
      passes_keep (λ (s : List ℕ). entry s p ≤ entry t p) (λ z s s' last so_far. omega (arith, falls z s s' last p)) run (le_refl _)

  pub passes_ready : {count k : ℕ} → ((z : ℕ) (t t' : List ℕ) → Visits z t t' → Bounded most_factors (count * count) t → Bounded most_factors (count * count) t')
      → {z : ℕ} {t t' : List ℕ} → Ready count k t → Passes Visits z t t' → Ready count k t'
  passes_ready {count} keeps ready run = ready_bounded ready (passes_keep (Bounded most_factors (count * count)) keeps run ready.bounded)

  -- places whose visit changes nothing are passed over
  pub passes_over : {z z' : ℕ} {t t' : List ℕ} → z ≤ z' → ((m : ℕ) → z ≤ m → m < z' → Visits m t' t') → Passes Visits z t t' → Passes Visits z' t t'
  passes_over {z} {z'} {t} {t'} later same run =
      le_ind
      (λ (m : ℕ). ((i : ℕ) → z ≤ i → i < m → Visits i t' t') → Passes Visits m t t')
      (λ none. run)
      (λ m behind so_far all.
      subst (λ (end : ℕ). Passes Visits end t t') (add-one m) (visit (so_far (λ i from inside. all i from (omega arith))) (all m behind (omega arith))))
      z'
      later
      same

  -- Places are passed over up to a pair, and the pair is visited: the pass has come to the pair after it.
  pub passes_next : (width row column p q : ℕ) {from : ℕ} {t t' t'' : List ℕ} → column < width → (p, q) ≡ next_pair width row column
      → from ≤ place width row column → ((m : ℕ) → from ≤ m → m < place width row column → Visits m t' t') → Visits (place width row column) t' t''
      → Passes Visits from t t' → Passes Visits (place width p q) t t''
  passes_next width row column p q {t = t} {t'' = t''} below is later same last run =
      subst (λ (z : ℕ). Passes Visits z t t'') (sym (next_stands width row column below is).1) (visit (passes_over later same run) last)

-- ---- at a level

module _ {Rule : Rules} {k : ℕ} where
  visited_counts : {n N z : ℕ} {t t' : List ℕ} → Counts n N t → 1 ≤ k → Visited Rule k z t t' → Counts n N t'
  visited_counts counts positive (relaxed level run) = counts_relaxed counts positive run
  visited_counts counts positive (skipped other same) = rw same counts

  pub visited_bounded : {n N : ℕ} (z : ℕ) (t t' : List ℕ) → Visited Rule k z t t' → Bounded n N t → Bounded n N t'
  visited_bounded z t t' (relaxed level run) bounded = bounded_relaxed bounded run
  visited_bounded z t t' (skipped other same) bounded = rw same bounded

  pub visited_falls : (z : ℕ) (t t' : List ℕ) → Visited Rule k z t t' → (p : ℕ) → entry t' p ≤ entry t p
  visited_falls z t t' (relaxed level run) p = lowers_falls run.lowers p
  visited_falls z t t' (skipped other same) p = rw same (le_refl _)

  pub passes_counts : {n N z : ℕ} {t t' : List ℕ} → Counts n N t → 1 ≤ k → Passes (Visited Rule k) z t t' → Counts n N t'
  passes_counts {n} {N} counts positive run = passes_keep (Counts n N) (λ z t t' last before. visited_counts before positive last) run counts

  -- where no entry lies above the level, no place's visit changes anything
  pub passes_low : {t : List ℕ} → ((p : ℕ) → p < length t → entry t p ≤ k) → (z : ℕ) → Passes (Visited Rule k) z t t
  passes_low {t} low z = passes_over {z = 0} (omega arith) (λ m behind inside. visited_low m) begin
    where
      visited_low : (m : ℕ) → Visited Rule k m t t
      visited_low m =
          elim (ℕ_discrete (entry t m) k) [
            | yes level ↦ relaxed level (relaxed_already (λ q c uses within. omega (arith, low c within)))
            | no other ↦ skipped other refl
          ]

  module _ {n N : ℕ} (rules : Forward Rule N) (positive : 1 ≤ k) where
    visited_passed : {z : ℕ} {t t' : List ℕ} → Counts n N t → Visited Rule k z t t' → Passed Rule t k z → Passed Rule t' k (z + 1)
    visited_passed counts (relaxed level run) passed = pass_relaxes rules counts positive level run passed
    visited_passed counts (skipped other same) passed = rw same (pass_skips other passed)

    pub passes_passed : {z : ℕ} {t t' : List ℕ} → Counts n N t → Passes (Visited Rule k) z t t' → Passed Rule t k 0 → Passed Rule t' k z
    passes_passed counts begin passed = passed
    passes_passed counts (visit run last) passed = visited_passed (passes_counts counts positive run) last (passes_passed counts run passed)

    module _ (Led : ℕ → ℕ → Type 0) (leads : (p q c v v' : ℕ) → Rule p q c → Led p v → Premise Led N q v' → Led c (v + v')) (small : k ≤ n) where
      visited_sound : {z : ℕ} {t t' : List ℕ} → Counts n N t → z < N → Visited Rule k z t t' → Sound Led n t → Sound Led n t'
      visited_sound counts inside (relaxed level run) sound = pass_sound rules counts positive level run Led n leads inside small sound
      visited_sound counts inside (skipped other same) sound = rw same sound

      pub passes_sound : {z : ℕ} {t t' : List ℕ} → Counts n N t → z ≤ N → Passes (Visited Rule k) z t t' → Sound Led n t → Sound Led n t'
      passes_sound counts inside begin sound = sound
      passes_sound counts inside (visit run last) sound =
          visited_sound (passes_counts counts positive run) (omega arith) last (passes_sound counts (omega arith) run sound)
