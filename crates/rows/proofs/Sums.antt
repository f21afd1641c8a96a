-- The least of what is read at a node and of the sums over all nodes. Assumes nothing.
use mathlib.Core.Logic.{◌⊎◌, inl, inr}
use mathlib.Core.Path.{◌≡◌, refl, ap}
use mathlib.Core.List.{List}
use Prim.Native.Nat.{ℕ, zero, suc, ◌+◌, ◌≤◌, ◌<◌}
use native.Mathlib.Decide.{ℕ_discrete, dec_le}
use native.Mathlib.Omega.{arith}
use Rattle.trees.specs.Tree.{at}
use Rattle.tables.specs.Rules.{place}
use Rattle.rows.specs.Rounds.{least_sum}

module _ (count : ℕ) (table : List ℕ) (read : ℕ → ℕ) (q : ℕ) where
  pub sum_low : (m : ℕ) → least_sum count table read q m ≤ read q
  sum_low zero = omega arith
  sum_low (suc m) = omega (arith, sum_low m)

  pub sum_round : (m v : ℕ) → v < m → least_sum count table read q m ≤ read v + at table (place count v q)
  sum_round zero v h = absurd (omega arith)
  sum_round (suc m) v h =
      elim (ℕ_discrete v m) [
        | yes same ↦ let last = ap (λ (k : ℕ). read k + at table (place count k q)) same in omega arith
        | no other ↦ omega (arith, sum_round m v (omega arith))
      ]

  -- the least of them is one of them
  abbrev Attained : ℕ → Type 0
  Attained m = (least_sum count table read q m ≡ read q) ⊎ ((v : ℕ) × (v < m) × (least_sum count table read q m ≡ read v + at table (place count v q)))

  attained_more : (m : ℕ) → Attained m → Attained (suc m)
  attained_more m before =
      elim (dec_le (least_sum count table read q m) (read m + at table (place count m q))) [
        | yes h ↦
            elim before [
              | inl e ↦ inl (omega arith)
              | inr e ↦ inr (e.0, omega (arith, e.1), omega (arith, e.2))
            ]
        | no h ↦ inr (m, omega arith, omega arith)
      ]

  pub sum_attained : (m : ℕ) → Attained m
  sum_attained zero = inl refl
  sum_attained (suc m) = attained_more m (sum_attained m)

-- only what is read at q and at the first m nodes matters
pub sum_same : (count : ℕ) (table : List ℕ) (read read' : ℕ → ℕ) (q m : ℕ) → q < count → m ≤ count
    → ((v : ℕ) → v < count → read v ≡ read' v) → least_sum count table read q m ≡ least_sum count table read' q m
sum_same count table read read' q zero h k same = same q h
sum_same count table read read' q (suc m) h k same =
    let before = sum_same count table read read' q m h (omega arith) same in
    let here = same m k in
    omega arith
