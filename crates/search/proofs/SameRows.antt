-- Rows read a square of pairs: a list with the same entries there holds the same rows. Assumes nothing.
use mathlib.Core.Logic.{◌⊎◌, inl, inr}
use mathlib.Core.Path.{◌≡◌, sym, ap, ◌∙◌}
use mathlib.Core.List.{List}
use Prim.Native.Nat.{ℕ, suc, ◌+◌, ◌<◌}
use native.Mathlib.Omega.{arith}
use Rattle.trees.specs.Tree.{at}
use Rattle.tables.specs.Rules.{place}
use Rattle.rows.specs.Rows.{read_entry, PathRows}

module _ {count n : ℕ} {children_r children_s target table rows : List ℕ} {t : ℕ} (right : PathRows count n children_r children_s target table rows t)
    (table₁ : List ℕ) (same_pairs : (p q : ℕ) → p < count → q < count → at table₁ (place count p q) ≡ at table (place count p q)) where
  abbrev read : ℕ → ℕ → ℕ
  read i v = read_entry count n children_r children_s target table rows i v

  sum_same : (i v q : ℕ) → v < count → q < count → read i v + at table (place count v q) ≡ read i v + at table₁ (place count v q)
  sum_same i v q k l = ap (λ (m : ℕ). read i v + m) (sym (same_pairs v q k l))

  attained_same : (i q : ℕ) → q < count
      → (at rows (place count (suc i) q) ≡ read i q) ⊎ ((v : ℕ) × (v < count) × (at rows (place count (suc i) q) ≡ read i v + at table (place count v q)))
      → (at rows (place count (suc i) q) ≡ read i q) ⊎ ((v : ℕ) × (v < count) × (at rows (place count (suc i) q) ≡ read i v + at table₁ (place count v q)))
  attained_same i q k (inl e) = inl e
  attained_same i q k (inr (v, l, e)) = inr (v, l, e ∙ sum_same i v q l k)

  pub path_same : PathRows count n children_r children_s target table₁ rows t
  path_same =
      record {
        start = λ q h. right.start q h ∙ sym (same_pairs 0 q (omega arith) h);
        low = right.low;
        round = λ i v q h k l. omega (arith, right.round i v q h k l, same_pairs v q k l);
        attained = λ i q h k. attained_same i q k (right.attained i q h k);
      }
