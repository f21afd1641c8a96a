-- What the parts of a pair's rules come to: a store at one place, at a pair of nodes, and at what was found. Assumes nothing.
use mathlib.Core.Path.{◌≡◌, sym, ap, subst, ◌∙◌}
use mathlib.Core.Logic.{inl, inr}
use mathlib.Core.List.{List}
use Prim.Native.Nat.{ℕ, ◌+◌, ◌*◌, ◌≤◌, ◌<◌}
use native.Mathlib.Omega.{arith}
use Rattle.limits.specs.Limits.{most_factors}
use Rattle.trees.specs.Tree.{most_of_entry}
use Rattle.levels.specs.Levels.{entry, Uses, Relaxed}
use Rattle.levels.specs.Passes.{Only, Upto, Bounded}
use Rattle.levels.proofs.Relaxing.{relaxed_already, relaxed_same, relaxed_none}
use Rattle.levels.proofs.Passing.{bounded_relaxed}
use Rattle.tables.specs.Rules.{place}
use Rattle.tables.specs.Nodes.{Finds}
use Rattle.tables.specs.Relaxing.{Ready, Inside, UsesF}

-- entries up to n + 1 are entries up to one more than the most that n is
pub ready : {count n k : ℕ} {t : List ℕ} → count ≤ most_of_entry → n ≤ most_factors → 1 ≤ k → k ≤ n → Bounded n (count * count) t → Ready count k t
ready few bound positive small bounded =
    record {
      few = few;
      positive = positive;
      small = omega arith;
      bounded = record { long = bounded.long; high = λ p inside. omega (arith, bounded.high p inside) };
    }

-- another table at the same level
pub ready_bounded : {count k : ℕ} {t t' : List ℕ} → Ready count k t → Bounded most_factors (count * count) t' → Ready count k t'
ready_bounded ready bounded = record { few = ready.few; positive = ready.positive; small = ready.small; bounded = bounded }

pub ready_relaxed : {count k : ℕ} {Y : Uses} {t t' : List ℕ} → Ready count k t → Relaxed k Y t t' → Ready count k t'
ready_relaxed ready relaxed = ready_bounded ready (bounded_relaxed ready.bounded relaxed)

-- a level and an entry fit 16 bits together
pub sum_fits : {count k : ℕ} {t : List ℕ} {q : ℕ} → Ready count k t → q < count * count → k + entry t q ≤ most_of_entry
sum_fits {q = q} ready inside = omega (arith, ready.small, ready.bounded.high q inside)

-- the same places under other names
pub relaxed_at : {k : ℕ} {t t' : List ℕ} (q q' c c' : ℕ) → q ≡ q' → c ≡ c' → Relaxed k (Only q c) t t' → Relaxed k (Only q' c') t t'
relaxed_at {k} {t} {t'} q q' c c' from to relaxed =
    subst (λ (x : ℕ). Relaxed k (Only x c') t t') from (subst (λ (x : ℕ). Relaxed k (Only q x) t t') to relaxed)

-- a loop that has come to its end
pub relaxed_all : {k : ℕ} {t t' : List ℕ} (Y : ℕ → Uses) (i count : ℕ) → i ≡ count → Relaxed k (Upto Y i) t t' → Relaxed k (Upto Y count) t t'
relaxed_all {k} {t} {t'} Y i count end relaxed = subst (λ (j : ℕ). Relaxed k (Upto Y j) t t') end relaxed

-- F at a pair of one node twice: each entry is already at most k more than itself
pub one_node_relaxed : {count x y k : ℕ} {t : List ℕ} → x ≡ y → Relaxed k (UsesF count x y) t t
one_node_relaxed {count} {x} {y} {k} {t} e =
    relaxed_already
    (λ q c either within. elim either [
      | inl turn ↦ low q c (turn.2.1 ∙ ap (λ (z : ℕ). place count z turn.0) e ∙ sym turn.2.0)
      | inr turn ↦ low q c (turn.2.1 ∙ ap (place count turn.0) (sym e) ∙ sym turn.2.0)
    ])
  where
    low : (q c : ℕ) → c ≡ q → entry t c ≤ k + entry t q
    low q c same = omega (arith, ap (entry t) same)

-- ---- where both numbers are nodes, and where one is not

module _ {count a b k : ℕ} (Y : ℕ → ℕ → Uses) where
  pub inside_relaxed : {t t' : List ℕ} → a < count → b < count → Relaxed k (Y a b) t t' → Relaxed k (Inside count a b Y) t t'
  inside_relaxed row column relaxed = relaxed_same (λ q c y within. (row, column, y)) (λ q c y within. y.2) relaxed

  pub outside_relaxed : {t : List ℕ} → (a < count → b < count → ⊥) → Relaxed k (Inside count a b Y) t t
  outside_relaxed outside = relaxed_none (λ q c y. outside y.0 y.1)

-- ---- where a node is found

abbrev AtFound : ℕ → (ℕ → Type 0) → (ℕ → Uses) → Uses
AtFound count P Y q c = (s : ℕ) × (s < count) × P s × Y s q c

module _ {count r : ℕ} {P : ℕ → Type 0} (Y : ℕ → Uses) (finds : Finds count P r) where
  pub found_relaxed : {k : ℕ} {t t' : List ℕ} → r < count → Relaxed k (Y r) t t' → Relaxed k (AtFound count P Y) t t'
  found_relaxed inside relaxed =
      relaxed_same (λ q c y within. (r, inside, finds.found inside, y))
      (λ q c y within. subst (λ (s : ℕ). Y s q c) (finds.only y.0 y.1 y.2) y.3) relaxed
