-- What the rules make, for any weight: a conclusion from its premises, and the table after rule A, which is the first to be used. Assumes that there is a node,
-- and that the nodes of whole generators are nodes.
use mathlib.Core.Path.{◌≡◌, refl, ap, ◌∙◌}
use mathlib.Core.List.{List}
use Prim.Native.Nat.{ℕ, ◌+◌, ◌*◌, ◌≤◌, ◌<◌}
use native.Mathlib.Nat.{le_refl}
use native.Mathlib.Omega.{arith}
use lib.ListN.{length, replicate, length-replicate, get_or-replicate, get_or-eq_default}
use Rattle.trees.specs.Tree.{at}
use Rattle.levels.specs.Levels.{entry, Relaxed}
use Rattle.levels.specs.Passes.{Counts, Sound, Premise, led, missing}
use Rattle.levels.proofs.Relaxing.{lowers_sound}
use Rattle.levels.proofs.Passing.{counts_relaxed}
use Rattle.tables.specs.Rules.{place, Rule}
use Rattle.tables.specs.Nodes.{AllBelow}
use Rattle.tables.specs.Levelling.{Starts, Made, one, two}
use Rattle.tables.proofs.Places.{place_inside}

pub made_step : (count : ℕ) (letters rests wholes : List ℕ) (weight : List ℕ → ℕ) (p q c v v' : ℕ) → Rule count letters rests p q c
    → Made count letters rests wholes weight p v → Premise (Made count letters rests wholes weight) (count * count) q v'
    → Made count letters rests wholes weight c (v + v')
made_step count letters rests wholes weight p q c v v' rule made (led inside other) = two rule made other
made_step count letters rests wholes weight p q c v v' rule made (missing past none) = let sum : v + v' ≡ v = omega arith in rw sum (one rule past made)

-- Only rule A has been used: `Led p v` says that v is a right value at the place p.
pub record Started (count : ℕ) (wholes : List ℕ) (Led : ℕ → ℕ → Type 0) (n : ℕ) (t : List ℕ) : Type 0 where
  pub counts : Counts n (count * count) t
  pub starts : (j : ℕ) → j < length wholes → entry t (place count 0 (at wholes j)) ≤ 1
  pub sound : Sound Led n t

cleared : (count n : ℕ) {t : List ℕ} → t ≡ replicate (count * count) (n + 1) → Counts n (count * count) t
cleared count n same =
    rw same
    (record {
      long = length-replicate (count * count) (n + 1);
      low = λ p inside. omega (arith, get_or-replicate (count * count) p (n + 1) 0 inside);
      high = λ p inside. omega (arith, get_or-replicate (count * count) p (n + 1) 0 inside);
    })

module _ (count : ℕ) (wholes : List ℕ) (Led : ℕ → ℕ → Type 0) (n : ℕ) where
  pub started : {t t' : List ℕ} → ((j : ℕ) → j < length wholes → Led (place count 0 (at wholes j)) 1) → 1 ≤ count → AllBelow wholes (length wholes) count
      → t ≡ replicate (count * count) (n + 1) → Relaxed 1 (Starts count wholes) t t' → Started count wholes Led n t'
  started {t} {t'} whole_led some inside same relaxed =
      record {
        counts = counts_relaxed clear (le_refl 1) relaxed;
        starts = λ j below.
            omega (
              arith,
              relaxed.holds (count * count) (place count 0 (at wholes j)) (j, below, (refl, refl))
                  (omega (arith, clear.long, place_inside {x = 0} some (inside j below))),
              get_or-eq_default t 0 {n = count * count} (omega (arith, clear.long)),
            );
        sound = lowers_sound Led n leads relaxed.lowers none_yet;
      }
    where
      clear : Counts n (count * count) t
      clear = cleared count n same

      leads : (q c v : ℕ) → Starts count wholes q c → Premise Led (length t) q v → Led c (1 + v)
      leads q c v (j, below, (past, target)) (led within other) = absurd (omega (arith, clear.long))
      leads q c v (j, below, (past, target)) (missing beyond none) = rw (none, target) (whole_led j below)

      none_yet : Sound Led n t
      none_yet p within small =
          let none : entry t p ≡ n + 1 = ap (λ (l : List ℕ). entry l p) same ∙ get_or-replicate (count * count) p (n + 1) 0 (omega (arith, clear.long)) in
          absurd (omega arith)
