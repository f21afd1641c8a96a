-- The table before each level, from the first, where only rule A has been used, to the end. Assumes that each node but the first is behind
-- its rest, and that the nodes of whole generators are nodes.
use mathlib.Core.Path.{◌≡◌, subst}
use mathlib.Core.List.{List}
use Prim.Native.Nat.{ℕ, ◌+◌, ◌*◌, ◌≤◌, ◌<◌}
use native.Mathlib.Nat.{le_refl}
use native.Mathlib.Omega.{arith}
use lib.ListN.{length, replicate}
use Rattle.products.specs.Product.{measure}
use Rattle.trees.specs.Tree.{at}
use Rattle.levels.specs.Levels.{entry, Relaxed}
use Rattle.levels.specs.Passes.{Counts, Sound, Passed, NoneBetween}
use Rattle.levels.proofs.Passing.{counts_bounded, pass_begins, next_level, closed_above}
use Rattle.tables.specs.Rules.{place, Rule}
use Rattle.tables.specs.Nodes.{RestsEarlier, AllBelow}
use Rattle.tables.specs.Levelling.{Visited, Passes, NextLevel, Starts, Made, whole, Full}
use Rattle.tables.proofs.Forward.{rules_forward}
use Rattle.tables.proofs.Visiting.{passes_falls, visited_falls, passes_counts, passes_passed, passes_sound}
use Rattle.tables.proofs.Making.{made_step, started}

-- The pass at level k is about to begin: the passes of all lower levels are done.
pub record Levelled (count : ℕ) (letters rests wholes : List ℕ) (n k : ℕ) (t : List ℕ) : Type 0 where
  pub counts : Counts n (count * count) t
  pub starts : (j : ℕ) → j < length wholes → entry t (place count 0 (at wholes j)) ≤ 1
  pub passed : Passed (Rule count letters rests) t k 0
  pub made : Sound (Made count letters rests wholes measure) n t

module _ (count : ℕ) (letters rests wholes : List ℕ) (earlier : RestsEarlier rests count) (n : ℕ) where
  pub levelled_begins : {t t' : List ℕ} → 1 ≤ count → AllBelow wholes (length wholes) count → t ≡ replicate (count * count) (n + 1)
      → Relaxed 1 (Starts count wholes) t t' → Levelled count letters rests wholes n 1 t'
  levelled_begins some inside same relaxed =
      let begun = started count wholes (Made count letters rests wholes measure) n whole some inside same relaxed in
      record {
        counts = begun.counts;
        starts = begun.starts;
        passed = pass_begins (rules_forward count letters rests earlier) begun.counts;
        made = begun.sound;
      }

  pub levelled_more : {k next : ℕ} {t t' : List ℕ} → 1 ≤ k → k ≤ n → Levelled count letters rests wholes n k t
      → Passes (Visited (Rule count letters rests) k) (count * count) t t' → NextLevel n t' k next → Levelled count letters rests wholes n next t'
  levelled_more {k} {next} {t} {t'} positive small levelled passes after =
      record {
        counts = counts;
        starts = λ j below. omega (arith, levelled.starts j below, passes_falls visited_falls passes (place count 0 (at wholes j)));
        passed =
            next_level counts positive (subst (λ (N : ℕ). NoneBetween N t' k next) counts.long after.none_between)
            (passes_passed (rules_forward count letters rests earlier) positive levelled.counts passes levelled.passed);
        made =
            passes_sound (rules_forward count letters rests earlier) positive (Made count letters rests wholes measure) (made_step count letters rests wholes measure) small
            levelled.counts (le_refl _) passes levelled.made;
      }
    where
      counts : Counts n (count * count) t'
      counts = passes_counts levelled.counts positive passes

  pub levelled_full : {k : ℕ} {t : List ℕ} → n < k → Levelled count letters rests wholes n k t → Full count letters rests wholes measure n t
  levelled_full above levelled =
      record { bounded = counts_bounded levelled.counts; starts = levelled.starts; closed = closed_above above levelled.passed; made = levelled.made }
