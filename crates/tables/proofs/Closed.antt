-- The table of yes and no before each sweep, from the first, where only rule A has been used, to the end. Assumes that each node but the first is behind its
-- rest, and that the nodes of whole generators are nodes.
use mathlib.Core.Path.{◌≡◌, refl, sym, ◌∙◌}
use mathlib.Core.List.{List}
use Prim.Native.Nat.{ℕ, ◌*◌, ◌≤◌, ◌<◌}
use native.Mathlib.Omega.{arith}
use lib.ListN.{length, replicate}
use Rattle.products.specs.State.{weightless}
use Rattle.trees.specs.Tree.{at}
use Rattle.levels.specs.Levels.{entry, Relaxed}
use Rattle.levels.specs.Passes.{Bounded, Sound, Premise, led, missing}
use Rattle.levels.proofs.Passing.{counts_bounded}
use Rattle.levels.proofs.Closing.{UsedUp, Reached, used_up_begins, use_used_up, use_sound, none_fresh, used_up_closed, total, total_less}
use Rattle.tables.specs.Rules.{place, Rule}
use Rattle.tables.specs.Nodes.{RestsEarlier, AllBelow}
use Rattle.tables.specs.Levelling.{Passes, Starts, Made, whole, Full}
use Rattle.tables.specs.Closing.{Used, used, skipped}
use Rattle.tables.proofs.Forward.{rules_forward}
use Rattle.tables.proofs.Visiting.{passes_keep, passes_falls}
use Rattle.tables.proofs.Using.{used_bounded, used_falls, passes_clear}
use Rattle.tables.proofs.Making.{made_step, started}

module _ (count : ℕ) (letters rests wholes : List ℕ) where
  -- the rules lead to the place p, where every series weighs nothing
  abbrev Led : ℕ → Type 0
  Led p = Made count letters rests wholes weightless p 0

  -- Some places were used, and what they lead to together is led to.
  pub record Swept (t : List ℕ) : Type 0 where
    pub bounded : Bounded 1 (count * count) t
    pub starts : (j : ℕ) → j < length wholes → entry t (place count 0 (at wholes j)) ≤ 1
    pub used_up : UsedUp (Rule count letters rests) t
    pub made : Sound (Reached Led) 1 t

  led_step : (p q c v w : ℕ) → Rule count letters rests p q c → Led p → Premise (Reached Led) (count * count) q w → Led c
  led_step p q c v w rule made (led inside other) = made_step count letters rests wholes weightless p q c 0 0 rule made (led inside other)
  led_step p q c v w rule made (missing past none) = made_step count letters rests wholes weightless p q c 0 0 rule made (missing past refl)

  module _ (earlier : RestsEarlier rests count) where
    pub swept_begins : {t t' : List ℕ} → 1 ≤ count → AllBelow wholes (length wholes) count → t ≡ replicate (count * count) 2
        → Relaxed 1 (Starts count wholes) t t' → Swept t'
    swept_begins some inside same relaxed =
        let begun = started count wholes (Reached Led) 1 whole some inside same relaxed in
        record {
          bounded = counts_bounded begun.counts;
          starts = begun.starts;
          used_up = used_up_begins (rules_forward count letters rests earlier) begun.counts;
          made = begun.sound;
        }

    used_swept : (z : ℕ) (t t' : List ℕ) → Used (Rule count letters rests) z t t' → Swept t → Swept t'
    used_swept z t t' (used fresh run) swept =
        record {
          bounded = used_bounded z t t' (used fresh run) swept.bounded;
          starts = λ j below. omega (arith, swept.starts j below, used_falls z t t' (used fresh run) (place count 0 (at wholes j)));
          used_up = use_used_up t fresh run (rules_forward count letters rests earlier) swept.bounded.long swept.used_up;
          made = use_sound t fresh run (rules_forward count letters rests earlier) swept.bounded.long Led led_step swept.made;
        }
    used_swept z t t' (skipped other same) swept = rw same swept

    pub swept_more : {z : ℕ} {t t' : List ℕ} → Swept t → Passes (Used (Rule count letters rests)) z t t' → Swept t'
    swept_more swept passes = passes_keep Swept used_swept passes swept

    -- a sweep that finds a place whose rules are yet to be used brings the sum of all entries down
    pub swept_less : {t t' : List ℕ} → Swept t → Passes (Used (Rule count letters rests)) (count * count) t t'
        → (p : ℕ) → p < length t → entry t p ≡ 1 → total t' < total t
    swept_less {t} {t'} swept passes p inside fresh =
        total_less t t' ((swept_more swept passes).bounded.long ∙ sym swept.bounded.long) (passes_falls used_falls passes) p
        (omega (arith, passes_clear passes p (omega (arith, swept.bounded.long)) (omega arith)))

  -- where no place is left whose rules are yet to be used, the table is full
  pub swept_full : {t : List ℕ} → Swept t → ((p : ℕ) → p < length t → entry t p ≡ 1 → ⊥) → Full count letters rests wholes weightless 1 t
  swept_full {t} swept none =
      record {
        bounded = swept.bounded;
        starts = λ j below. omega (arith, none_fresh t none (place count 0 (at wholes j)) (swept.starts j below));
        closed = used_up_closed t none swept.used_up;
        made = λ p inside small. rw (none_fresh t none p small) (swept.made p inside small);
      }
