-- A series that is spelled in part: how it begins, goes on and ends.
--     halfway_start                   an item alone on the stack, and nothing written
--     factor_room, further_factor     the factor on top is written
--     further_apart                   the item on top is taken apart
--     halfway_done                    the stack is empty, and all is written
-- Assumes nothing.
use mathlib.Core.Path.{◌≡◌, refl, sym, ap, subst, ◌∙◌}
use mathlib.Core.List.{List, [], ◌∷◌, ◌++◌, append-nil, append_assoc}
use Prim.Native.Nat.{ℕ, ◌+◌, ◌≤◌, ◌<◌}
use native.Mathlib.Numerals.{add-one}
use native.Mathlib.Omega.{arith}
use lib.ListN.{length, take, drop, set, length-set, length-append}
use lib.Seq.{length-take-le, take-suc-set, drop-set-lt, drop-drop}
use Rattle.limits.specs.Limits.{most_factors}
use Rattle.derivations.specs.Derivations.{Firsts, factor, chosen}
use Rattle.derivations.specs.Ways.{World, parts_in, weight_in}
use Rattle.derivations.proofs.Series.{firsts_length}
use Rattle.derivations.proofs.Ways.{factor_weight}
use Rattle.witness.specs.Choices.{Done, Small}
use Rattle.witness.specs.Stacks.{steps_left, Spelled, none, more, Standing, TakenApart}
use Rattle.witness.specs.Spelling.{Halfway, Further}
use Rattle.witness.specs.Witness.{Spells}

-- a factor on top spells itself
spelled_factor : (w : World) (j : ℕ) (is : List (ℕ × ℕ)) (r : List ℕ) → Spelled w ((0, j) ∷ is) r → (s : List ℕ) × (r ≡ j ∷ s) × Spelled w is s
spelled_factor w j is r (more {s = s} (factor e) below) = (s, refl, below)
spelled_factor w j is r (more (chosen d h c k others joined no_later) below) = absurd (omega arith)

spelled_none : (w : World) (r : List ℕ) → Spelled w [] r → r ≡ []
spelled_none w r none = refl

drop_one_more : (k : ℕ) (a b : List ℕ) → drop k a ≡ drop k b → drop (k + 1) a ≡ drop (k + 1) b
drop_one_more k a b e = sym (drop-drop 1 k a) ∙ ap (drop 1) e ∙ drop-drop 1 k b

module _ (w : World) (choice : ℕ → ℕ → ℕ) where
  pub halfway_start : (x y : ℕ) (r witness : List ℕ) (is : List (ℕ × ℕ)) → 1 ≤ weight_in w x y → Done w choice x y → weight_in w x y ≤ most_factors
      → weight_in w x y ≤ length witness → Firsts (parts_in w) (weight_in w) x y r → is ≡ (x, y) ∷ [] → Halfway w choice witness r is witness 0
  halfway_start x y r witness is some done light room f e =
      record {
        standing = record { ready = rw e (some, done, tt); light = rw e (omega (arith, light)) };
        rest = r;
        spelled = rw e (subst (Spelled w ((x, y) ∷ [])) (append-nil r) (more f none));
        series = refl;
        room = omega (arith, firsts_length (parts_in w) (weight_in w) f, room);
        within = omega arith;
        behind = refl;
      }

  pub halfway_done : (x y : ℕ) (old r : List ℕ) (is : List (ℕ × ℕ)) (witness : List ℕ) (written : ℕ) → Firsts (parts_in w) (weight_in w) x y r
      → length is ≤ 0 → Halfway w choice old r is witness written → Spells w x y written old witness
  halfway_done x y old r (i ∷ is) witness written f low half = absurd (omega arith)
  halfway_done x y old r [] witness written f low half =
      record {
        firsts = subst (Firsts (parts_in w) (weight_in w) x y) (sym all) f;
        counts = omega (arith, firsts_length (parts_in w) (weight_in w) f, ap length all, length-take-le written witness half.within);
        within = half.within;
        rest = half.behind;
      }
    where
      all : take written witness ≡ r
      all =
          sym (append-nil (take written witness)) ∙ ap (λ (s : List ℕ). take written witness ++ s) (sym (spelled_none w half.rest half.spelled))
          ∙ half.series

  pub further_apart : {is is₁ : List (ℕ × ℕ)} {witness : List ℕ} {written : ℕ} → TakenApart w choice is is₁ → Further w choice is witness written is₁ witness written
  further_apart {is} {is₁} {witness} {written} apart = record { spells = on; falls = apart.falls }
    where
      on : (old r : List ℕ) → Halfway w choice old r is witness written → Halfway w choice old r is₁ witness written
      on old r half =
          record {
            standing = apart.standing;
            rest = half.rest;
            spelled = apart.spells half.rest half.spelled;
            series = half.series;
            room = half.room;
            within = half.within;
            behind = half.behind;
          }

  -- ---- a factor is on top

  module _ (witness : List ℕ) (written j : ℕ) (below : List (ℕ × ℕ)) where
    module _ (standing : Standing w choice ((0, j) ∷ below)) where
      weighs_one : (weight_in w 0 j ≡ 1) × (j < length w.wholes)
      weighs_one = factor_weight w j standing.ready.0

      standing_below : Standing w choice below
      standing_below = record { ready = standing.ready.2; light = omega (arith, standing.light) }

      falls_below : steps_left w below < steps_left w ((0, j) ∷ below)
      falls_below = rw weighs_one.0 (omega arith)

    module _ {old r : List ℕ} (half : Halfway w choice old r ((0, j) ∷ below) witness written) where
      split : (s : List ℕ) × (half.rest ≡ j ∷ s) × Spelled w below s
      split = spelled_factor w j below half.rest half.spelled

      rejoined : take written witness ++ j ∷ split.0 ≡ r
      rejoined = ap (λ (s : List ℕ). take written witness ++ s) (sym split.1) ∙ half.series

      room_left : written < length witness
      room_left =
          omega (
            arith,
            length-append (take written witness) (j ∷ split.0),
            ap length rejoined,
            length-take-le written witness half.within,
            half.room,
          )

      pub factor_room : {choices : List ℕ} → Small w choices → (written < length witness) × (j < 256)
      factor_room small = (room_left, omega (arith, (weighs_one half.standing).1, small.numbers))

      halfway_below : Halfway w choice old r below (set witness written j) (written + 1)
      halfway_below =
          record {
            standing = standing_below half.standing;
            rest = split.0;
            spelled = split.2;
            series = rw (add-one written, take-suc-set witness written j room_left, append_assoc (take written witness) (j ∷ []) split.0) rejoined;
            room = rw (length-set witness written j) half.room;
            within = rw (length-set witness written j) (omega (arith, room_left));
            behind = drop-set-lt (written + 1) witness written j (omega arith) ∙ drop_one_more written witness old half.behind;
          }

    pub further_factor : Standing w choice ((0, j) ∷ below) → Further w choice ((0, j) ∷ below) witness written below (set witness written j) (written + 1)
    further_factor standing = record { spells = λ old r half. halfway_below half; falls = falls_below standing }
