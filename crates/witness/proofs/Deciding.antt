-- Two stacks of items, compared by their tops.
--     answers_none, answers_none_other         where one stack is empty the first is not before the second
--     popped                                   an item that is looked at and then taken off
--     answers_differ                           two factors on top that differ decide
--     goes_on_same                             both drop the same item
-- Assumes nothing.
use mathlib.Core.Bool.{Bool, false}
use mathlib.Core.Path.{◌≡◌, refl, subst}
use mathlib.Core.List.{List, [], ◌∷◌, ◌++◌}
use Prim.Native.Nat.{ℕ, ◌<◌}
use native.Mathlib.Omega.{arith}
use lib.ListN.{length}
use Rattle.refusals.specs.Telling.{Tells}
use Rattle.refusals.proofs.Telling.{tells_same}
use Rattle.products.specs.Product.{Before, smaller, further}
use Rattle.products.proofs.Order.{before_behind}
use Rattle.derivations.specs.Derivations.{Firsts, factor, chosen}
use Rattle.derivations.specs.Ways.{World, parts_in, weight_in, highest}
use Rattle.derivations.proofs.Series.{firsts_unique}
use Rattle.derivations.proofs.Steps.{steps_some}
use Rattle.witness.specs.Stacks.{steps_left, none, more, Standing}
use Rattle.witness.specs.Comparing.{Answers, TopsTell, GoesOn}
use Rattle.witness.specs.declared.comparing.Tops.TheVariants.{Same, Differ}

-- what stands in front of both does not matter
before_tails : (i j : ℕ) {r s : List ℕ} → i ≡ j → Before (i ∷ r) (j ∷ s) → Before r s
before_tails i j same (smaller h) = absurd (omega arith)
before_tails i j same (further b) = b

before_rest : (p : List ℕ) {r s : List ℕ} → Before (p ++ r) (p ++ s) → Before r s
before_rest [] b = b
before_rest (i ∷ p) b = before_rest p (before_tails i i refl b)

before_heads : (i j : ℕ) {r s : List ℕ} → (i ≡ j → ⊥) → Before (i ∷ r) (j ∷ s) → i < j
before_heads i j differ (smaller h) = h
before_heads i j differ (further b) = absurd (differ refl)

-- the empty series is before none, and none is before it
before_none : (s : List ℕ) → Before [] s → ⊥
before_none [] b = elim b [ ]
before_none (j ∷ s) b = elim b [ ]

none_before : (r : List ℕ) → Before r [] → ⊥
none_before [] b = elim b [ ]
none_before (i ∷ r) b = elim b [ ]

length-zero : (is : List (ℕ × ℕ)) → length is ≡ 0 → is ≡ []
length-zero [] e = refl
length-zero (i ∷ is) e = absurd (omega arith)

module _ (w : World) where
  -- ---- what the tops of two lists of items tell

  none_first : (js : List (ℕ × ℕ)) → Answers w [] js false
  none_first js r s none spelled = before_none s

  none_second : (is : List (ℕ × ℕ)) → Answers w is [] false
  none_second is r s spelled none = none_before r

  -- the series of a factor
  factor_series : (j : ℕ) (r : List ℕ) → Firsts (parts_in w) (weight_in w) 0 j r → r ≡ j ∷ []
  factor_series j r (factor e) = refl
  factor_series j r (chosen d h c i others joined no_later) = absurd (omega arith)

  factors_differ : (i j : ℕ) (is js : List (ℕ × ℕ)) (b : Bool) → (i ≡ j → ⊥) → Tells b (i < j) → Answers w ((0, i) ∷ is) ((0, j) ∷ js) b
  factors_differ i j is js b differ tells r s (more {r = p} {s = r'} f spelled) (more {r = q} {s = s'} g spelled') =
      rw (factor_series i p f, factor_series j q g) (tells_same b (λ h. smaller h) (before_heads i j differ) tells)

  same_dropped : (x y : ℕ) (is js : List (ℕ × ℕ)) (b : Bool) → Answers w is js b → Answers w ((x, y) ∷ is) ((x, y) ∷ js) b
  same_dropped x y is js b answers r s (more {r = p} {s = r'} f spelled) (more {r = q} {s = s'} g spelled') =
      rw (← firsts_unique (parts_in w) (weight_in w) f g) (tells_same b (before_behind p) (before_rest p) (answers r' s' spelled spelled'))

-- ---- a stack is empty

module _ {w : World} {is js : List (ℕ × ℕ)} where
  pub answers_none : length is ≡ 0 → Answers w is js false
  answers_none e = rw (length-zero is e) (none_first w js)

  pub answers_none_other : length js ≡ 0 → Answers w is js false
  answers_none_other e = rw (length-zero js e) (none_second w is)

-- ---- the tops

-- what was looked at is what is taken off
pub popped : {is below left : List (ℕ × ℕ)} {i j : ℕ × ℕ} → is ≡ i ∷ below → is ≡ j ∷ left → is ≡ i ∷ left
popped e f = cc

module _ {w : World} {choice : ℕ → ℕ → ℕ} {x y : ℕ} {is : List (ℕ × ℕ)} (standing : Standing w choice ((x, y) ∷ is)) where
  standing_rest : Standing w choice is
  standing_rest = record { ready = standing.ready.2; light = omega (arith, standing.light) }

  rest_falls : steps_left w is < steps_left w ((x, y) ∷ is)
  rest_falls = omega (arith, steps_some (highest w) (weight_in w x y) x standing.ready.0)

module _ {w : World} {x y u v : ℕ} {is js below under : List (ℕ × ℕ)} (first : is ≡ (x, y) ∷ below) (second : js ≡ (u, v) ∷ under) where
  pub answers_differ : (b : Bool) → TopsTell x y u v (Differ b) → Answers w is js b
  answers_differ b told = rw (first, second, told.0, told.1) (factors_differ w y v below under b told.2 told.3)

  pub goes_on_same : {choice : ℕ → ℕ → ℕ} → Standing w choice is → Standing w choice js → TopsTell x y u v Same → GoesOn w choice is js below under
  goes_on_same {choice} standing standing' told = rw (first, second) (dropped (subst (Standing w choice) first standing) (subst (Standing w choice) second standing'))
    where
      dropped : Standing w choice ((x, y) ∷ below) → Standing w choice ((u, v) ∷ under) → GoesOn w choice ((x, y) ∷ below) ((u, v) ∷ under) below under
      dropped a b =
          record {
            on = record {
              first = standing_rest a;
              second = standing_rest b;
              same = λ t answers. rw (told.0, told.1) (same_dropped w u v below under t answers);
            };
            falls = omega (arith, rest_falls a, rest_falls b);
          }
