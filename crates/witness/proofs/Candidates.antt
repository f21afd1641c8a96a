-- The ways of an item: there are few, and the parts of a candidate have a series and spell it where they stand alone on a stack.
--     ways_few                       how many ways there are at most
--     way_pushable, way_spelled      the parts of a candidate, on a stack
--     way_joined                     their series
-- Assumes nothing.
use mathlib.Core.Bool.{Bool, true, false}
use mathlib.Core.Logic.{inl, inr}
use mathlib.Core.Path.{◌≡◌, subst}
use mathlib.Core.List.{List, [], ◌∷◌, ◌++◌, append-nil}
use Prim.Native.Nat.{ℕ, zero, suc, ◌+◌, ◌*◌, ◌≤◌}
use native.Mathlib.Omega.{arith}
use lib.Dec.{eqb, ltb}
use lib.ListN.{length}
use Rattle.limits.specs.Limits.{most_factors, most_states}
use Rattle.refusals.specs.Telling.{pick}
use Rattle.trees.specs.Tree.{most_of_entry}
use Rattle.derivations.specs.Derivations.{Tight, Candidate, Firsts, Joins, factor, one, two}
use Rattle.derivations.specs.Ways.{World, parts_in, weight_in, ways}
use Rattle.derivations.specs.declared.Parts.{Parts}
use Rattle.derivations.specs.declared.Parts.TheVariants.{One, Two, Nothing}
use Rattle.derivations.proofs.Ways.{factor_weight}
use Rattle.witness.specs.Choices.{choice_at, Small, Done, PartsDone, AllSettled}
use Rattle.witness.specs.Stacks.{items_of, Entries, Spelled, none}
use Rattle.witness.specs.Choosing.{Choosable}
use Rattle.witness.proofs.Parted.{parts_entries, parts_few, parts_join}

-- ---- how many ways there are

pick_few : (t : Bool) (n a b : ℕ) → a ≤ n → b ≤ n → pick t a b ≤ n
pick_few true n a b h k = h
pick_few false n a b h k = k

pub ways_few : {w : World} {choices : List ℕ} → Small w choices → (x : ℕ) → ways w.count (length w.wholes) x ≤ 2 * most_states
ways_few {w} small x =
    let most : ℕ = 2 * most_states in
    let of_node : pick (ltb w.count x) w.count (w.count + w.count) ≤ most =
    pick_few (ltb w.count x) most w.count (w.count + w.count) (omega (arith, small.few)) (omega (arith, small.few)) in
    pick_few (eqb x 1) most (length w.wholes) _ (omega (arith, small.numbers)) (pick_few (ltb most_of_entry w.count) most 0 _ (omega arith) of_node)

-- ---- the series of parts that are done

module _ (w : World) (choice : ℕ → ℕ → ℕ) (settled : AllSettled w choice) where
  done_firsts : (a b : ℕ) → 1 ≤ weight_in w a b → Done w choice a b → (r : List ℕ) × Firsts (parts_in w) (weight_in w) a b r
  done_firsts zero b h done = (b ∷ [], factor (factor_weight w b h).0)
  done_firsts (suc p) b h (inl e) = absurd (omega arith)
  done_firsts (suc p) b h (inr coded) = let s = settled (suc p) b (omega arith, h) coded in (s.series, s.firsts)

  parts_joined : (x y : ℕ) (ps : Parts) → Tight (weight_in w) x y ps → PartsDone w choice ps → (r : List ℕ) × Joins (parts_in w) (weight_in w) ps r
  parts_joined x y (One a b) t done = let f = done_firsts a b t.1 done in (f.0, one f.1)
  parts_joined x y (Two a b c d) t done =
      let f = done_firsts a b t.0 done.0 in
      let g = done_firsts c d t.1 done.1 in
      (f.0 ++ g.0, two f.1 g.1)
  parts_joined x y Nothing t done = absurd t

-- ---- the parts of a candidate

module _ {w : World} {choices : List ℕ} {x y : ℕ} (k : Choosable w choices x y)
    (d : ℕ) (c : Candidate (parts_in w) (weight_in w) x y d) where
  abbrev choice : ℕ → ℕ → ℕ
  choice = choice_at w.count choices

  pub way_joined : (r : List ℕ) × Joins (parts_in w) (weight_in w) (parts_in w x y d) r
  way_joined = parts_joined w choice k.settled x y (parts_in w x y d) c.tight (k.done d c)

  module _ (ps : Parts) (is_parts : ps ≡ parts_in w x y d) where
    tight_parts : Tight (weight_in w) x y ps
    tight_parts = rw is_parts c.tight

    pub way_pushable : (length (items_of ps) + 0 ≤ most_factors) × Entries (items_of ps)
    way_pushable = (omega (arith, parts_few w x y ps tight_parts, k.light), parts_entries w x y k.small ps tight_parts)

    pub way_spelled : (is : List (ℕ × ℕ)) (r : List ℕ) → is ≡ items_of ps ++ [] → Joins (parts_in w) (weight_in w) (parts_in w x y d) r → Spelled w is r
    way_spelled is r e j = rw e (subst (Spelled w (items_of ps ++ [])) (append-nil r) (parts_join w x y [] ps r [] (rw is_parts j) none))
