-- The item on top of a stack gives way to its parts in the way that is chosen for it.
--     Top              what is known of the item on top, which is no factor
--     parts_room       there is room for its parts, and their numbers fit
--     taken_apart      the stack with the parts in its place
-- Assumes nothing.
use mathlib.Core.Path.{◌≡◌, sym, ap, subst, ◌∙◌}
use mathlib.Core.Logic.{inl, inr}
use mathlib.Core.List.{List, ◌∷◌, ◌++◌}
use Prim.Native.Nat.{ℕ, suc, ◌+◌, ◌-◌, ◌*◌, ◌≤◌, ◌<◌}
use native.Mathlib.Omega.{arith}
use lib.ListN.{length}
use Rattle.limits.specs.Limits.{most_factors}
use Rattle.derivations.specs.Derivations.{Tight, Joins}
use Rattle.derivations.specs.Ways.{World, parts_in, weight_in, highest}
use Rattle.derivations.specs.declared.Parts.{Parts}
use Rattle.derivations.specs.declared.Parts.TheVariants.{One, Two, Nothing}
use Rattle.derivations.proofs.Series.{firsts_unique}
use Rattle.derivations.proofs.Steps.{steps, steps_one, steps_wide}
use Rattle.witness.specs.Choices.{choice_at, Coded, Small, Done, Settled, AllSettled}
use Rattle.witness.specs.Stacks.{items_of, Entries, weight_of, steps_left, Spelled, more, Ready, Standing, TakenApart}
use Rattle.witness.proofs.Numbers.{item_low}
use Rattle.witness.proofs.Parted.{parts_entries, parts_few, parts_weigh, parts_ready, parts_join}
use Rattle.witness.proofs.Stacked.{length_weight}

-- ---- parts that are tight, on a stack in the place of their item

module _ (w : World) (x y : ℕ) where
  abbrev Tight-here : Parts → Type 0
  Tight-here ps = Tight (weight_in w) x y ps

  -- above the items that were below it
  module _ (is : List (ℕ × ℕ)) where
    parts_fall : (ps : Parts) → 1 ≤ x → Tight-here ps → steps_left w (items_of ps ++ is) < steps_left w ((x, y) ∷ is)
    parts_fall (One a b) h t = one_falls (weight_in w a b) (weight_in w x y) t.2 t.0
      where
        one_falls : (k l : ℕ) → k ≡ l → a < x → steps (2 * suc (highest w)) k a + steps_left w is < steps (2 * suc (highest w)) l x + steps_left w is
        one_falls k l e h = rw (← e) (omega (arith, steps_one (2 * suc (highest w)) k x a h))
    parts_fall (Two a b c d) h t =
        two_fall (weight_in w a b) (weight_in w c d) (weight_in w x y) t.2
        (steps_wide (suc (highest w)) (weight_in w a b) (weight_in w c d) x a c t.0 t.1 h (omega (arith, item_low w a b t.0)) (omega (arith, item_low w c d t.1)))
      where
        two_fall : (k l m : ℕ) → k + l ≡ m → steps (2 * suc (highest w)) k a + steps (2 * suc (highest w)) l c < steps (2 * suc (highest w)) (k + l) x
            → steps (2 * suc (highest w)) k a + (steps (2 * suc (highest w)) l c + steps_left w is) < steps (2 * suc (highest w)) m x + steps_left w is
        two_fall k l m e f = rw (← e) (omega (arith, f))
    parts_fall Nothing h t = absurd t

    -- the parts spell what the item spells
    parts_spell : (choice : ℕ → ℕ → ℕ) (t : Settled w choice x y) (r : List ℕ)
        → Spelled w ((x, y) ∷ is) r → Spelled w (items_of (parts_in w x y t.way) ++ is) r
    parts_spell choice t r (more {r = p} {s = q} f spelled) =
        parts_join w x y is (parts_in w x y t.way) p q
        (subst (Joins (parts_in w) (weight_in w) (parts_in w x y t.way)) (firsts_unique (parts_in w) (weight_in w) t.firsts f) t.joins) spelled

-- ---- the item on top

-- x and y are the item on top, which is no factor, and the others are below
pub record Top (w : World) (choices : List ℕ) (x y : ℕ) (below : List (ℕ × ℕ)) : Type 0 where
  pub small : Small w choices
  pub settled : AllSettled w (choice_at w.count choices)
  pub standing : Standing w (choice_at w.count choices) ((x, y) ∷ below)
  pub some : 0 < x

module _ {w : World} {choices : List ℕ} {x y : ℕ} {below : List (ℕ × ℕ)} (top : Top w choices x y below) where
  abbrev choice : ℕ → ℕ → ℕ
  choice = choice_at w.count choices

  coded : Coded (choice x y)
  coded = from top.standing.ready.1
    where
      from : Done w choice x y → Coded (choice x y)
      from (inl e) = absurd (omega (arith, top.some))
      from (inr c) = c

  chosen : Settled w choice x y
  chosen = top.settled x y (top.some, top.standing.ready.0) coded

  -- where the parts are those of the way that is chosen
  module _ {ps : Parts} {way : ℕ} (is_way : way ≡ choice x y - 1) (parts : ps ≡ parts_in w x y way) where
    same_parts : ps ≡ parts_in w x y chosen.way
    same_parts = let same : way ≡ chosen.way = omega (arith, is_way, chosen.is) in parts ∙ ap (parts_in w x y) same

    pub parts_room : (length (items_of ps) + length below ≤ most_factors) × Entries (items_of ps)
    parts_room =
        let tight : Tight (weight_in w) x y ps = subst (Tight (weight_in w) x y) (sym same_parts) chosen.tight in
        let few = parts_few w x y ps tight in
        let high = length_weight w choice below top.standing.ready.2 in
        (omega (arith, few, high, top.standing.light), parts_entries w x y top.small ps tight)

    pub taken_apart : (is : List (ℕ × ℕ)) → is ≡ items_of ps ++ below → TakenApart w choice ((x, y) ∷ below) is
    taken_apart is e =
        record {
          standing = record {
            ready = subst (Ready w choice) (sym is_now) (parts_ready w x y below choice chosen_parts chosen.tight chosen.done top.standing.ready.2);
            light = omega (arith, weighs, top.standing.light);
          };
          weighs = weighs;
          spells = λ r spelled. subst (λ (js : List (ℕ × ℕ)). Spelled w js r) (sym is_now) (parts_spell w x y below choice chosen r spelled);
          falls = rw is_now (parts_fall w x y below chosen_parts top.some chosen.tight);
        }
      where
        chosen_parts : Parts
        chosen_parts = parts_in w x y chosen.way

        is_now : is ≡ items_of chosen_parts ++ below
        is_now = e ∙ ap (λ (qs : Parts). items_of qs ++ below) same_parts

        weighs : weight_of w is ≡ weight_of w ((x, y) ∷ below)
        weighs = ap (weight_of w) is_now ∙ parts_weigh w x y below chosen_parts chosen.tight
