-- Parts that are tight, on a stack in the place of their item.
--     parts_entries, parts_few    their numbers fit in entries, and they are no more than the item weighs
--     parts_weigh, parts_ready    they weigh what the item does, and can be spelled if they are done
--     parts_join                  they spell their series
-- Assumes nothing.
use mathlib.Core.Path.{◌≡◌}
use mathlib.Core.List.{List, ◌∷◌, ◌++◌, append_assoc}
use Prim.Native.Nat.{ℕ, ◌≤◌}
use native.Mathlib.Omega.{arith}
use lib.ListN.{length}
use Rattle.derivations.specs.Derivations.{Tight, Joins, one, two}
use Rattle.derivations.specs.Ways.{World, parts_in, weight_in}
use Rattle.derivations.specs.declared.Parts.{Parts}
use Rattle.derivations.specs.declared.Parts.TheVariants.{One, Two, Nothing}
use Rattle.witness.specs.Choices.{Small, PartsDone}
use Rattle.witness.specs.Stacks.{items_of, Entries, weight_of, Spelled, more, Ready}
use Rattle.witness.proofs.Numbers.{item_entries}

module _ (w : World) (x y : ℕ) where
  abbrev Tight-here : Parts → Type 0
  Tight-here ps = Tight (weight_in w) x y ps

  pub parts_entries : {choices : List ℕ} → Small w choices → (ps : Parts) → Tight-here ps → Entries (items_of ps)
  parts_entries small (One a b) t = let low = item_entries small a b t.1 in (low.0, low.1, tt)
  parts_entries small (Two a b c d) t =
      let first = item_entries small a b t.0 in
      let second = item_entries small c d t.1 in
      (first.0, first.1, (second.0, second.1, tt))
  parts_entries small Nothing t = absurd t

  pub parts_few : (ps : Parts) → Tight-here ps → length (items_of ps) ≤ weight_in w x y
  parts_few (One a b) t = omega (arith, t.1, t.2)
  parts_few (Two a b c d) t = omega (arith, t.0, t.1, t.2)
  parts_few Nothing t = absurd t

  -- above the items that were below it
  module _ (is : List (ℕ × ℕ)) where
    pub parts_weigh : (ps : Parts) → Tight-here ps → weight_of w (items_of ps ++ is) ≡ weight_of w ((x, y) ∷ is)
    parts_weigh (One a b) t = omega (arith, t.2)
    parts_weigh (Two a b c d) t = omega (arith, t.2)
    parts_weigh Nothing t = absurd t

    pub parts_ready : (choice : ℕ → ℕ → ℕ) (ps : Parts) → Tight-here ps → PartsDone w choice ps → Ready w choice is → Ready w choice (items_of ps ++ is)
    parts_ready choice (One a b) t done r = (t.1, done, r)
    parts_ready choice (Two a b c d) t done r = (t.0, done.0, (t.1, done.1, r))
    parts_ready choice Nothing t done r = absurd t

    pub parts_join : (ps : Parts) (r s : List ℕ) → Joins (parts_in w) (weight_in w) ps r → Spelled w is s → Spelled w (items_of ps ++ is) (r ++ s)
    parts_join ps r s (one f) spelled = more f spelled
    parts_join ps r s (two {r = p} {s = q} f g) spelled = rw (append_assoc p q s) (more f (more g spelled))
