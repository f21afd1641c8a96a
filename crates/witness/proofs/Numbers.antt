-- The numbers of an item that weighs 1 or more.
--     item_low        its first number is no greater than the highest
--     item_entries    both fit in entries
--     item_place      it has a place in the table of choices, where it is no factor
-- Assumes that the list and the target are small.
use mathlib.Core.Path.{◌≡◌}
use mathlib.Core.List.{List}
use Prim.Native.Nat.{ℕ, zero, suc, ◌-◌, ◌≤◌, ◌<◌}
use native.Mathlib.Omega.{arith}
use lib.Arith.{digits_lt}
use lib.ListN.{length}
use Rattle.trees.specs.Tree.{most_of_entry}
use Rattle.tables.specs.Rules.{place}
use Rattle.derivations.specs.Ways.{World, weight_in, highest}
use Rattle.derivations.proofs.Ways.{factor_weight, item_inside}
use Rattle.witness.specs.Choices.{Small, Item}

pub item_low : (w : World) (x y : ℕ) → 1 ≤ weight_in w x y → x ≤ highest w
item_low w zero y h = omega arith
item_low w (suc p) y h = omega (arith, (item_inside w p y h).1)

module _ {w : World} {choices : List ℕ} (small : Small w choices) where
  pub item_entries : (x y : ℕ) → 1 ≤ weight_in w x y → (x ≤ most_of_entry) × (y ≤ most_of_entry)
  item_entries zero y h = (omega arith, omega (arith, (factor_weight w y h).1, small.numbers))
  item_entries (suc p) y h =
      let inside = item_inside w p y h in
      (omega (arith, inside.1, small.few, small.short), omega (arith, inside.0, small.few))

  pub item_place : (x y : ℕ) → Item w x y → place w.count (x - 1) y < length choices
  item_place zero y h = absurd (omega (arith, h.0))
  item_place (suc p) y h =
      let inside = item_inside w p y h.1 in
      let less : suc p - 1 ≡ p = omega arith in
      rw less (omega (arith, digits_lt {q = p} {m = highest w} {r = y} {c = w.count} inside.1 inside.0, small.room))
