-- The definitions of items, at numbers that the code holds: the first number and a row's number less 1.
-- Assumes nothing.
use mathlib.Core.Path.{◌≡◌, refl}
use Prim.Native.Nat.{ℕ, zero, suc, ◌-◌, ◌≤◌, ◌<◌}
use native.Mathlib.Omega.{arith}
use borrow.Author.Tests.{lt-ltb, le-ltb}
use Rattle.derivations.specs.Ways.{World, of_pair, next_row, parts_in}

one_less : (p : ℕ) → suc p - 1 ≡ p
one_less p = omega arith

module _ (w : World) where
  pub parts_pair : (x y d : ℕ) → (x ≡ 0 → ⊥) → x - 1 < w.count
      → of_pair w.count w.letters w.rests w.children_r w.children_s w.wholes w.counts (x - 1) y d ≡ parts_in w x y d
  parts_pair zero y d some inside = absurd (some refl)
  parts_pair (suc p) y d some inside = rw (one_less p, lt-ltb p w.count (omega arith)) refl

  pub parts_row : (x y d : ℕ) → (x ≡ 0 → ⊥) → w.count ≤ x - 1
      → next_row w.count w.children_r w.children_s w.target (x - 1 - w.count) y d ≡ parts_in w x y d
  parts_row zero y d some behind = absurd (some refl)
  parts_row (suc p) y d some behind = rw (one_less p, le-ltb p w.count (omega arith)) refl
