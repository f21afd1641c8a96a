-- A part of a slice: where its entries stand in the whole. Assumes nothing.
use mathlib.Core.Path.{◌≡◌, ◌∙◌}
use mathlib.Core.List.{List}
use Prim.Native.Nat.{ℕ, ◌+◌, ◌-◌, ◌≤◌, ◌<◌}
use native.Mathlib.Omega.{arith}
use lib.ListN.{length, take, drop, length-drop}
use lib.Seq.{length-take-le, get_or-take, get_or-drop}
use Rattle.trees.specs.Tree.{at}

-- the entries from `from` up to `end`
abbrev pub part : List ℕ → ℕ → ℕ → List ℕ
part l from end = take (end - from) (drop from l)

module _ (l : List ℕ) (from end : ℕ) where
  pub part_at : (p : ℕ) → from + p < end → at (part l from end) p ≡ at l (from + p)
  part_at p inside = get_or-take (end - from) (drop from l) p 0 (omega arith) ∙ get_or-drop from l p 0

  pub part_length : end ≤ length l → length (part l from end) ≡ end - from
  part_length room = length-take-le (end - from) (drop from l) (omega (arith, length-drop from l))
