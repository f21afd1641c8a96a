-- The first i ends do not fall, so the first that does is i and then some. Assumes nothing.
use mathlib.Core.Path.{◌≡◌}
use Prim.Native.Nat.{◌+◌}
use lib.ListN.{drop}
use Rattle.lists.specs.Questions.{first_fall}
use Rattle.lists.proofs.ends.first_fall.Given as goal

abbrev pub invariant-loop-i : goal.invariant-loop-i
invariant-loop-i l = first_fall 0 l.ends ≡ l.i + first_fall l.from (drop l.i l.ends)
