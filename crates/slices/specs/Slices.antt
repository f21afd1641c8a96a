-- What a lent slice holds after a call. Assumes nothing: these are definitions.
use Rattle.std.specs.Prelude.{Bool, ◌≡◌, List, ◌++◌, ℕ, ◌+◌, leb, length, drop}
use Rattle.std.proofs.Math.Seq.{paste}
use Rattle.refusals.specs.Telling.{pick}

-- a slice whose front was rewritten, with what stood behind it
abbrev pub overwritten : List ℕ → List ℕ → List ℕ
overwritten new old = new ++ drop (length new) old

-- A slice is copied into another from the place `at` on, where there is room; else nothing is changed. The answer says which. `before` and `after`
-- are what the other slice holds.
pub record Pastes (new : List ℕ) (at : ℕ) (before : List ℕ) (r : Bool) (after : List ℕ) : Type 0 where
  pub answer : r ≡ leb (at + length new) (length before)
  pub slice : after ≡ pick (leb (at + length new) (length before)) (paste before at new (length new)) before
