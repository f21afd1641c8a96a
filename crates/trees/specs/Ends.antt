-- The ends of a list's generators, and what they must be. Assumes nothing: these are definitions.
use Rattle.std.specs.Prelude.{List, ◌∷◌, ℕ, ◌≤◌, ◌<◌, length}
use Rattle.trees.specs.Tree.{at}

-- 01: "Generator i, counted from 0, runs from the end before it (0 for the first) up to its own end."
abbrev pub end_before : List ℕ → ℕ → ℕ
end_before ends i = at (0 ∷ ends) i

-- generator i's end does not fall below the one before, and lies within `limit` letters
pub record EndFits (ends : List ℕ) (limit i : ℕ) : Type 0 where
  pub rises : end_before ends i ≤ at ends i
  pub within : at ends i ≤ limit

abbrev pub EndsFit : List ℕ → ℕ → Type 0
EndsFit ends limit = (i : ℕ) → i < length ends → EndFits ends limit i
