-- What a pass does over a table in which only yes and no are filled: numbers only. Of a pair of which nothing is known the entry is 2, and 1 once it is led to
-- and its rules are yet to be used, and 0 when they were. Assumes nothing: these are definitions.
use Rattle.std.specs.Prelude.{◌≡◌, List, ℕ, set}
use Rattle.levels.specs.Levels.{entry, Rules, Using, Relaxed}

-- A place is used: where its entry is 1 it becomes 0, and the rules that use it are relaxed by 1, so that a conclusion is at most 1 where the other
-- premise is 0; else nothing changes.
pub data Used (Rule : Rules) (z : ℕ) (before after : List ℕ) : Type 0 where
  used : entry before z ≡ 1 → Relaxed 1 (Using Rule z) (set before z 0) after → Used Rule z before after
  skipped : (entry before z ≡ 1 → ⊥) → after ≡ before → Used Rule z before after
