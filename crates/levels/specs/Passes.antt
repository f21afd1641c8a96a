-- A table of counts that is filled level by level: its range, its soundness, which of its places are settled, and how far a pass has come.
-- Assumes nothing: these are definitions.
use Rattle.std.specs.Prelude.{◌≡◌, ◌⊎◌, List, ℕ, ◌+◌, ◌≤◌, ◌<◌, length}
use Rattle.levels.specs.Levels.{entry, Uses, Rules}

-- the one pair of a place q and a conclusion c
abbrev pub Only : ℕ → ℕ → Uses
Only q c q' c' = (q' ≡ q) × (c' ≡ c)

-- what the turns before the i-th use, where turn j uses Y j
abbrev pub Upto : (ℕ → Uses) → ℕ → Uses
Upto Y i q c = (j : ℕ) × (j < i) × Y j q c

-- A table of N numbers up to n + 1. That n + 1 stands for none.
pub record Bounded (n N : ℕ) (t : List ℕ) : Type 0 where
  pub long : length t ≡ N
  pub high : (p : ℕ) → p < N → entry t p ≤ n + 1

-- The same of counts: none is 0.
pub record Counts (n N : ℕ) (t : List ℕ) : Type 0 where
  pub long : length t ≡ N
  pub low : (p : ℕ) → p < N → 1 ≤ entry t p
  pub high : (p : ℕ) → p < N → entry t p ≤ n + 1

-- Each entry up to n is what it should be, where `Led p v` says that v is a right value at the place p.
abbrev pub Sound : (ℕ → ℕ → Type 0) → ℕ → List ℕ → Type 0
Sound Led n t = (p : ℕ) → p < length t → entry t p ≤ n → Led p (entry t p)

-- A second premise q with the value v, in a table of N places: it is led to, or the rule has none.
pub data Premise (Led : ℕ → ℕ → Type 0) (N q v : ℕ) : Type 0 where
  led : q < N → Led q v → Premise Led N q v
  missing : N ≤ q → v ≡ 0 → Premise Led N q v

-- Rules for a table of N places. They stay inside, save that a second premise may be missing; and a rule with one premise leads to a later
-- place, so that a pass from the first place to the last comes by all that it makes at its own level.
pub record Forward (Rule : Rules) (N : ℕ) : Type 0 where
  pub inside : (p q c : ℕ) → Rule p q c → (p < N) × (q ≤ N) × (c < N)
  pub later : (p q c : ℕ) → Rule p q c → N ≤ q → p < c

-- A pass at level k that has come to the place z is done with p, whose entry will not change again.
abbrev pub Settled : List ℕ → ℕ → ℕ → ℕ → Type 0
Settled t k z p = (entry t p < k) ⊎ ((entry t p ≡ k) × (p < z))

-- The pass at level k has come to the place z: each rule whose premises are settled holds as an inequality. One past the end the entry is 0,
-- so a premise that is missing is settled at every level from 1 on.
pub record Passed (Rule : Rules) (t : List ℕ) (k z : ℕ) : Type 0 where
  pub holds : (p q c : ℕ) → Rule p q c → Settled t k z p → Settled t k z q → entry t c ≤ entry t p + entry t q

-- no entry lies above k and below k'
abbrev pub NoneBetween : ℕ → List ℕ → ℕ → ℕ → Type 0
NoneBetween N t k k' = (p : ℕ) → p < N → k < entry t p → k' ≤ entry t p
