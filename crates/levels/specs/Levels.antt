-- A table of numbers under rules: premises at two places make a conclusion at a third, at the sum of their numbers. Here are what a
-- function that relaxes rules promises, and when a table is closed under them. Numbers only: nothing of words, rows or columns.
-- Assumes nothing: these are definitions.
use Rattle.std.specs.Prelude.{List, ℕ, ◌+◌, ◌≤◌, ◌<◌, length, get_or, set}

-- the entry at a place; one past the end, and beyond, it is 0
abbrev pub entry : List ℕ → ℕ → ℕ
entry t p = get_or t p 0

-- Some of the rules: `Y q c` says that the conclusion c follows from the place at hand and q. Where a rule has one premise only, q is
-- the place one past the table's end, whose entry is 0.
abbrev pub Uses : Type 1
Uses = ℕ → ℕ → Type 0

-- `after` comes from `before` by stores, each of which lowers an entry to k more than another, where Y allows it.
pub data Lowers (k : ℕ) (Y : Uses) : List ℕ → List ℕ → Type 0 where
  done : {t : List ℕ} → Lowers k Y t t
  store : {t after : List ℕ} (q c : ℕ) → Y q c → c < length t → k + entry t q < entry t c → Lowers k Y (set t c (k + entry t q)) after → Lowers k Y t after

-- What every function that relaxes rules promises: it only lowers entries as Y allows, and wherever Y allows it the inequality now holds.
pub record Relaxed (k : ℕ) (Y : Uses) (before after : List ℕ) : Type 0 where
  pub lowers : Lowers k Y before after
  pub holds : (q c : ℕ) → Y q c → c < length before → entry after c ≤ k + entry before q

-- Rules: `Rule p q c` says that c follows from p and q.
abbrev pub Rules : Type 1
Rules = ℕ → ℕ → ℕ → Type 0

-- the rules in which z is a premise, the first or the second
pub data Using (Rule : Rules) (z : ℕ) : ℕ → ℕ → Type 0 where
  first : {q c : ℕ} → Rule z q c → Using Rule z q c
  second : {p c : ℕ} → Rule p z c → Using Rule z p c

-- A table is closed up to n: each rule whose sum is at most n holds as an inequality.
abbrev pub Closed : Rules → ℕ → List ℕ → Type 0
Closed Rule n t = (p q c : ℕ) → Rule p q c → entry t p + entry t q ≤ n → entry t c ≤ entry t p + entry t q
