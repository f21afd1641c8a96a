-- Pairs after a pair, and wrong ones, each refused by the definition. Assumes nothing.
use mathlib.Core.Path.{◌≡◌, refl, ap}
use Prim.Native.Nat.{ℕ, ◌-◌, ◌≤◌}
use native.Mathlib.Omega.{arith}
use Rattle.tables.specs.Rules.{next_pair}
use Rattle.tables.proofs.Places.{next_column}

-- in a row, from its last column, and behind the last pair of all
pub next_in_row : next_pair 3 1 0 ≡ (1, 1)
next_in_row = refl

pub next_row : next_pair 3 0 2 ≡ (1, 0)
next_row = refl

pub next_behind_all : next_pair 3 2 2 ≡ (3, 0)
next_behind_all = refl

-- one column only: each pair's row is carried
pub next_in_one_column : next_pair 1 0 0 ≡ (1, 0)
next_in_one_column = refl

-- in the widest table that a list of document 01 has, of 321 states
pub next_in_widest : next_pair 321 319 320 ≡ (320, 0)
next_in_widest = refl

-- the column that goes up to the width, for every width
pub column_up_to_the_width_refused : (width row : ℕ) → 1 ≤ width → next_pair width row (width - 1) ≡ (row, width) → ⊥
column_up_to_the_width_refused width row some wrong =
    omega (arith, next_column width row (width - 1) some, ap (λ (pair : ℕ × ℕ). pair.1) wrong)

-- the row that is carried one column early
pub row_carried_early_refused : next_pair 3 0 1 ≡ (1, 0) → ⊥
row_carried_early_refused wrong = omega (arith, ap (λ (pair : ℕ × ℕ). pair.0) wrong)
