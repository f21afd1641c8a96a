-- What an item that weighs k is still to cost, where its first number is `row` and first numbers are at most half of w: a number that falls where the item
-- gives way to its parts.
--     steps_some    an item that weighs something costs something
--     steps_one     it falls to one part, with a lower first number
--     steps_wide    and to two parts, which share out what it weighs
-- Assumes nothing.
use mathlib.Core.Path.{◌≡◌}
use Prim.Native.Nat.{ℕ, zero, suc, ◌+◌, ◌-◌, ◌*◌, ◌≤◌, ◌<◌}
use native.Mathlib.Omega.{arith}

abbrev pub steps : ℕ → ℕ → ℕ → ℕ
steps w k row = (2 * k - 1) * w + row

pub steps_some : (m k row : ℕ) → 1 ≤ k → 0 < steps (2 * suc m) k row
steps_some m zero row h = absurd (omega arith)
steps_some m (suc k) row h = let odd : 2 * suc k - 1 ≡ 2 * k + 1 = omega arith in rw odd (omega arith)

pub steps_one : (w k row row₁ : ℕ) → row₁ < row → steps w k row₁ < steps w k row
steps_one w k row row₁ h = omega arith

pub steps_wide : (m a b row r s : ℕ) → 1 ≤ a → 1 ≤ b → 1 ≤ row → r ≤ m → s ≤ m → steps (2 * m) a r + steps (2 * m) b s < steps (2 * m) (a + b) row
steps_wide m zero b row r s h i o j l = absurd (omega arith)
steps_wide m (suc a) zero row r s h i o j l = absurd (omega arith)
steps_wide m (suc a) (suc b) row r s h i o j l =
    let first : 2 * suc a - 1 ≡ 2 * a + 1 = omega arith in
    let second : 2 * suc b - 1 ≡ 2 * b + 1 = omega arith in
    let both : 2 * (suc a + suc b) - 1 ≡ 2 * a + 2 * b + 3 = omega arith in
    rw (first, second, both) (omega arith)
