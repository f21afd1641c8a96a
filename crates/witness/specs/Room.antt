-- What is asked of the sizes of the inputs. Assumes nothing: these are definitions.
use Rattle.std.specs.Prelude.{ℕ, ◌+◌, ◌*◌, ◌≤◌}
use Rattle.limits.specs.Limits.{most_factors, most_letters, most_states}

pub record Room (letters count generators n choices witness : ℕ) : Type 0 where
  pub some : 1 ≤ count
  pub few : count ≤ most_states
  pub short : letters ≤ most_letters
  pub numbers : generators ≤ 256
  pub bound : n ≤ most_factors
  pub factors : n ≤ witness
  pub room : (count + letters) * count ≤ choices
