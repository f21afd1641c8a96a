-- What the functions that write a line's text promise. Assumes nothing: these are definitions.
use Rattle.std.specs.Prelude.{◌≡◌, List, ℕ, ◌+◌, length}
use Rattle.std.proofs.lemmas.List.Edits.{sets}

-- The bytes of `text` are stored one behind the other from place `at` on, those for which the slice has no room left out, and the answer is the place
-- behind them, whether there was room or not.
pub record Stores (text : List ℕ) (at : ℕ) (before : List ℕ) (r : ℕ) (after : List ℕ) : Type 0 where
  pub end_is : r ≡ at + length text
  pub slice_is : after ≡ sets before at text
