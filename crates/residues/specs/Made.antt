-- The products of some images, each made of one that was made before: what a closure finds. Assumes nothing: these are definitions.
use Rattle.std.specs.Prelude.{◌≡◌, ℕ, ◌<◌}
use Rattle.residues.specs.Residues.{multiplied}

-- k is a product of one or more of the images `act 0` up to `act (a - 1)`
pub data Made (act : ℕ → ℕ) (a : ℕ) : ℕ → Type 0 where
  one : (b k : ℕ) → b < a → k ≡ act b → Made act a k
  more : (b j k : ℕ) → b < a → Made act a j → k ≡ multiplied (act b) j → Made act a k
