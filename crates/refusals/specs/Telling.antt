-- What the answer of a test says, and a value by it. Assumes nothing: these are definitions.
use Rattle.std.specs.Prelude.{Bool, true, false}

abbrev pub Tells : Bool → Type 0 → Type 0
Tells true P = P
Tells false P = P → ⊥

-- one of two values, by a test
abbrev pub pick {ℓ} : {A : Type ℓ} → Bool → A → A → A
pick true a b = a
pick false a b = b
