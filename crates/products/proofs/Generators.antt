-- The generators of a list, one for each end. Assumes nothing.
use mathlib.Core.Path.{◌≡◌, refl, ap}
use mathlib.Core.List.{List, [], ◌∷◌}
use Prim.Native.Nat.{ℕ, suc}
use lib.ListN.{length}
use Rattle.products.specs.Product.{generators_from}

pub generators_length : (bytes : List ℕ) (from : ℕ) (ends : List ℕ) → length (generators_from bytes from ends) ≡ length ends
generators_length bytes from [] = refl
generators_length bytes from (end ∷ ends) = ap suc (generators_length bytes end ends)
