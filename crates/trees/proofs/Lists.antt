-- The generators of a list, by number: how many there are, and where each stands among the letters. Assumes nothing.
use mathlib.Core.Path.{◌≡◌, refl, ap}
use mathlib.Core.List.{List, [], ◌∷◌}
use Prim.Native.Nat.{ℕ, zero, suc, ◌<◌}
use native.Mathlib.Nat.{not-suc-le-zero, le_of_suc-le-suc}
use lib.ListN.{length}
use lib.Seq.{slice}
use Rattle.words.specs.Bytes.{word}
use Rattle.products.specs.Product.{generators_from, generators, generator}
use Rattle.trees.specs.Tree.{at}
use Rattle.trees.specs.Ends.{end_before}

generators_from_length : (bytes : List ℕ) (from : ℕ) (ends : List ℕ) → length (generators_from bytes from ends) ≡ length ends
generators_from_length bytes from [] = refl
generators_from_length bytes from (end ∷ ends) = ap suc (generators_from_length bytes end ends)

generator_from : (bytes : List ℕ) (from : ℕ) (ends : List ℕ) (i : ℕ) → i < length ends
    → generator (generators_from bytes from ends) i ≡ word (slice (at (from ∷ ends) i) (at ends i) bytes)
generator_from bytes from [] i h = absurd (not-suc-le-zero h)
generator_from bytes from (end ∷ ends) zero h = refl
generator_from bytes from (end ∷ ends) (suc i) h = generator_from bytes end ends i (le_of_suc-le-suc h)

pub generators_length : (bytes ends : List ℕ) → length (generators bytes ends) ≡ length ends
generators_length bytes ends = generators_from_length bytes 0 ends

pub generator_at : (bytes ends : List ℕ) (i : ℕ) → i < length ends → generator (generators bytes ends) i ≡ word (slice (end_before ends i) (at ends i) bytes)
generator_at bytes ends i h = generator_from bytes 0 ends i h
