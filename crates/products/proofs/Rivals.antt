-- What a series and a rival are, said without their definitions: the engine makes and reads rivals by these laws. Assumes nothing.
use Prim.Native.Nat.{ℕ, ◌≤◌, ◌<◌}
use mathlib.Core.Logic.{◌≢◌}
use mathlib.Core.Path.{refl, ap}
use mathlib.Core.List.{List, [], ◌∷◌}
use native.Mathlib.Omega.{arith}
use lib.ListN.{length}
use Rattle.words.specs.Word.{Word}
use Rattle.products.specs.Product.{Family, Each, Series, Counted, Rival}

-- a series counts exactly where it is not empty
pub counted_some : {r : List ℕ} → Counted r → r ≢ []
counted_some c e = omega (arith, ap length e)

pub some_counted : {r : List ℕ} → r ≢ [] → Counted r
some_counted {r = []} some = absurd (some refl)
some_counted {r = i ∷ r} some = omega arith

-- each number of a series names a generator
pub series_below : (gens : List Word) (i : ℕ) (r : List ℕ) → Series gens (i ∷ r) → i < length gens
series_below gens i r series = series.0

-- a rival for n has at most n factors
pub rival_count : {family : Family} {n : ℕ} {r : List ℕ} → Rival family n r → length r ≤ n
rival_count rival = rival.within

-- each series of at least 1 and at most n factors is a rival for n
pub rival_of : {family : Family} {n : ℕ} {r : List ℕ} → Each family.Number r → 1 ≤ length r → length r ≤ n → Rival family n r
rival_of series some within = record { series = series; counted = some; within = within }
