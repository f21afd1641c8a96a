-- Tables that are left zeroed. Assumes nothing: these are definitions.
use Rattle.std.specs.Prelude.{◌≡◌, List, ℕ, ◌*◌, leb, length, replicate}
use Rattle.refusals.specs.Telling.{pick}
use Rattle.slices.specs.Slices.{overwritten}

-- 01: "Either way the first q × q entries of both tables are zero afterwards and the others remain." Of one table.
abbrev pub zeroed : ℕ → List ℕ → List ℕ
zeroed q table = overwritten (replicate (q * q) 0) table

-- A table that has q × q entries is zeroed; else nothing changes.
abbrev pub Zeroes : ℕ → List ℕ → List ℕ → Type 0
Zeroes q before after = after ≡ pick (leb (q * q) (length before)) (zeroed q before) before
