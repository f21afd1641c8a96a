-- Words in which S stands at every place but the multiples of a period: they are written in rows of so many columns, and the first column is left.
-- Assumes nothing: these are definitions.
use Rattle.std.specs.Prelude.{List, [], ◌∷◌, ℕ, ◌+◌, eqb, ltb}
use Rattle.words.specs.Word.{S}
use Rattle.refusals.specs.Telling.{pick}
use Rattle.words.specs.Bytes.{byte}

-- what stands in a column, where b stood
abbrev pub byte_in : ℕ → ℕ → ℕ
byte_in column b = pick (eqb column 0) b (byte S)

-- the column after a column; a period of 0 has the first only, and so puts S nowhere
abbrev pub next_column : ℕ → ℕ → ℕ
next_column period column = pick (ltb (column + 1) period) (column + 1) 0

-- the bytes from a column on
abbrev pub with_s : ℕ → ℕ → List ℕ → List ℕ
with_s period column [] = []
with_s period column (b ∷ bs) = byte_in column b ∷ with_s period (next_column period column) bs
