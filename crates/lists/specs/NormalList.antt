-- A list whose generators are reduced: their normal forms one behind the other, and the ends that go with them.
-- Assumes nothing: these are definitions.
use Rattle.std.specs.Prelude.{List, [], ◌∷◌, ◌++◌, ℕ, ◌+◌, length}
use Rattle.words.specs.Word.{Word, nf}
use Rattle.words.specs.Bytes.{bytes}

-- 01: "m is the sum of the generators' normal form lengths".
abbrev pub total : List Word → ℕ
total [] = 0
total (g ∷ gens) = length (nf g) + total gens

abbrev pub normal_bytes : List Word → List ℕ
normal_bytes [] = []
normal_bytes (g ∷ gens) = bytes (nf g) ++ normal_bytes gens

abbrev pub normal_ends : ℕ → List Word → List ℕ
normal_ends from [] = []
normal_ends from (g ∷ gens) = (from + length (nf g)) ∷ normal_ends (from + length (nf g)) gens
