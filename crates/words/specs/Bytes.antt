-- Words as bytes. Document 01: "The letter R is the byte 82 and S the byte 83." Assumes nothing: these are definitions.
use Rattle.std.specs.Prelude.{List, map, ℕ, eqb}
use Rattle.refusals.specs.Telling.{pick}
use Rattle.words.specs.Word.{Letter, R, S, Word}

abbrev pub byte : Letter → ℕ
byte R = 82
byte S = 83

abbrev pub bytes : Word → List ℕ
bytes w = map byte w

-- 82 is R. Every other byte is taken for S: where document 01 has a word, a byte that is neither 82 nor 83 has been refused by question 10.
abbrev pub letter : ℕ → Letter
letter b = pick (eqb b 82) R S

abbrev pub word : List ℕ → Word
word bs = map letter bs
