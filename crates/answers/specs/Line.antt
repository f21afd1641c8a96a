-- The line that says an answer. Document 01: "It is `member`, the count and the factors; or `none` and n; or `refused`, the number and the place.
-- Printed numbers are decimal, fields are separated by one space, and byte 10 ends the line".
-- Assumes nothing: these are definitions.
use Rattle.std.specs.Prelude.{Result, Ok, Err, List, [], ◌∷◌, ◌++◌, ℕ, zero, suc, ◌+◌, ◌/◌, ◌%◌, leb, take}
use Rattle.refusals.specs.Telling.{pick}
use Rattle.refusals.specs.Questions.{number, place}
use Rattle.refusals.specs.declared.Refusal.{Refusal}
use Rattle.answers.specs.declared.Answer.{Answer}
use Rattle.answers.specs.declared.Answer.TheVariants.{Member, None}

-- the last digits of n in ASCII, as many as there are or as `most` allows
abbrev pub last_digits : ℕ → ℕ → List ℕ
last_digits zero n = []
last_digits (suc most) n = pick (leb 10 n) (last_digits most (n / 10)) [] ++ ((48 + n % 10) ∷ [])

-- n has at most n + 1 digits
abbrev pub decimal : ℕ → List ℕ
decimal n = last_digits (suc n) n

-- a space and a number
abbrev pub field : ℕ → List ℕ
field n = 32 ∷ decimal n

abbrev pub fields_of : List ℕ → List ℕ
fields_of [] = []
fields_of (n ∷ ns) = field n ++ fields_of ns

-- `member`, `none` and `refused` in ASCII
abbrev pub member_name : List ℕ
member_name = 109 ∷ 101 ∷ 109 ∷ 98 ∷ 101 ∷ 114 ∷ []

abbrev pub none_name : List ℕ
none_name = 110 ∷ 111 ∷ 110 ∷ 101 ∷ []

abbrev pub refused_name : List ℕ
refused_name = 114 ∷ 101 ∷ 102 ∷ 117 ∷ 115 ∷ 101 ∷ 100 ∷ []

-- what stands before byte 10; the factors of a member are the first bytes of the witness
abbrev pub said : Result Answer Refusal → List ℕ → List ℕ
said (Ok (Member count)) witness = member_name ++ (field count.0 ++ fields_of (take count.0 witness))
said (Ok (None n)) witness = none_name ++ field n.0
said (Err refusal) witness = refused_name ++ (field (number refusal) ++ field (place refusal))

abbrev pub line : Result Answer Refusal → List ℕ → List ℕ
line answer witness = said answer witness ++ (10 ∷ [])
