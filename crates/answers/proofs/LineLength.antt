-- The line of an answer that the engine gives is no longer than the longest line. Assumes nothing.
use mathlib.Core.List.{List, [], ◌∷◌}
use Prim.Native.Nat.{ℕ, zero, suc, ◌+◌, ◌*◌, ◌≤◌, ◌<◌}
use native.Mathlib.Omega.{arith}
use lib.ListN.{length, take, get_or, length-append}
use Rattle.limits.specs.Limits.{most_factors}
use Rattle.std.specs.Prelude.{Result, Ok, Err}
use Rattle.refusals.specs.Questions.{number, place}
use Rattle.refusals.specs.declared.Refusal.{Refusal}
use Rattle.refusals.specs.declared.Refusal.TheVariants.{CardTooLong, BitMapWrong, FieldCut, SpareByte, EntryTooLarge, DeterminantNotOne, TooManyGenerators, TooManyLetters, EndsWrong, NotALetter, GeneratorTooLong, NormalFormTooLong, BoundTooLarge, OutputTooShort, TableTooShort, MatrixTooLarge}
use Rattle.answers.specs.Line.{field, fields_of, said, line}
use Rattle.answers.specs.Calls.{Shown, longest}
use Rattle.answers.specs.declared.Answer.{Answer}
use Rattle.answers.specs.declared.Answer.TheVariants.{Member, None}
use Rattle.answers.proofs.Decimals.{decimal_few}

-- a factor is a byte, and takes a space and at most three digits
fields_short : (count : ℕ) (witness : List ℕ) → ((i : ℕ) → get_or witness i 0 < 256) → length (fields_of (take count witness)) ≤ 4 * count
fields_short zero witness h = omega arith
fields_short (suc count) [] h = omega arith
fields_short (suc count) (b ∷ witness) h =
    rw length-append (omega (arith, decimal_few 2 b (omega (arith, h 0)), fields_short count witness (λ i. h (suc i))))

number_two_digits : (refusal : Refusal) → number refusal < 100
number_two_digits CardTooLong = omega arith
number_two_digits BitMapWrong = omega arith
number_two_digits (FieldCut at) = omega arith
number_two_digits (SpareByte at) = omega arith
number_two_digits (EntryTooLarge at) = omega arith
number_two_digits DeterminantNotOne = omega arith
number_two_digits TooManyGenerators = omega arith
number_two_digits TooManyLetters = omega arith
number_two_digits (EndsWrong at) = omega arith
number_two_digits (NotALetter at) = omega arith
number_two_digits (GeneratorTooLong at) = omega arith
number_two_digits NormalFormTooLong = omega arith
number_two_digits BoundTooLarge = omega arith
number_two_digits OutputTooShort = omega arith
number_two_digits TableTooShort = omega arith
number_two_digits MatrixTooLarge = omega arith

-- `member`, a count of four digits, and four bytes for each factor
said_short : (answer : Result Answer Refusal) (witness : List ℕ) → Shown answer witness → length (said answer witness) ≤ 11 + 4 * most_factors
said_short (Ok (Member count)) witness (few, bytes) =
    let factors = fields_of (take count.0 witness) in
    omega (arith, length-append (field count.0) factors, decimal_few 3 count.0 (omega arith), fields_short count.0 witness bytes)
said_short (Ok (None n)) witness h = omega (arith, decimal_few 4 n.0 (omega arith))
said_short (Err refusal) witness h =
    omega (
      arith,
      length-append (field (number refusal)) (field (place refusal)),
      decimal_few 1 (number refusal) (number_two_digits refusal),
      decimal_few 19 (place refusal) (omega arith),
    )

pub line_short : (answer : Result Answer Refusal) (witness : List ℕ) → Shown answer witness → length (line answer witness) ≤ longest
line_short answer witness h = rw length-append (omega (arith, said_short answer witness h))
