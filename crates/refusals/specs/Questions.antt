-- The questions at the door. Document 01: "Each call puts, in rising order, those questions that concern its inputs. The first no is
-- returned as its number with a place". Here are the numbers and places of every refusal, and the questions that concern words: 8, 10, 12 and
-- 14, of which 12 and 14 concern matrices and witnesses too. Assumes nothing: these are definitions.
use Rattle.std.specs.Prelude.{Result, Ok, Err, Bool, true, List, [], ◌∷◌, ℕ, suc, eqb, leb, length}
use Rattle.limits.specs.Limits.{most_letters, most_of_form}
use Rattle.refusals.specs.Telling.{pick}
use Rattle.refusals.specs.declared.Refusal.{Refusal}
use Rattle.refusals.specs.declared.Refusal.TheVariants.{CardTooLong, BitMapWrong, FieldCut, SpareByte, EntryTooLarge, DeterminantNotOne, TooManyGenerators, TooManyLetters, EndsWrong, NotALetter, GeneratorTooLong, NormalFormTooLong, BoundTooLarge, OutputTooShort, TableTooShort, MatrixTooLarge}

-- document 01's number of the question that is answered no
abbrev pub number : Refusal → ℕ
number CardTooLong = 1
number BitMapWrong = 2
number (FieldCut at) = 3
number (SpareByte at) = 4
number (EntryTooLarge at) = 5
number DeterminantNotOne = 6
number TooManyGenerators = 7
number TooManyLetters = 8
number (EndsWrong at) = 9
number (NotALetter at) = 10
number (GeneratorTooLong at) = 11
number NormalFormTooLong = 12
number BoundTooLarge = 13
number OutputTooShort = 14
number TableTooShort = 15
number MatrixTooLarge = 16

-- its place: 0 where the question names none
abbrev pub place : Refusal → ℕ
place CardTooLong = 0
place BitMapWrong = 0
place (FieldCut at) = at
place (SpareByte at) = at
place (EntryTooLarge at) = at
place DeterminantNotOne = 0
place TooManyGenerators = 0
place TooManyLetters = 0
place (EndsWrong at) = at
place (NotALetter at) = at
place (GeneratorTooLong at) = at
place NormalFormTooLong = 0
place BoundTooLarge = 0
place OutputTooShort = 0
place TableTooShort = 0
place MatrixTooLarge = 0

-- what a question says: it passes, or it is the refusal
abbrev pub Asked : Type 0
Asked = Result (Unit {0}) Refusal

-- the answer yes
abbrev pub passed : Asked
passed = Ok tt

-- a question that is answered yes by the test, and else refuses
abbrev pub asks : Bool → Refusal → Asked
asks test refusal = pick test passed (Err refusal)

-- the first no of the questions that a call puts
abbrev pub first_no : List Asked → Asked
first_no [] = passed
first_no (Ok _ ∷ questions) = first_no questions
first_no (Err refusal ∷ questions) = Err refusal

-- 8: "Have the list's letters together at most 4,096, and the target or single word at most 4,096?" Of one such count.
abbrev pub question8 : ℕ → Asked
question8 count = asks (leb count most_letters) TooManyLetters

abbrev pub is_letter : ℕ → Bool
is_letter b = pick (eqb b 82) true (eqb b 83)

-- the index of the first byte that is no letter, or the number of bytes where each is one
abbrev pub first_other : List ℕ → ℕ
first_other [] = 0
first_other (b ∷ bs) = pick (is_letter b) (suc (first_other bs)) 0

-- 10: "Is every letter R or S? Place: the first that isn't".
abbrev pub question10 : List ℕ → Asked
question10 bs = asks (leb (length bs) (first_other bs)) (NotALetter (first_other bs))

-- 12: "Has the target's, the word's (for its matrix) or the matrix's normal form at most 80 letters?" Of the length of that form.
abbrev pub question12 : ℕ → Asked
question12 letters = asks (leb letters most_of_form) NormalFormTooLong

-- 14: "Is the lent output long enough".
abbrev pub question14 : ℕ → ℕ → Asked
question14 needed room = asks (leb needed room) OutputTooShort

-- what is asked of the letters of a single word
abbrev pub of_letters : List ℕ → Asked
of_letters w = first_no (question8 (length w) ∷ question10 w ∷ [])

-- 01: "Plain reduction and inversion put 8, 10 and 14 only."
abbrev pub of_word : List ℕ → ℕ → ℕ → Asked
of_word w needed room = first_no (question8 (length w) ∷ question10 w ∷ question14 needed room ∷ [])
