-- The questions at the door that concern matrices. Document 01, "The questions at the door". Assumes nothing: these are definitions.
use Rattle.std.specs.Prelude.{Bool, false, List, [], ◌∷◌, ℕ, leb, eqb, ℤ, pos, negsuc, nat_abs, length}
use Rattle.limits.specs.Limits.{most_of_form}
use Rattle.unimodular.specs.Matrix.{Matrix, determinant, signed, matrix_of}
use Rattle.words.specs.Word.{Word, nf}
use Rattle.refusals.specs.Telling.{pick}
use Rattle.words.specs.Bytes.{word}
use Rattle.refusals.specs.Questions.{Asked, asks, first_no, question8, question10, question12, question14}
use Rattle.refusals.specs.declared.Refusal.TheVariants.{EntryTooLarge, DeterminantNotOne, MatrixTooLarge}

abbrev pub largest_entry : ℕ
largest_entry = 2147483647

-- an entry in question 5's range
abbrev pub in_range : ℤ → Bool
in_range z = leb (nat_abs z) largest_entry

-- 5: "Is each entry from −2147483647 to 2147483647? Place: the first that isn't (0 to 3)."
abbrev pub question5 : Matrix → Asked
question5 m = first_no (asks (in_range m.a) (EntryTooLarge 0) ∷ asks (in_range m.b) (EntryTooLarge 1) ∷ asks (in_range m.c) (EntryTooLarge 2) ∷ asks (in_range m.d) (EntryTooLarge 3) ∷ [])

abbrev pub is_one : ℤ → Bool
is_one (pos n) = eqb n 1
is_one (negsuc n) = false

-- 6: "Is the determinant 1?"
abbrev pub question6 : Matrix → Asked
question6 m = asks (is_one (determinant m)) DeterminantNotOne

abbrev pub all_in_range : Matrix → Bool
all_in_range m = pick (in_range m.a) (pick (in_range m.b) (pick (in_range m.c) (in_range m.d) false) false) false

-- 16: "Are the entries of the word's matrix within the range of question 5?"
abbrev pub question16 : Matrix → Asked
question16 m = asks (all_in_range m) MatrixTooLarge

-- what is asked of a word that is to be turned into a matrix
abbrev pub of_turned_word : List ℕ → Asked
of_turned_word w = first_no (question8 (length w) ∷ question10 w ∷ question12 (length (nf (word w))) ∷ question16 (signed (matrix_of (word w))) ∷ [])

-- what is asked of a matrix that is to be turned into a word: first of its entries ..
abbrev pub of_entries : Matrix → Asked
of_entries m = first_no (question5 m ∷ question6 m ∷ [])

-- .. and then of its normal form w and of the room for it
abbrev pub of_normal_form : Word → ℕ → Asked
of_normal_form w room = first_no (question12 (length w) ∷ question14 most_of_form room ∷ [])
