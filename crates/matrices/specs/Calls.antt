-- What the two calls between words and matrices promise. Document 01, "Matrices". Assumes nothing: these are definitions.
use Rattle.std.specs.Prelude.{Result, Ok, Err, ◌≡◌, List, ℕ, length}
use Rattle.unimodular.specs.Matrix.{Matrix, signed, matrix_of, NormalFormOf}
use Rattle.words.specs.Word.{Word}
use Rattle.words.specs.Bytes.{word, bytes}
use Rattle.words.specs.Calls.{written, length_or}
use Rattle.refusals.specs.declared.Refusal.{Refusal}
use Rattle.refusals.specs.Questions.{Asked, passed}
use Rattle.words.specs.declared.Letters.{Letters}
use Rattle.matrices.specs.Entries.{entries}
use Rattle.matrices.specs.Questions.{of_turned_word, of_entries, of_normal_form}
use Rattle.matrices.specs.declared.Matrix.{Matrix as Entries}

-- the matrix, or the refusal
abbrev pub matrix_or : Asked → Matrix → Result Entries Refusal
matrix_or (Ok _) m = Ok (entries m)
matrix_or (Err refusal) m = Err refusal

-- 01: "The matrix of a word is the product of all its letters' matrices in order, up to sign; of the two signs, the one is returned whose
-- first non-zero entry among a, b is positive."
abbrev pub TurnsWord : List ℕ → Result Entries Refusal → Type 0
TurnsWord w r = r ≡ matrix_or (of_turned_word w) (signed (matrix_of (word w)))

-- 01: "The other way, the normal form is written into a lent slice, its length is returned and the bytes behind it remain."
-- `before` and `after` are what the lent slice holds.
pub record TurnsMatrix (m : Matrix) (before : List ℕ) (r : Result Letters Refusal) (after : List ℕ) : Type 0 where
  -- a no to question 5 or 6
  pub refuses : (refusal : Refusal) → of_entries m ≡ Err refusal → (r ≡ Err refusal) × (after ≡ before)
  -- else m has a normal form, and only one
  pub answer : of_entries m ≡ passed → (w : Word) → NormalFormOf m w → r ≡ length_or (of_normal_form w (length before)) (length w)
  pub slice : of_entries m ≡ passed → (w : Word) → NormalFormOf m w → after ≡ written (of_normal_form w (length before)) (bytes w) before
