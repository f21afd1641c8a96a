-- What the functions inside that turn a normal form into its matrix promise. Assumes nothing: these are definitions.
use Rattle.std.specs.Prelude.{[], ◌∷◌, length}
use Rattle.unimodular.specs.Matrix.{signed, matrix_of}
use Rattle.words.specs.Word.{Word}
use Rattle.refusals.specs.Questions.{Asked, first_no, question12}
use Rattle.matrices.specs.Questions.{question16}

-- what is asked of a normal form that is to be turned into its matrix
abbrev pub of_form : Word → Asked
of_form w = first_no (question12 (length w) ∷ question16 (signed (matrix_of w)) ∷ [])
