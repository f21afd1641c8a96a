-- After so many turns m is the matrix of the first letters.
use Rattle.std.proofs.Common.{◌≡◌, take}
use Rattle.words.specs.Bytes.{word as word_of}
use Rattle.unimodular.specs.Matrix.{matrix_of}
use Rattle.matrices.specs.Entries.{matrix}
use Rattle.matrices.proofs.forming.product.Given as goal

abbrev pub invariant-loop-i : goal.invariant-loop-i
invariant-loop-i l = matrix l.m ≡ matrix_of (take l.i (word_of l.form))
