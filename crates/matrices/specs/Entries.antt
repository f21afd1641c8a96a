-- The program's matrix, of four signed 64-bit numbers, as a matrix of whole numbers without limit. Assumes nothing: these are definitions.
use Rattle.unimodular.specs.Matrix.{Matrix}
use Rattle.matrices.specs.declared.Matrix.{Matrix as Entries}

abbrev pub matrix : Entries → Matrix
matrix m = record {
  a = m.a;
  b = m.b;
  c = m.c;
  d = m.d;
}

abbrev pub entries : Matrix → Entries
entries m = record {
  a = m.a;
  b = m.b;
  c = m.c;
  d = m.d;
}
