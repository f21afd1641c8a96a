-- The four numbers are read back as they were lent. Assumes nothing.
use mathlib.Core.Path.{◌≡◌, refl, subst}
use mir.Syntax.{w64}
use mir.Val.{SFits}
use mir.ValLaws.{to_z-of_z}
use Rattle.unimodular.specs.Matrix.{Matrix}
use Rattle.matrices.specs.Calls.{TurnsMatrix}
use Rattle.matrices.proofs.Signed.{reading}
use Rattle.kernelhop.proofs.kernelhop_matrix_to_word.Goals as goal

-- the matrix that is read back where m is held
abbrev read_matrix : Matrix → Matrix
read_matrix m = record {
  a = reading m.a;
  b = reading m.b;
  c = reading m.c;
  d = reading m.d;
}

matrix-read : (m : Matrix) → SFits w64 m.a → SFits w64 m.b → SFits w64 m.c → SFits w64 m.d → read_matrix m ≡ m
matrix-read m p q r s = rw (to_z-of_z w64 m.a p, to_z-of_z w64 m.b q, to_z-of_z w64 m.c r, to_z-of_z w64 m.d s) refl

pub returns : goal.returns
returns c =
    let call = c.matrix_to_word in
    let m : Matrix = record { a = c.args.a; b = c.args.b; c = c.args.c; d = c.args.d } in (
      call.result,
      subst (λ (x : Matrix). TurnsMatrix x c.args.out.now call.result call.new.out)
          (matrix-read m c.ranges.a c.ranges.b c.ranges.c c.ranges.d) call.ensures,
      c.written.ensures,
    )
