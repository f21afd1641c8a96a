-- The sum of the columns, and the first with its sign changed. Assumes nothing.
use mathlib.Core.Path.{sym, ◌∙◌}
use native.Mathlib.Omega.{arith}
use Rattle.unimodular.proofs.Product.{entries, times_s}
use Rattle.matrices.specs.Entries.{matrix}
use Rattle.matrices.proofs.Signed.{read, sum, negation}
use Rattle.matrices.proofs.Matrix.times_s.Goals as goal

pub returns : goal.returns
returns c =
    let m = c.args.self in
    entries (sum (read m.a (omega arith)) (read m.b (omega arith)) (omega arith)).value (negation (read m.a (omega arith)) (omega arith)).value
    (sum (read m.c (omega arith)) (read m.d (omega arith)) (omega arith)).value (negation (read m.c (omega arith)) (omega arith)).value
    ∙ sym (times_s (matrix m))
