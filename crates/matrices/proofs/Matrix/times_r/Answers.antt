-- The second column, and the first with its sign changed. Assumes nothing.
use mathlib.Core.Path.{sym, ◌∙◌}
use native.Mathlib.Omega.{arith}
use Rattle.unimodular.proofs.Product.{entries, times_r}
use Rattle.matrices.specs.Entries.{matrix}
use Rattle.matrices.proofs.Signed.{read, negation}
use Rattle.matrices.proofs.Matrix.times_r.Goals as goal

pub returns : goal.returns
returns c =
    let m = c.args.self in
    entries (read m.b (omega arith)) (negation (read m.a (omega arith)) (omega arith)).value
    (read m.d (omega arith)) (negation (read m.c (omega arith)) (omega arith)).value ∙ sym (times_r (matrix m))
