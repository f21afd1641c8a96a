-- Each sign is changed. Assumes nothing.
use Rattle.std.proofs.Common.{arith}
use Rattle.unimodular.proofs.Product.{entries}
use Rattle.matrices.proofs.Signed.{read, negation}
use Rattle.matrices.proofs.sign.negated.Goals as goal

pub returns : goal.returns
returns c =
    let m = c.args.m in
    entries (negation (read m.a (omega arith)) (omega arith)).value (negation (read m.b (omega arith)) (omega arith)).value
    (negation (read m.c (omega arith)) (omega arith)).value (negation (read m.d (omega arith)) (omega arith)).value
