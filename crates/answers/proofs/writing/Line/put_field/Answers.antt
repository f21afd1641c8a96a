-- A number has at most 20 digits. Assumes nothing.
use Rattle.std.proofs.Common.{arith}
use Rattle.answers.proofs.Decimals.{decimal_few}
use Rattle.answers.proofs.writing.Line.put_field.Goals as goal

pub returns-clause-upper_bound : goal.returns-clause-upper_bound
returns-clause-upper_bound c =
    omega (arith, c.put_byte.ensures.stores.end_is, c.put_decimal.ensures.stores.end_is, decimal_few 19 c.args.n (omega (arith, c.ranges.n.fits)))
