-- The tenth of a number has at most 19 digits, and the last digit is stored behind them. Assumes nothing.
use Rattle.std.proofs.Common.{◌/◌, arith, ap}
use Rattle.answers.specs.declared.writing.Line.{Line}
use Rattle.answers.proofs.Decimals.{decimal_one, decimal_more, decimal_few}
use Rattle.answers.proofs.Storing.{stores_then}
use Rattle.answers.proofs.writing.Line.+put_decimal.Goals.{then-n-ge10, else-n-ge10}
use Rattle.answers.proofs.writing.Line.+put_decimal.Goals as goal

pub put_byte-requires : goal.put_byte-requires
put_byte-requires t c =
    elim c.if-n-ge10.branch [
      | then-n-ge10 w ↦
          omega (arith, ap (λ (l : Line). l.end) w.self-is, w.put_decimal.ensures.stores.end_is, decimal_few 19 (c.args.n / 10) (omega (arith, c.ranges.n.fits)))
      | else-n-ge10 w ↦ omega (arith, ap (λ (l : Line). l.end) w.self-is)
    ]

pub returns-clause-stores : goal.returns-clause-stores
returns-clause-stores t c =
    elim c.if-n-ge10.branch [
      | then-n-ge10 w ↦
          rw (decimal_more c.args.n (omega arith))
          (rw c.last_digit.ensures at (stores_then w.put_decimal.ensures.stores (rw w.self-is at c.put_byte.ensures.stores)))
      | else-n-ge10 w ↦ rw (decimal_one c.args.n (omega arith)) (rw (c.last_digit.ensures, w.self-is) at c.put_byte.ensures.stores)
    ]
