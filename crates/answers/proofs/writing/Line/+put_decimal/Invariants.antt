-- A number is a tenth of it, written first, and its last digit. The measure is the number itself.
use Rattle.answers.proofs.writing.Line.+put_decimal.Given as goal

abbrev pub decreases-put_decimal : goal.decreases-put_decimal
decreases-put_decimal l = l.n
