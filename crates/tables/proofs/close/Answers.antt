-- The front part of the table is filled, with no bound. Assumes nothing.
use Rattle.products.specs.State.{weightless}
use Rattle.products.proofs.Unbounded.{weightless_append}
use Rattle.refusals.proofs.Telling.{told}
use Rattle.tables.proofs.Filled.{filled_part}
use Rattle.tables.proofs.close.Goals as goal

pub returns-then-fits : goal.returns-then-fits
returns-then-fits c =
    let fits = told c.fits.result c.if-fits.true c.fits.ensures in
    (fits, filled_part weightless weightless_append _ fits.room c.close_pairs.ensures)
