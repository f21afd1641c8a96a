-- The front part of the table is filled. Assumes nothing.
use lib.ListN.{length-append}
use Rattle.products.specs.Product.{measure}
use Rattle.refusals.proofs.Telling.{told}
use Rattle.tables.proofs.Filled.{filled_part}
use Rattle.tables.proofs.fill.Goals as goal

pub returns-then-fits : goal.returns-then-fits
returns-then-fits c =
    let fits = told c.fits.result c.if-fits.true c.fits.ensures in
    (fits, filled_part measure length-append _ fits.room c.fill_levels.ensures)
