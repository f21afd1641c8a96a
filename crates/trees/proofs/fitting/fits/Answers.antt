-- Each answer is by the tests on the way. Assumes nothing.
use Rattle.std.proofs.Common.{length}
use Rattle.refusals.proofs.Telling.{tells_same}
use Rattle.trees.proofs.Ends.{ends_rise, fits_ends}
use Rattle.trees.proofs.fitting.fits.Goals as goal

pub returns-then-wholes-ends : goal.returns-then-wholes-ends
returns-then-wholes-ends c =
    let a = c.args in
    let room = c.if-wholes-ends.true in
    tells_same
    c.ends_fit.result
    (λ fit.
    record {
      few = room.0;
      rising = ends_rise a.ends.now (length a.bytes.now) fit;
      within = λ j h. (fit j h).within;
      room_letters = room.1;
      room_rests = room.2;
      room_r = room.3;
      room_s = room.4;
      room_wholes = room.5;
    })
    (λ f. fits_ends f)
    c.ends_fit.ensures
