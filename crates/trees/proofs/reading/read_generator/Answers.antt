-- The generator runs from the end before it to its own. Assumes nothing.
use Rattle.trees.proofs.Listed.{read_more}
use Rattle.trees.proofs.reading.read_generator.Goals as goal

pub returns : goal.returns
returns c =
    let grows = c.read_backwards-place.ensures in record {
      read_2 = read_more
          c.args.bytes.now
          c.args.ends.now
          c.requires.fits
          c.requires.i_in_bounds
          c.requires.read
          _
          _
          c.end_before-from.ensures
          c.entry-end.ensures.0
          grows;
      lower_bound = (grows.no_fewer, grows.remains);
    }
