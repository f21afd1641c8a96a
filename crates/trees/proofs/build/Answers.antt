-- Where the inputs fit, all generators are read, and the tree is theirs. Assumes nothing.
use Rattle.refusals.proofs.Telling.{told}
use Rattle.trees.proofs.Ends.{fits_same}
use Rattle.trees.proofs.Listed.{few_nodes, count_nodes, read_tree}
use Rattle.trees.proofs.build.Goals as goal

pub returns-then-fits : goal.returns-then-fits
returns-then-fits c =
    let bytes = c.args.bytes.now in
    let ends = c.args.ends.now in
    let k = c.read_all.auto in
    let t = c.read_all.ensures.read in
    let f = told c.fits.result c.if-fits.true c.fits.ensures in
    let g = fits_same f k.letters k.rests k.children_r k.children_s k.wholes in
    record {
      fits = f;
      tree = read_tree bytes ends g t;
      counted = count_nodes bytes ends g t;
      few = few_nodes bytes ends g t;
      remains = c.read_all.ensures.remains;
      root_rest = t.grown.nodes.root_rest;
    }
