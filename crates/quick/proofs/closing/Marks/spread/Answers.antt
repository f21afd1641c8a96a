-- One image taken in after the other. Assumes nothing.
use mathlib.Core.Path.{◌≡◌, ◌∙◌}
use Prim.Native.Nat.{ℕ, ◌<◌}
use native.Mathlib.Omega.{arith}
use lib.ListN.{get_or}
use Rattle.residues.specs.Residues.{multiplied}
use Rattle.residues.proofs.Multiplied.{multiplied_small}
use Rattle.quick.specs.Closing.{act}
use Rattle.quick.proofs.Spreading.{spreads_none, spreads_more}
use Rattle.quick.proofs.closing.Marks.spread.Goals.{After-product}
use Rattle.quick.proofs.closing.Marks.spread.Goals as goal

pub loop-b-init : goal.loop-b-init
loop-b-init c =
    let a = c.args in
    let p = c.requires in
    spreads_none a.rows.now.entries a.from a.rows.now.taken a.i a.self.now.visited a.self.now.queue a.self.now.count p.marked p.i_lt_count

abbrev image : After-product → ℕ
image c = get_or c.args.self.now.queue c.args.i 0

image-small : (c : After-product) → image c < 168
image-small c = let p = c.requires in (p.marked.queued c.args.i p.i_lt_count).0

below : (c : After-product) → c.loop-b.b < c.args.rows.now.taken
below c = omega arith

right : (c : After-product) → c.product.result ≡ multiplied (act c.args.rows.now.entries c.loop-b.b) (image c)
right c = c.product.ensures ∙ c.requires.rows_right.row c.loop-b.b (image c) (below c) (image-small c)

small : (c : After-product) → c.product.result < 168
small c =
    rw (right c)
    (multiplied_small (act c.args.rows.now.entries c.loop-b.b) (image c) (c.requires.rows_right.small c.loop-b.b (below c)) (image-small c))

pub visit-requires : goal.visit-requires
visit-requires c = record {
  k_bound = small (goal.at.visit-requires c).After-product;
  marked = c.loop-b.invariant.marked;
}

pub loop-b-preserved : goal.loop-b-preserved
loop-b-preserved c =
    let a = c.args in
    let p = c.requires in
    let l = c.loop-b in
    spreads_more a.rows.now.entries a.from a.rows.now.taken a.i a.self.now.visited a.self.now.queue a.self.now.count p.marked p.i_lt_count l.b c.product.result (below (goal.at.loop-b-preserved c).After-product) (right (goal.at.loop-b-preserved c).After-product)
    l.invariant c.visit.ensures
