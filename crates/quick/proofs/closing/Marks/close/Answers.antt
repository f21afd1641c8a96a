-- One image of the queue after the other. Assumes nothing.
use Rattle.quick.proofs.Marks.{grown_none, grown_then}
use Rattle.quick.proofs.Spreading.{passing_none, passing_more, passed_closed}
use Rattle.quick.proofs.closing.Marks.close.Goals as goal

pub loop-i-init : goal.loop-i-init
loop-i-init c =
    let a = c.args in
    let before = a.self.now in
    let p = c.requires in
    record {
      marked = p.marked;
      grown = grown_none before.visited before.queue before.count;
      made = λ made. made;
      passing = passing_none a.rows.now.entries a.rows.now.taken a.old p.taken_nonzero before.visited before.queue before.count p.le_count;
    }

pub loop-i-preserved : goal.loop-i-preserved
loop-i-preserved c =
    let l = c.loop-i in
    let a = c.args in
    let p = c.requires in
    let first = c.first_new in
    let before = a.self.now in
    let spreads = c.spread.ensures in
    record {
      marked = spreads.marked;
      grown = grown_then l.invariant.grown spreads.grown;
      made = λ made. spreads.made (l.invariant.made made);
      passing =
          passing_more a.rows.now.entries a.rows.now.taken a.old p.taken_nonzero before.visited before.queue before.count p.le_count l.i c.loop-i-test.true
          l.invariant.grown l.invariant.passing first.ensures spreads;
    }

pub returns : goal.returns
returns c =
    let a = c.args in
    let p = c.requires in
    let l = c.loop-i in
    record {
      marked = l.invariant.marked;
      grown = l.invariant.grown;
      made = l.invariant.made;
      closed =
          passed_closed a.rows.now.entries a.rows.now.taken a.old p.taken_nonzero a.self.now.visited a.self.now.queue a.self.now.count p.le_count l.i a.target c.loop-i-test.false
          l.invariant.marked l.invariant.passing;
    }
