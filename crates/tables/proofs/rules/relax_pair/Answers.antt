-- The four groups of rules, one after the other. Assumes nothing.
use Rattle.tables.proofs.Pairs.{pair_relaxed}
use Rattle.tables.proofs.Steps.{ready_relaxed}
use Rattle.tables.proofs.rules.relax_pair.Goals as goal

pub relax_r-requires : goal.relax_r-requires
relax_r-requires c =
    let p = c.requires in record { ready = ready_relaxed p.ready c.relax_f.ensures; linked_by = p.linked.r; x_lt_count = p.x_lt_count; y_lt_count = p.y_lt_count }

pub relax_s-requires : goal.relax_s-requires
relax_s-requires c =
    let p = c.requires in record {
      ready = ready_relaxed (ready_relaxed p.ready c.relax_f.ensures) c.relax_r.ensures;
      linked_by = p.linked.s;
      x_lt_count = p.x_lt_count;
      y_lt_count = p.y_lt_count;
    }

pub relax_e-requires : goal.relax_e-requires
relax_e-requires c =
    let p = c.requires in
    record {
      ready = ready_relaxed (ready_relaxed (ready_relaxed p.ready c.relax_f.ensures) c.relax_r.ensures) c.relax_s.ensures;
      linked_by = p.linked.s;
      x_lt_count = p.x_lt_count;
      y_lt_count = p.y_lt_count;
    }

pub returns : goal.returns
returns c =
    let a = c.args in
    let p = c.requires in
    pair_relaxed a.tree.now.count a.tree.now.letters.now a.tree.now.rests.now p.linked.s.followed.rest_earlier a.x a.y p.x_lt_count p.y_lt_count
    c.relax_f.ensures c.relax_r.ensures c.relax_s.ensures c.relax_e.ensures
