-- First the row, then the column. Where x and y are one node, each entry would be lowered to more than itself. Assumes nothing.
use Rattle.levels.proofs.Relaxing.{relaxed_then}
use Rattle.tables.proofs.Steps.{ready_relaxed, one_node_relaxed}
use native.Mathlib.Omega.{arith}
use Rattle.tables.proofs.rules.relax_f.Goals as goal

pub returns-then-x-y : goal.returns-then-x-y
returns-then-x-y c = one_node_relaxed c.if-x-y.true

pub relax_column-requires : goal.relax_column-requires
relax_column-requires c =
    let p = c.requires in record {
      ready = ready_relaxed p.ready c.relax_row.ensures;
      x_lt_count = omega (arith, p.x_lt_count, p.y_lt_count);
      y_lt_count = omega (arith, p.x_lt_count, p.y_lt_count);
    }

pub returns : goal.returns
returns c =
    relaxed_then c.relax_row.ensures c.relax_column.ensures
