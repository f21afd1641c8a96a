-- After some turns the first i rows are relaxed, and at most one is left. Assumes nothing.
use Prim.Native.Nat.{◌+◌}
use Rattle.levels.proofs.Relaxing.{relaxed_begins, relaxed_turn}
use Rattle.tables.specs.Relaxing.{ColumnTurn}
use Rattle.tables.proofs.Steps.{ready_relaxed, relaxed_all}
use native.Mathlib.Omega.{arith}
use Rattle.tables.proofs.rules.relax_column.Goals as goal

pub loop-i-init : goal.loop-i-init
loop-i-init c = (omega arith, relaxed_begins)

pub relax_in_column-requires : goal.relax_in_column-requires
relax_in_column-requires c =
    let p = c.requires in record {
      ready = ready_relaxed p.ready c.loop-i.invariant.1;
      x_lt_count = p.x_lt_count;
      y_lt_count = p.y_lt_count;
      i_lt_count = omega arith;
    }

pub relax_in_column-requires-in-loop-i : goal.relax_in_column-requires-in-loop-i
relax_in_column-requires-in-loop-i c =
    let p = c.requires in record {
      ready = ready_relaxed (ready_relaxed p.ready c.loop-i.invariant.1) c.relax_in_column.ensures;
      x_lt_count = p.x_lt_count;
      y_lt_count = p.y_lt_count;
      i_lt_count = c.loop-i-test.true;
    }

pub loop-i-preserved : goal.loop-i-preserved
loop-i-preserved c =
    let a = c.args in
    let turn = ColumnTurn a.count a.x a.y in
    let i = c.loop-i.i in
    let first = relaxed_turn {Y = turn} c.loop-i.invariant.1 c.relax_in_column.ensures in
    (omega arith, relaxed_all turn (i + 1 + 1) (i + 2) (omega arith) (relaxed_turn {Y = turn} first c.relax_in_column-in-loop-i.ensures))

pub relax_in_column-requires-then-i-count : goal.relax_in_column-requires-then-i-count
relax_in_column-requires-then-i-count c =
    let p = c.requires in record {
      ready = ready_relaxed p.ready c.loop-i.invariant.1;
      x_lt_count = p.x_lt_count;
      y_lt_count = p.y_lt_count;
      i_lt_count = omega arith;
    }

pub returns-then-i-count : goal.returns-then-i-count
returns-then-i-count c =
    let a = c.args in
    let turn = ColumnTurn a.count a.x a.y in
    let i = c.loop-i.i in
    relaxed_all turn (i + 1) a.count (omega arith) (relaxed_turn {Y = turn} c.loop-i.invariant.1 c.relax_in_column-then-i-count.ensures)
