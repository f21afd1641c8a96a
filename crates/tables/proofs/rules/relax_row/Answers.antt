-- The columns before j are relaxed. Assumes nothing.
use Rattle.levels.proofs.Relaxing.{relaxed_begins, relaxed_turn}
use Rattle.tables.specs.Relaxing.{RowTurn}
use Rattle.tables.proofs.Places.{along, along_inside}
use Rattle.tables.proofs.Steps.{ready_relaxed, sum_fits, relaxed_at}
use Rattle.tables.proofs.rules.relax_row.Goals as goal

pub loop-j-init : goal.loop-j-init
loop-j-init c = relaxed_begins

pub lower-requires-clause-from_bound : goal.lower-requires-clause-from_bound
lower-requires-clause-from_bound c =
    let p = c.requires in
    sum_fits (ready_relaxed p.ready c.loop-j.invariant) (along_inside p.y_lt_count c.loop-j-test.true c.place_of-from.ensures.0)

pub loop-j-preserved : goal.loop-j-preserved
loop-j-preserved c =
    let a = c.args in
    let l = c.loop-j in
    let from = along a.count a.y l.j c.place_of-from.result c.place_of-from.ensures.0 in
    let to = along a.count a.x l.j c.place_of-to.result c.place_of-to.ensures.0 in
    relaxed_turn {Y = RowTurn a.count a.x a.y} l.invariant (relaxed_at _ _ _ _ from to c.lower.ensures)
