-- An image that is no product yet gets its row, is marked, and the products are closed again. Assumes nothing.
use Rattle.quick.proofs.TakingIn.{taken_known, rows_more, taken_new}
use Rattle.quick.proofs.closing.take_in.Goals as goal

pub returns-then-has : goal.returns-then-has
returns-then-has c =
    let a = c.args in
    let p = c.requires in
    taken_known a.image a.target a.rows.now a.marks.now p.rows_right p.marked c.if-has.ensures

pub close-requires-clause-rows_right : goal.close-requires-clause-rows_right
close-requires-clause-rows_right c =
    let a = c.args in
    let p = c.requires in
    rows_more a.image a.target a.rows.now.taken p.image_bound a.rows.now.entries _ p.rows_right p.taken_in_bounds c.fill_row.ensures

pub returns : goal.returns
returns c =
    let a = c.args in
    let p = c.requires in
    taken_new a.image a.target a.rows.now.taken p.image_bound a.rows.now.entries _ p.rows_right p.taken_in_bounds c.fill_row.ensures p.marked c.visit.ensures
    c.close.ensures
