-- A table that was filled fits the rows, so both are filled, and the last row decides. Assumes nothing.
use Rattle.refusals.proofs.Telling.{told}
use Rattle.products.specs.Product.{measure}
use Rattle.tables.specs.Filling.{Fills}
use Rattle.std.specs.Prelude.{Ok}
use Rattle.search.proofs.Tabulating.{searched}
use Rattle.search.proofs.least.Goals as goal

pub returns : goal.returns
returns c =
    let a = c.args in
    let t = a.tree.now in
    let room = told c.has_room.result c.if-not-has_room.false c.has_room.ensures in
    let filled : Fills measure t.count t.letters.now t.rests.now t.children_r.now t.children_s.now t.wholes.now a.n.0 a.first.now (Ok tt) c.fill.new.table =
    c.in_ok-fill.ensures in
    searched (record { room = room; table = filled.0 }) filled.1 c.fill-2.result c.fill-2.ensures c.answer.ensures
