-- What places lead to that were used is led to. A sweep that finds a fresh place brings the sum of all entries down. Assumes nothing.
use mathlib.Core.Path.{ap, ◌∙◌}
use Prim.Native.Nat.{ℕ}
use lib.ListN.{replicate}
use Rattle.refusals.proofs.Telling.{told}
use Rattle.tables.proofs.Closed.{swept_begins, swept_more, swept_less}
use Rattle.tables.proofs.closing.close_pairs.Goals as goal

pub loop-table-init : goal.loop-table-init
loop-table-init c =
    let a = c.args in
    let p = c.requires in
    let cleared = c.fill.ensures.after (λ y same. same) ∙ ap (λ (m : ℕ). replicate m 2) p.table_len in
    swept_begins a.tree.now.count a.tree.now.letters.now a.tree.now.rests.now a.tree.now.wholes.now p.linked.s.followed.rest_earlier
    p.le_count p.all_below cleared c.start.ensures

pub loop-table-smaller : goal.loop-table-smaller
loop-table-smaller c =
    let a = c.args in
    let fresh = told c.has_fresh.result c.loop-table-test.true c.has_fresh.ensures in
    swept_less a.tree.now.count a.tree.now.letters.now a.tree.now.rests.now a.tree.now.wholes.now c.requires.linked.s.followed.rest_earlier
    c.loop-table.invariant c.sweep.ensures fresh.0 fresh.1 fresh.2

pub loop-table-preserved : goal.loop-table-preserved
loop-table-preserved c =
    let a = c.args in
    swept_more a.tree.now.count a.tree.now.letters.now a.tree.now.rests.now a.tree.now.wholes.now c.requires.linked.s.followed.rest_earlier
    c.loop-table.invariant c.sweep.ensures
