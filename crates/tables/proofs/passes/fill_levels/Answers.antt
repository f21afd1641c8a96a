-- The passes of all levels below k are done. Assumes nothing.
use Rattle.tables.proofs.Levelled.{levelled_begins, levelled_more}
use Rattle.std.proofs.lemmas.Grind.{common_steps}
use native.Mathlib.Omega.{arith}
use Rattle.tables.proofs.passes.fill_levels.Goals as goal

pub loop-k-init : goal.loop-k-init
loop-k-init c =
    let a = c.args in
    let p = c.requires in (
      omega arith,
      omega arith,
      levelled_begins a.tree.now.count a.tree.now.letters.now a.tree.now.rests.now a.tree.now.wholes.now p.linked.s.followed.rest_earlier a.n.0
          p.le_count p.all_below (grind (arith, common_steps, c.fill.ensures.after (λ y same. same), p.table_len)) c.start.ensures,
    )

pub loop-k-preserved : goal.loop-k-preserved
loop-k-preserved c =
    let a = c.args in
    let p = c.requires in
    let l = c.loop-k in
    let next = c.level_after-k.ensures in (
      omega (arith, next.above),
      next.bounded,
      levelled_more a.tree.now.count a.tree.now.letters.now a.tree.now.rests.now a.tree.now.wholes.now p.linked.s.followed.rest_earlier a.n.0
          l.invariant.0 c.loop-k-test.true l.invariant.2 c.pass.ensures next,
    )
