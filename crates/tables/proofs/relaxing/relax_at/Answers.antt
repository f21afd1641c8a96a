-- The place of the two nodes is inside the table. Assumes nothing.
use Rattle.std.proofs.Common.{arith}
use Rattle.levels.proofs.Relaxing.{relaxed_one_missing}
use Rattle.tables.specs.Relaxing.{One}
use Rattle.tables.proofs.Steps.{relaxed_at, inside_relaxed, outside_relaxed}
use Rattle.tables.proofs.relaxing.relax_at.Goals as goal

pub returns-in-Some-b : goal.returns-in-Some-b
returns-in-Some-b c =
    let x = c.args in
    let bounded = c.requires.ready.bounded.long in
    rw (c.in-Some.is, c.in-Some-b.is)
    (inside_relaxed (One x.count) (rw c.in-Some.is at c.requires.a_node) (rw c.in-Some-b.is at c.requires.b_node)
    (relaxed_at _ _ c.place_of.result _ bounded c.place_of.ensures.0
    (rw c.relax.ensures (relaxed_one_missing x.table.now c.place_of.result (omega (arith, c.place_of.ensures.1, bounded))))))

pub returns-in_default-b : goal.returns-in_default-b
returns-in_default-b c = rw c.in_default-b.is (outside_relaxed (One c.args.count) (λ row column. omega arith))

pub returns-in_default : goal.returns-in_default
returns-in_default c = rw c.in_default.is (outside_relaxed (One c.args.count) (λ row column. omega arith))
