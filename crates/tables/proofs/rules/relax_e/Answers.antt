-- The node with S in front of the pair's first, and the rest of its second. Assumes nothing.
use Rattle.std.proofs.Common.{Some, None, arith}
use Rattle.tables.specs.Relaxing.{Triples}
use Rattle.tables.proofs.Steps.{inside_relaxed, outside_relaxed}
use Rattle.tables.proofs.Finding.{not_found, none_joined, child_found, child_node, joined}
use Rattle.tables.proofs.rules.relax_e.Goals as goal

pub returns-in-Some-rest_after : goal.returns-in-Some-rest_after
returns-in-Some-rest_after c =
    let t = c.args.tree.now in
    let p = c.requires in
    let triples = Triples t.count t.letters.now t.rests.now in
    joined {Y = triples} (child_found (Some c.in-Some.a) p.linked_by p.x_lt_count c.in-Some.ensures) c.in-Some-rest_after.ensures.front
    (inside_relaxed triples (child_node (Some c.in-Some.a) p.linked_by p.x_lt_count c.in-Some.ensures) c.in-Some-rest_after.ensures.node c.relax_triples.ensures)

pub returns-in_default-rest_after : goal.returns-in_default-rest_after
returns-in_default-rest_after c =
    let t = c.args.tree.now in
    let p = c.requires in
    let triples = Triples t.count t.letters.now t.rests.now in
    joined {Y = triples} (child_found (Some c.in-Some.a) p.linked_by p.x_lt_count c.in-Some.ensures) c.in_default-rest_after.ensures.front
    (outside_relaxed triples (λ row column. omega arith))

pub returns-in_default : goal.returns-in_default
returns-in_default c =
    none_joined (not_found (child_found None c.requires.linked_by c.requires.x_lt_count c.in_default.ensures) (omega arith))
