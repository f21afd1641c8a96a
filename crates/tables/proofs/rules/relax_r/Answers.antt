-- The child of x by R, with what is left of y without R and with the child of y by R. Assumes nothing.
use Rattle.std.proofs.Common.{Some, None, arith}
use Rattle.levels.proofs.Relaxing.{relaxed_then}
use Rattle.tables.specs.Relaxing.{One}
use Rattle.tables.proofs.Steps.{ready_relaxed}
use Rattle.tables.proofs.Finding.{not_found, none_joined, child_found, child_node, joined}
use Rattle.tables.proofs.rules.relax_r.Goals as goal

pub returns-in_default : goal.returns-in_default
returns-in_default c =
    let none = not_found (child_found None c.requires.linked_by c.requires.x_lt_count c.in_default.ensures) (omega arith) in
    relaxed_then (none_joined none) (none_joined none)

pub relax_at-requires-2-clause-ready : goal.relax_at-requires-2-clause-ready
relax_at-requires-2-clause-ready c = ready_relaxed c.requires.ready c.relax_at.ensures

pub relax_at-requires-2-clause-b_node : goal.relax_at-requires-2-clause-b_node
relax_at-requires-2-clause-b_node c = child_node _ c.requires.linked_by c.requires.y_lt_count c.child-2.ensures

pub returns : goal.returns
returns c =
    let p = c.requires in
    let count = c.args.tree.now.count in
    let front = child_found (Some c.in-Some.a) p.linked_by p.x_lt_count c.in-Some.ensures in
    relaxed_then
    (joined {Y = One count} front c.rest_after.ensures.front c.relax_at.ensures)
    (joined {Y = One count} front (child_found _ p.linked_by p.y_lt_count c.child-2.ensures) c.relax_at-2.ensures)
