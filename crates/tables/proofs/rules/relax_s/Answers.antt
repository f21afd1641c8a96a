-- The child of x by S and its child, what is left of y without S and without two, and the child of y by S. Assumes nothing.
use Rattle.std.proofs.Common.{Some, None, arith}
use Rattle.levels.specs.Levels.{Relaxed}
use Rattle.levels.proofs.Relaxing.{relaxed_none, relaxed_then}
use Rattle.tables.specs.Nodes.{Front}
use Rattle.tables.specs.Relaxing.{One, UsesTwoS}
use Rattle.tables.proofs.Steps.{ready_relaxed}
use Rattle.tables.proofs.Finding.{not_found, none_joined, child_found, child_node, finds_through, front_node, joined}
use Rattle.tables.proofs.rules.relax_s.Goals.{After-child-2, in-Some-rest_after, in_default-rest_after}
use Rattle.tables.proofs.rules.relax_s.Goals as goal

-- C and D are relaxed, also where y does not begin with S, and they use nothing
two : (c : After-child-2) → Relaxed c.args.k.0
    (UsesTwoS c.args.tree.now.count c.args.tree.now.letters.now c.args.tree.now.rests.now c.args.x c.args.y) c.args.table.now c.match-rest_after.table
two c =
    let t = c.args.tree.now in
    let p = c.requires in
    let front = child_found (Some c.in-Some.a) p.linked_by p.x_lt_count c.in-Some.ensures in
    let inside = child_node (Some c.in-Some.a) p.linked_by p.x_lt_count c.in-Some.ensures in
    elim c.match-rest_after.branch [
      | in-Some-rest_after w ↦
          let rest = w.in-Some-rest_after.ensures.front in
          let front-twice = finds_through {Q = λ m z. Front t.count t.letters.now t.rests.now 83 z m} (λ z fronts. front_node p.linked_by.followed fronts) front
          (child_found _ p.linked_by inside w.child-in-Some-rest_after.ensures) in
          let rest-twice = finds_through {Q = λ m z. Front t.count t.letters.now t.rests.now 83 m z} (λ z fronts. fronts.1) rest
          w.rest_after-in-Some-rest_after.ensures.front in
          rw w.table-is
          (relaxed_then (joined {Y = One t.count} front-twice rest w.relax_at.ensures) (joined {Y = One t.count} front rest-twice w.relax_at-in-Some-rest_after.ensures))
      | in_default-rest_after w ↦
          let none = not_found w.in_default-rest_after.ensures.front (omega arith) in
          rw w.table-is
          (relaxed_then (relaxed_none (λ q d joins. none joins.1 joins.3 joins.5))
          (relaxed_none (λ q d joins. none joins.5.0 joins.5.1 joins.5.2)))
    ]

pub returns-in_default : goal.returns-in_default
returns-in_default c =
    let none = not_found (child_found None c.requires.linked_by c.requires.x_lt_count c.in_default.ensures) (omega arith) in
    relaxed_then (relaxed_then (none_joined (λ p inside through. none through.0 through.1 through.2)) (none_joined none)) (none_joined none)

pub relax_at-requires-in-Some-rest_after-clause-ready : goal.relax_at-requires-in-Some-rest_after-clause-ready
relax_at-requires-in-Some-rest_after-clause-ready c = ready_relaxed c.requires.ready c.relax_at.ensures

pub relax_at-requires-2-clause-ready : goal.relax_at-requires-2-clause-ready
relax_at-requires-2-clause-ready c = ready_relaxed c.requires.ready (two c)

pub relax_at-requires-2-clause-b_node : goal.relax_at-requires-2-clause-b_node
relax_at-requires-2-clause-b_node c = child_node _ c.requires.linked_by c.requires.y_lt_count c.child-2.ensures

pub returns : goal.returns
returns c =
    let p = c.requires in
    relaxed_then (two (goal.at.returns c).After-child-2)
    (joined {Y = One c.args.tree.now.count} (child_found (Some c.in-Some.a) p.linked_by p.x_lt_count c.in-Some.ensures)
    (child_found _ p.linked_by p.y_lt_count c.child-2.ensures) c.relax_at-2.ensures)
