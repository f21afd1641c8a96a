-- The child is there, or a node is added. Assumes nothing.
use Rattle.trees.proofs.Growth.{child_found, child_made}
use native.Mathlib.Omega.{arith}
use Rattle.trees.proofs.growing.child_by.Goals as goal

pub returns-then-child-gt0 : goal.returns-then-child-gt0
returns-then-child-gt0 c = λ a b differ is.
    let x = c.args in
    let e = c.entry-child.ensures.0 in
    rw e
    (child_found
    differ
    x.letters.now
    x.rests.now
    x.children.now
    x.others.now
    x.place.node
    x.place.count
    c.requires.node_lt_count
    (omega (arith, e, c.if-child-gt0.true)))

pub returns : goal.returns
returns c = λ a b differ is.
    let x = c.args in
    let made = c.add_node.ensures in
    rw (made.0, made.1, made.2, made.3)
    (child_made
    differ
    x.letters.now
    x.rests.now
    x.children.now
    x.others.now
    x.place.node
    x.place.count
    c.requires.node_lt_count
    x.byte
    (omega (arith, c.entry-child.ensures.0, c.if-child-gt0.false))
    is
    c.requires.room_for)
