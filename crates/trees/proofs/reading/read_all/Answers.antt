-- The first i generators are read. Assumes nothing.
use Rattle.std.specs.Prelude.{List, ℕ}
use Rattle.std.proofs.Common.{ap, ◌∙◌, arith}
use Rattle.trees.specs.Tree.{at}
use Rattle.trees.proofs.Behind.{at_same}
use Rattle.trees.proofs.Remaining.{remains_same, remains_more}
use Rattle.trees.proofs.Listed.{read_begins}
use Rattle.trees.proofs.reading.read_all.Goals as goal

pub loop-i-init : goal.loop-i-init
loop-i-init c =
    let a = c.args in
    let made = c.make_root.ensures in (
      read_begins
          a.bytes.now
          a.ends.now
          _
          _
          _
          _
          _
          (ap (λ (l : List ℕ). at l 0) made.0 ∙ at_same a.rests.now 0 0 (omega (arith, c.requires.room_rests)))
          (ap (λ (l : List ℕ). at l 0) made.1 ∙ at_same a.children_r.now 0 0 (omega (arith, c.requires.room_r)))
          (ap (λ (l : List ℕ). at l 0) made.2 ∙ at_same a.children_s.now 0 0 (omega (arith, c.requires.room_s))),
      remains_same _ _,
    )

pub loop-i-preserved : goal.loop-i-preserved
loop-i-preserved c =
    let r = c.read_generator-count.ensures in
    (r.read_2, remains_more _ _ _ r.lower_bound.0 c.loop-i.invariant.1 r.lower_bound.1)
