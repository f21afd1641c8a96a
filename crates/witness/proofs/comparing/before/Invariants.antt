-- The comparison goes on until two factors differ or a stack is empty. Its measure is what both stacks are still to cost, which falls at each step.
-- Assumes nothing.
use Prim.Native.Nat.{◌+◌}
use Rattle.derivations.specs.Ways.{world_of}
use Rattle.witness.specs.Choices.{choice_at}
use Rattle.witness.specs.Stacks.{steps_left}
use Rattle.witness.specs.Comparing.{GoingOn}
use Rattle.witness.proofs.comparing.before.Given as goal

abbrev pub invariant-loop-answer : goal.invariant-loop-answer
invariant-loop-answer l =
    GoingOn (world_of l.setting) (choice_at l.setting.tree.count l.choices) l.initial.first l.initial.second l.first l.second

abbrev pub decreases-loop-answer : goal.decreases-loop-answer
decreases-loop-answer l = let w = world_of l.setting in steps_left w l.first + steps_left w l.second
