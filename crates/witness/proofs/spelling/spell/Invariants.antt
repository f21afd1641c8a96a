-- The walk goes on until the stack is empty. Its measure is what the stack is still to cost, which falls at each step. Assumes nothing.
use mathlib.Core.Path.{◌≡◌}
use mathlib.Core.List.{List}
use Prim.Native.Nat.{ℕ}
use lib.ListN.{length}
use Rattle.derivations.specs.Derivations.{Firsts}
use Rattle.derivations.specs.Ways.{world_of, parts_in, weight_in}
use Rattle.witness.specs.Choices.{choice_at}
use Rattle.witness.specs.Stacks.{steps_left}
use Rattle.witness.specs.Spelling.{Halfway}
use Rattle.witness.proofs.spelling.spell.Given as goal

abbrev pub invariant-loop-stack : goal.invariant-loop-stack
invariant-loop-stack l =
    let w = world_of l.setting in
    (length l.witness ≡ length l.initial.witness)
    × ((r : List ℕ)
    × Firsts (parts_in w) (weight_in w) l.x l.y r
    × Halfway w (choice_at l.setting.tree.count l.choices) l.initial.witness r l.stack l.witness l.written)

abbrev pub decreases-loop-stack : goal.decreases-loop-stack
decreases-loop-stack l = steps_left (world_of l.setting) l.stack
