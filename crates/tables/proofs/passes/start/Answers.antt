-- The generators passed so far are relaxed. Assumes nothing.
use Rattle.std.proofs.Common.{◌≡◌, ◌∙◌, ◌*◌, ◌≤◌, ◌<◌, length, arith}
use native.Mathlib.Nat.{le-mul_of_pos_right}
use Rattle.levels.proofs.Relaxing.{relaxed_none, relaxed_one_missing, relaxed_turn, lowers_length}
use Rattle.trees.specs.Tree.{at}
use Rattle.tables.specs.Rules.{place}
use Rattle.tables.specs.Levelling.{StartTurn}
use Rattle.tables.proofs.Steps.{relaxed_at}
use Rattle.tables.proofs.passes.start.Goals as goal

pub loop-j-init : goal.loop-j-init
loop-j-init c = relaxed_none (λ q d turn. omega (arith, turn.1))

pub loop-j-preserved : goal.loop-j-preserved
loop-j-preserved c =
    let t = c.args.tree.now in
    let l = c.loop-j in
    let rows : t.count ≤ t.count * t.count = le-mul_of_pos_right t.count c.requires.le_count in
    let inside : c.from.result < length l.table =
    omega (arith, c.from.ensures, c.requires.all_below l.j (omega arith), lowers_length l.invariant.lowers, c.requires.table_len) in
    let place_of : c.from.result ≡ place t.count 0 (at t.wholes.now l.j) = omega (arith, c.from.ensures) in
    relaxed_turn {Y = StartTurn t.count t.wholes.now} l.invariant
    (relaxed_at _ _ _ _ (lowers_length l.invariant.lowers ∙ c.requires.table_len) place_of
    (rw c.relax.ensures (relaxed_one_missing l.table c.from.result inside)))
