-- What is ready fits, so the table is closed, the rows are filled, and the last row's entry decides. Assumes nothing.
use Prim.Native.Nat.{◌≤◌}
use native.Mathlib.Nat.{mul-le-mul}
use native.Mathlib.Omega.{arith}
use lib.ListN.{length}
use Rattle.limits.specs.Limits.{most_letters, most_states}
use Rattle.reach.proofs.RoomPassed.{room_passed}
use Rattle.reach.proofs.LastEntry.{decided}
use Rattle.reach.proofs.deciding.decide.Goals as goal

pub overflow_mul-form : goal.overflow_mul-form
overflow_mul-form c =
    let letters : length c.args.form.now ≤ most_letters = c.requires.form_len_bound in
    let nodes : c.args.tree.now.count ≤ most_states = c.requires.count_le_most_states in
    omega (arith, mul-le-mul letters nodes)

pub returns : goal.returns
returns c gens m ready passed =
    rw c.entry.ensures.0
    (decided ready (record { first = c.args.first.now; second = c.args.second.now }) (room_passed _ _ _ _ passed) c.close.result c.close.ensures c.fill.result c.fill.ensures)
