-- Each test is one of the fields. Assumes nothing.
use Prim.Native.Nat.{◌+◌, ◌≤◌}
use native.Mathlib.Nat.{mul-le-mul}
use native.Mathlib.Omega.{arith}
use Rattle.limits.specs.Limits.{most_letters, most_states}
use Rattle.search.proofs.fitting.has_room.Goals as goal

pub overflow_mul-result : goal.overflow_mul-result
overflow_mul-result c =
    let a = c.args in
    let rows : a.count + a.letters ≤ most_states + most_letters = omega arith in
    let nodes : a.count ≤ most_states = omega arith in
    omega (arith, mul-le-mul rows nodes)
