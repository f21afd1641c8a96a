-- The bytes from the end down to i are read. Assumes nothing.
use Rattle.std.proofs.Common.{arith, ◌≡◌}
use Rattle.trees.proofs.Growth.{read_one}
use Rattle.trees.proofs.growing.read_backwards.Goals as goal

pub loop-i-preserved : goal.loop-i-preserved
loop-i-preserved c =
    let some = c.loop-i-test.true in
    let l = c.loop-i in
    let a = c.args in (
      omega (arith, some),
      read_one a.bytes.now a.end a.count _ c.requires.from_le_end.1 l.i (omega (arith, some)) l.auto.i l.invariant.1 c.child-place.ensures,
    )

pub returns : goal.returns
returns c =
    let l = c.loop-i in
    let all : l.i ≡ c.args.from = omega (arith, l.invariant.0, c.loop-i-test.false) in
    rw (← all) l.invariant.1
