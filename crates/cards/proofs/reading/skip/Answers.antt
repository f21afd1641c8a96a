-- Each generator that is read is one fewer that remains. Assumes nothing.
use Rattle.std.proofs.Common.{◌≡◌, ◌-◌, ◌+◌, suc, [], refl, arith, Some}
use Rattle.cards.proofs.Skipping.{one_cut, one_passed}
use Rattle.cards.proofs.reading.skip.Goals as goal

pub returns-in_err-rest : goal.returns-in_err-rest
returns-in_err-rest c =
    let l = c.loop in
    let n : c.args.count - l.counter ≡ suc (c.args.count - (l.counter + 1)) = omega arith in
    rw c.from_residual.ensures (one_cut _ _ _ l.invariant _ n c.in_err-rest.ensures)

pub loop-preserved : goal.loop-preserved
loop-preserved c =
    let l = c.loop in
    let n : c.args.count - l.counter ≡ suc (c.args.count - (l.counter + 1)) = omega arith in
    one_passed _ _ _ l.invariant _ n c.in_ok-rest.ensures.1

pub returns : goal.returns
returns c =
    let l = c.loop in
    let none : c.args.count - l.counter ≡ 0 = omega arith in
    rw none at l.invariant (Some l.rest) ([], refl)
