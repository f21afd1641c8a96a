-- What stands at the end of the last row decides; the rows are carried behind the pairs, and what is written is the answer. Assumes nothing.
use mathlib.Core.Bool.{false≢true}
use mathlib.Core.Path.{◌≡◌, refl}
use Prim.Native.Nat.{suc, ◌+◌, ◌*◌, ◌≤◌}
use native.Mathlib.Omega.{arith}
use lib.ListN.{length}
use Rattle.tables.proofs.Parts.{part_length}
use Rattle.std.specs.Prelude.{Ok, Err}
use Rattle.std.specs.Result.{IsErr}
use Rattle.search.specs.Search.{used, Found}
use Rattle.search.proofs.Laid.{laid_carried, carried_kept}
use Rattle.search.proofs.Deciding.{none_answered, written_answered}
use Rattle.search.proofs.Tabulating.{rows_used}
use Rattle.search.proofs.answer.Goals as goal

pub returns-then-n-entry : goal.returns-then-n-entry
returns-then-n-entry c = none_answered c.requires (omega (arith, c.entry.ensures.0))

pub carry-requires : goal.carry-requires
carry-requires c =
    let a = c.args in
    let t = length a.target.now in
    let room = c.requires.room in
    let there : (t + 1) * a.tree.now.count ≤ length a.second.now = omega (arith, rows_used a.tree.now.count t, room.second) in
    omega (arith, room.first, part_length a.second.now a.tree.now.count ((t + 1) * a.tree.now.count) there)

pub returns : goal.returns
returns c =
    let tabulated = c.requires in
    let a = c.args in
    let count = a.tree.now.count in
    let t = length a.target.now in
    let room = tabulated.room in
    let all : (t + 1) * count ≡ suc t * count = omega arith in
    let there : (t + 1) * count ≤ length a.second.now = omega (arith, rows_used count t, room.second) in
    let behind : count * count + t * count ≤ length a.first.now = omega (arith, room.first) in
    let laid = laid_carried count t a.first.now a.second.now ((t + 1) * count) all there behind c.carry.ensures in
    let kept = carried_kept count t a.first.now a.second.now ((t + 1) * count) all there behind c.carry.ensures (used count t) (omega arith) in
    written_answered tabulated _ laid (Ok c.in_ok-least.least) (omega (arith, c.entry.ensures.0)) kept c.in_ok-least.ensures

-- what does not fit is one
unfit_same : (r : Found) → IsErr r → r ≡ Err (record {})
unfit_same (Ok _) e = absurd (false≢true e)
unfit_same (Err _) e = refl

pub returns-in_err-least : goal.returns-in_err-least
returns-in_err-least c =
    let tabulated = c.requires in
    let a = c.args in
    let count = a.tree.now.count in
    let t = length a.target.now in
    let room = tabulated.room in
    let all : (t + 1) * count ≡ suc t * count = omega arith in
    let there : (t + 1) * count ≤ length a.second.now = omega (arith, rows_used count t, room.second) in
    let behind : count * count + t * count ≤ length a.first.now = omega (arith, room.first) in
    let laid = laid_carried count t a.first.now a.second.now ((t + 1) * count) all there behind c.carry.ensures in
    let kept = carried_kept count t a.first.now a.second.now ((t + 1) * count) all there behind c.carry.ensures (used count t) (omega arith) in
    rw (unfit_same c.from_residual.result c.from_residual.ensures.0)
    (written_answered tabulated _ laid (Err c.in_err-least.field-0.0) (omega (arith, c.entry.ensures.0)) kept c.in_err-least.ensures)
