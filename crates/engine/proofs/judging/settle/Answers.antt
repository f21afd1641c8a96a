-- What is ready is decided where the sizes have passed, and then both tables are zeroed. Assumes nothing.
use mathlib.Core.Path.{refl}
use lib.ListN.{length, length-map}
use Rattle.words.specs.Bytes.{letter, word}
use Rattle.products.specs.Product.{plain}
use Rattle.sizes.specs.Questions.{side}
use Rattle.sizes.proofs.Passing.{SizesPassed, sizes_passed}
use Rattle.engine.specs.Calls.{Lent}
use Rattle.engine.proofs.Verdicts.{judged_settled}
use native.Mathlib.Omega.{arith}
use Rattle.engine.proofs.judging.settle.Goals.{Start}
use Rattle.engine.proofs.judging.settle.Goals as goal

-- what is lent
abbrev lent : Start → Lent
lent s = record { first = s.args.first.now; second = s.args.second.now; witness = s.args.witness.now }

-- a form that is ready is no longer than question 8 lets a word be
pub returns-then-form-gt-WORD_LETTERS : goal.returns-then-form-gt-WORD_LETTERS
returns-then-form-gt-WORD_LETTERS c = λ gens ready passed. absurd (omega (arith, ready.form_short, c.if-form-gt-WORD_LETTERS.true))

pub returns : goal.returns
returns c =
    let d = c.decide-verdict in
    let zero-first = c.zero_table in
    let zero-second = c.zero_table-2 in
    let a = c.args in
    let same = length-map a.form.now letter in
    let first = d.new.first in
    let second = d.new.second in
    let witness = d.new.witness in
    λ gens ready passed.
    let room : SizesPassed a.m.0 (length (word a.form.now)) a.n.0 (length a.first.now) (length a.second.now) (length a.witness.now) =
    sizes_passed a.m.0 (length (word a.form.now)) a.n.0 (length a.first.now) (length a.second.now) (length a.witness.now) passed in
    judged_settled (side a.m.0 (length (word a.form.now))) (plain gens) (word a.form.now) a.n.0 d.result (lent (goal.at.returns c).Start)
    (record { first = first; second = second; witness = witness })
    (record { first = zero-first.new.table; second = zero-second.new.table; witness = witness })
    (rw same (d.ensures gens a.m.0 ready (rw same at passed)))
    (omega (arith, room.first_room, d.auto.first))
    (rw same zero-first.ensures)
    (omega (arith, room.second_room, d.auto.second))
    (rw same zero-second.ensures)
    refl
