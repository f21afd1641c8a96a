-- Where b begins with S, (a, the rest of b) is relaxed from (v, b), and (b, v) from (the rest of b, a). Assumes nothing.
use mathlib.Core.Path.{ap, ◌∙◌}
use mathlib.Core.Logic.{◌⊎◌}
use Prim.Native.Nat.{ℕ, ◌<◌}
use Rattle.levels.specs.Passes.{Only}
use Rattle.levels.proofs.Relaxing.{relaxed_none, relaxed_then}
use Rattle.refusals.proofs.Telling.{told, told_not}
use Rattle.tables.specs.Rules.{place}
use Rattle.tables.proofs.Forward.{rest_inside}
use Rattle.tables.proofs.Finding.{rest_front, no_front}
use Rattle.tables.proofs.Steps.{ready_relaxed, sum_fits, relaxed_at, found_relaxed}
use native.Mathlib.Omega.{arith}
use Rattle.tables.proofs.rules.relax_triple.Goals.{After-from-t}
use Rattle.tables.proofs.rules.relax_triple.Goals as goal

-- b's rest is a node
rest_below : (c : After-from-t) → c.from-t.result < c.args.count
rest_below c =
    let a = c.args in
    let p = c.requires in
    let begins = told _ c.if-begins.true c.begins.ensures in
    omega (arith, c.from-t.ensures, rest_inside a.count a.letters.now a.rests.now p.rests_earlier a.b begins.0 p.b_lt_count)

pub relax_from-requires-then-begins-clause-from_bound : goal.relax_from-requires-then-begins-clause-from_bound
relax_from-requires-then-begins-clause-from_bound c = sum_fits (ready_relaxed c.requires.ready c.relax_from.ensures) c.place_of-then-begins-2.ensures.1

pub returns-then-begins : goal.returns-then-begins
returns-then-begins c =
    let a = c.args in
    let p = c.requires in
    let count = a.count in
    let begins = told _ c.if-begins.true c.begins.ensures in
    let below = p.b_lt_count in
    let rest = c.from-t.ensures in
    found_relaxed (λ t q d. Only (place count a.v a.b) (place count a.a t) q d ⊎ Only (place count t a.a) (place count a.b a.v) q d)
    (rest_front a.letters.now a.rests.now a.b below begins)
    (omega (arith, rest, rest_below (goal.at.returns-then-begins c).After-from-t))
    (relaxed_then
    (relaxed_at c.place_of.result _ c.place_of-then-begins.result _ c.place_of.ensures.0
    (c.place_of-then-begins.ensures.0 ∙ ap (place count a.a) rest) c.relax_from.ensures)
    (relaxed_at c.place_of-then-begins-2.result _ c.place_of-then-begins-3.result _
    (c.place_of-then-begins-2.ensures.0 ∙ ap (λ (t : ℕ). place count t a.a) rest)
    c.place_of-then-begins-3.ensures.0 c.relax_from-then-begins.ensures))

pub returns-else-begins : goal.returns-else-begins
returns-else-begins c =
    let a = c.args in
    let none = no_front a.letters.now a.rests.now a.b (told_not _ c.if-begins.false c.begins.ensures) in
    relaxed_none (λ q d turn. none turn.0 turn.2)
