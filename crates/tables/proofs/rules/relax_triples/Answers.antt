-- The nodes passed so far are done. Assumes nothing.
use Rattle.levels.proofs.Relaxing.{relaxed_none, relaxed_turn}
use Rattle.tables.specs.Relaxing.{TripleTurn}
use Rattle.tables.proofs.Steps.{ready_relaxed}
use native.Mathlib.Omega.{arith}
use Rattle.tables.proofs.rules.relax_triples.Goals as goal

pub loop-b-init : goal.loop-b-init
loop-b-init c = relaxed_none (λ q d turn. omega (arith, turn.1))

pub relax_triple-requires-clause-ready : goal.relax_triple-requires-clause-ready
relax_triple-requires-clause-ready c = ready_relaxed c.requires.ready c.loop-b.invariant

pub loop-b-preserved : goal.loop-b-preserved
loop-b-preserved c =
    let a = c.args in
    relaxed_turn {Y = TripleTurn a.count a.letters.now a.rests.now a.a a.v} c.loop-b.invariant c.relax_triple.ensures
