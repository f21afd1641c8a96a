-- The nodes passed so far are done. Assumes nothing.
use Rattle.levels.specs.Levels.{Relaxed}
use Rattle.levels.specs.Passes.{Upto}
use Rattle.tables.specs.Relaxing.{TripleTurn}
use Rattle.tables.proofs.rules.relax_triples.Given as goal

abbrev pub invariant-loop-b : goal.invariant-loop-b
invariant-loop-b l = Relaxed l.k.0 (Upto (TripleTurn l.count l.letters l.rests l.a l.v) l.b) l.initial.table l.table
