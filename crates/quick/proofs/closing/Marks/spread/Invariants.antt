-- One image taken in after the other. Assumes nothing.
use Rattle.quick.specs.Closing.{Spreads}
use Rattle.quick.proofs.closing.Marks.spread.Given as goal

abbrev pub invariant-loop-b : goal.invariant-loop-b
invariant-loop-b l =
    Spreads l.rows.entries l.from l.b l.rows.taken l.i l.initial.self.visited l.initial.self.queue l.initial.self.count l.self.visited l.self.queue l.self.count
