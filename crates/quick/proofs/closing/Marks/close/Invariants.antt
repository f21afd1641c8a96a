-- One image of the queue after the other. Assumes nothing.
use Prim.Native.Nat.{◌-◌}
use Rattle.quick.specs.Closing.{Marked, Grown, AllMade}
use Rattle.quick.proofs.Spreading.{Passing}
use Rattle.quick.proofs.closing.Marks.close.Given as goal

abbrev pub invariant-loop-i : goal.invariant-loop-i
invariant-loop-i l =
    let before = l.initial.self in
    record {
      marked : Marked l.self.visited l.self.queue l.self.count;
      grown : Grown before.visited before.queue before.count l.self.visited l.self.queue l.self.count;
      made : AllMade l.rows.entries l.rows.taken before.visited → AllMade l.rows.entries l.rows.taken l.self.visited;
      passing : Passing l.rows.entries l.rows.taken l.old before.visited before.queue l.i l.self.visited l.self.queue;
    }

abbrev pub decreases-loop-i : goal.decreases-loop-i
decreases-loop-i l = 168 - l.i
