-- After i turns the first i generators stand in the fronts of the two slices, and the others in the rest of the bytes.
use Rattle.std.proofs.Common.{ℕ, List}
use Rattle.cards.specs.Reading.{Listed}
use Rattle.cards.proofs.PushingList.{Pushing}
use Rattle.cards.proofs.flattening.write_list.Given as goal

abbrev pub invariant-loop-i : goal.invariant-loop-i
invariant-loop-i l =
    (generators : List (List ℕ)) → Listed l.list.bytes.now l.list.count generators
    → Pushing l.list.count generators l.initial.letters l.initial.ends l.letters l.ends l.rest l.sum l.i
