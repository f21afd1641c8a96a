-- Behind the list the inverses of the first i generators are written, one behind the other, with their ends. Assumes nothing.
use mathlib.Core.Path.{◌≡◌}
use mathlib.Core.List.{List}
use lib.ListN.{length}
use Rattle.words.specs.Word.{Word}
use Rattle.lists.specs.Reducing.{ReducedFrom}
use Rattle.lists.proofs.InverseForms.{Inverting}
use Rattle.lists.proofs.inverting.write_signed.Given as goal

abbrev pub invariant-loop-i : goal.invariant-loop-i
invariant-loop-i l =
    record {
      room : length l.out ≡ length l.initial.out;
      room_ends : length l.out_ends ≡ length l.initial.out_ends;
      inverting : (gens : List Word) → ReducedFrom gens l.letters l.ends → Inverting gens l.letters l.ends l.initial.out_ends l.sum.0 l.from l.i l.out l.out_ends;
    }
