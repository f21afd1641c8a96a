-- The normal forms of the first i generators, none of them too long, are written, one behind the other, with their ends. Assumes nothing.
use mathlib.Core.Path.{◌≡◌}
use Prim.Native.Nat.{◌+◌, ◌≤◌}
use lib.ListN.{length, drop}
use Rattle.limits.specs.Limits.{most_of_list}
use Rattle.products.specs.Product.{generators_from, generators}
use Rattle.lists.specs.Questions.{first_long}
use Rattle.lists.proofs.Behind.{Behind}
use Rattle.lists.proofs.Forms.{Forming}
use Rattle.lists.proofs.reducing.write_forms.Given as goal

abbrev pub invariant-loop-i : goal.invariant-loop-i
invariant-loop-i l =
    record {
      behind : Behind l.bytes l.ends l.from l.i;
      room : length l.out ≡ length l.initial.out;
      room_ends : length l.out_ends ≡ length l.initial.out_ends;
      short : l.sum.0 ≤ most_of_list;
      long : first_long 0 (generators l.bytes l.ends) ≡ l.i + first_long l.sum.0 (generators_from l.bytes l.from (drop l.i l.ends));
      forming : Forming (generators l.bytes l.ends) l.initial.out_ends (generators_from l.bytes l.from (drop l.i l.ends)) l.sum.0 l.i l.out l.out_ends;
    }
