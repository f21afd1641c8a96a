-- After so many turns the fields of the first factors are stored.
use Rattle.std.proofs.Common.{◌≡◌, ◌≤◌, ◌+◌, ◌*◌, take}
use Rattle.answers.specs.Line.{fields_of}
use Rattle.answers.specs.Storing.{Stores}
use Rattle.answers.proofs.writing.Line.put_fields.Given as goal

abbrev pub invariant-loop-factor : goal.invariant-loop-factor
invariant-loop-factor l =
    record {
      same_slice : l.self.out.ghost_name ≡ l.initial.self.out.ghost_name;
      stores : Stores (fields_of (take l.factor-index l.factors)) l.initial.self.end l.initial.self.out.now l.self.end l.self.out.now;
      upper_bound : l.self.end ≤ l.initial.self.end + 21 * l.factor-index;
    }
