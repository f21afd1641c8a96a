-- After so many turns the first bytes are stored.
use Rattle.std.proofs.Common.{◌≡◌, take}
use Rattle.answers.specs.Storing.{Stores}
use Rattle.answers.proofs.writing.Line.put.Given as goal

abbrev pub invariant-loop-byte : goal.invariant-loop-byte
invariant-loop-byte l =
    record {
      same_slice : l.self.out.ghost_name ≡ l.initial.self.out.ghost_name;
      stores : Stores (take l.byte-index l.text) l.initial.self.end l.initial.self.out.now l.self.end l.self.out.now;
    }
