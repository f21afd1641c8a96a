-- What is ready is searched. Assumes nothing.
use Rattle.sizes.proofs.Passing.{sizes_passed}
use Rattle.search.specs.Search.{Lent}
use Rattle.engine.proofs.Settling.{settled}
use Rattle.engine.proofs.judging.decide.Goals as goal

pub returns : goal.returns
returns c =
    let found = c.least in
    let a = c.args in
    let before : Lent = record { first = a.first.now; second = a.second.now; witness = a.witness.now } in
    let after : Lent =
    record {
      first = found.new.first;
      second = found.new.second;
      witness = found.new.witness;
    } in
    λ gens m ready passed.
    rw c.verdict_of.ensures (settled a.n.0 ready before (sizes_passed _ _ _ _ _ _ passed) after found.result found.ensures)
