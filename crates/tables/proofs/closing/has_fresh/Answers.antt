-- Where not every place is without the entry 1, one has it. Assumes nothing.
use Rattle.std.specs.Prelude.{Bool, true, false, not, List, ℕ, ◌≡◌, ◌<◌, length}
use Rattle.std.proofs.Common.{arith}
use Rattle.refusals.specs.Telling.{Tells}
use Rattle.levels.specs.Levels.{entry}
use Rattle.tables.specs.Levelling.{Without}
use Rattle.tables.proofs.closing.has_fresh.Goals as goal
use Rattle.levels.proofs.Closing.{some_entry}

tells_fresh : (table : List ℕ) (r : Bool) → Tells r (Without 1 1 table 0 (length table)) → Tells (not r) ((p : ℕ) × (p < length table) × (entry table p ≡ 1))
tells_fresh table true none = λ fresh. none fresh.0 fresh.1 (omega arith) (omega (arith, fresh.2)) (omega (arith, fresh.2))
tells_fresh table false some = some_entry table 1 (length table) (λ none. some (λ p inside behind low high. none p inside (omega arith)))

pub returns : goal.returns
returns c = tells_fresh c.args.table.now c.absent.result c.absent.ensures
