-- What an item weighs by a table of counts of the code. Assumes nothing: these are definitions.
use Rattle.std.specs.Prelude.{ℕ}
use Rattle.derivations.specs.Ways.{weigh}
use Rattle.items.specs.declared.Counts.{Counts}

abbrev pub weigh_by : Counts → ℕ → ℕ → ℕ
weigh_by c x y = weigh c.count c.generators c.letters c.entries.now x y
