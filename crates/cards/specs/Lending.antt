-- The slices that are lent together. Assumes nothing: these are definitions.
use Rattle.std.specs.Prelude.{◌≡◌}
use Rattle.engine.specs.Calls.{Lent}
use Rattle.cards.specs.declared.answering.Lent.{Lent as Slices}

-- what they hold
abbrev pub held : Slices → Lent
held lent = record { first = lent.first.now; second = lent.second.now; witness = lent.witness.now }

-- they are the same slices still
abbrev pub SameSlices : Slices → Slices → Type 0
SameSlices before after =
    (after.first.ghost_name ≡ before.first.ghost_name) × (after.second.ghost_name ≡ before.second.ghost_name)
    × (after.witness.ghost_name ≡ before.witness.ghost_name)
