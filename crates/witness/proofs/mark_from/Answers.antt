-- The choices are cleared, the item is needed, and what it needs is marked. Assumes nothing.
use Prim.Native.Nat.{◌+◌}
use Rattle.derivations.specs.Ways.{world_of}
use Rattle.witness.specs.Sweeping.{MarksTo}
use Rattle.witness.proofs.Places.{small_kept}
use Rattle.witness.proofs.MarkSweeps.{marks_then, marking_begins}
use Rattle.witness.proofs.mark_from.Goals.{After-set_choice, Start}
use Rattle.witness.proofs.mark_from.Goals as goal

-- only the item is needed
first : (c : After-set_choice)
    → MarksTo (world_of c.args.setting.now) (c.args.k.0 + 1) 0 c.args.choices.now c.set_choice.new.choices
first c =
    let a = c.args in
    let p = c.requires in
    marking_begins (world_of c.args.setting.now) a.choices.now p.small.room a.x a.k.0 p.x_value p.le_k.0 p.le_k.1 c.clear.ensures
    c.set_choice.ensures

pub mark_all-requires : goal.mark_all-requires
mark_all-requires c =
    record {
      small = small_kept (world_of c.args.setting.now) c.requires.small (first (goal.at.mark_all-requires c).After-set_choice).keeps;
      marking = (first (goal.at.mark_all-requires c).After-set_choice).marking;
    }

pub returns : goal.returns
returns c =
    marks_then (world_of c.args.setting.now) (first (goal.at.returns c).After-set_choice) c.mark_all.ensures
