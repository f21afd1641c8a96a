-- The best way of all is written, where there is one. Assumes nothing.
use Rattle.derivations.specs.Ways.{world_of}
use Rattle.witness.specs.Choosing.{Choosable}
use Rattle.witness.proofs.Numbers.{item_place}
use Rattle.witness.proofs.Best.{chosen_foremost}
use Rattle.witness.proofs.choosing.choose.Goals.{Start}
use Rattle.witness.proofs.choosing.choose.Goals as goal

choosable : (c : Start) → Choosable (world_of c.args.setting.now) c.args.choices.now c.args.x c.args.y
choosable c =
    let p = c.requires in
    record { small = p.small; item = p.item; light = p.y_bound; settled = p.all_settled; done = p.candidates_done }

pub set_choice-requires : goal.set_choice-requires
set_choice-requires c = let item = c.requires.item in (item.0, item_place c.requires.small _ _ item)

pub returns : goal.returns
returns c =
    chosen_foremost (choosable (goal.at.returns c).Start) c.in-Some.way c.in-Some.ensures _ _ c.set_choice.ensures
