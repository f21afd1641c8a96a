-- The item is marked, and the parts in its ways below d are wanted. Assumes nothing.
use Rattle.derivations.specs.Ways.{world_of}
use Rattle.witness.proofs.Places.{item_place}
use Rattle.witness.proofs.Marks.{ways_more, ways_decided, ways_all}
use native.Mathlib.Omega.{arith}
use Rattle.witness.proofs.marking.mark.Goals.{At-loop-d}
use Rattle.witness.proofs.marking.mark.Goals as goal

pub set_choice-requires : goal.set_choice-requires
set_choice-requires c =
    (c.requires.item.0, omega (arith, item_place (world_of c.args.setting.now) c.args.x c.args.y c.requires.item, c.requires.small.room))

pub returns-then-mark_way : goal.returns-then-mark_way
returns-then-mark_way c =
    ways_decided (world_of c.args.setting.now) c.args.x c.args.y c.args.choices.now
    c.set_choice.ensures c.loop-d.d c.loop-d.invariant c.mark_way.ensures c.if-mark_way.true

pub loop-d-preserved : goal.loop-d-preserved
loop-d-preserved c =
    ways_more (world_of c.args.setting.now) c.args.x c.args.y c.loop-d.d c.loop-d.invariant c.mark_way.ensures

pub returns : goal.returns
returns c =
    ways_all (world_of c.args.setting.now) c.args.x c.args.y c.args.choices.now
    c.set_choice.ensures c.loop-d.d c.requires.item.0
    (omega (arith, c.loop-d-test.false, c.ways-many.ensures)) c.loop-d.invariant
