-- One step of the comparison, by the items on top. Assumes nothing.
use mathlib.Core.Path.{sym, ◌∙◌}
use Rattle.derivations.specs.Ways.{world_of}
use Rattle.witness.proofs.Deciding.{answers_none, answers_none_other, popped, answers_differ, goes_on_same}
use Rattle.witness.proofs.comparing.compare_once.Goals.{
  then-height-eq0-via-then-height-eq0,
  then-height-eq0-via-else-height-eq0+then-height-eq0-2,
}
use Rattle.witness.proofs.comparing.compare_once.Goals as goal

pub returns-then-height-eq0 : goal.returns-then-height-eq0
returns-then-height-eq0 c =
    elim c.then-height-eq0.branch [
      | then-height-eq0-via-then-height-eq0 w ↦ answers_none {w = world_of c.args.setting.now} (sym c.height.ensures ∙ w.if-height-eq0.true)
      | then-height-eq0-via-else-height-eq0+then-height-eq0-2 w ↦
          answers_none_other {w = world_of c.args.setting.now} (sym w.height-else-height-eq0.ensures ∙ w.if-height-eq0-2.true)
    ]

pub returns-in-Same : goal.returns-in-Same
returns-in-Same c =
    goes_on_same (popped c.top-x.ensures c.pop.ensures) (popped c.top-u.ensures c.pop-in-Same.ensures) c.requires.standing c.requires.standing_2 c.in-Same.ensures

pub returns-in-Differ : goal.returns-in-Differ
returns-in-Differ c =
    answers_differ {w = world_of c.args.setting.now} c.top-x.ensures c.top-u.ensures c.in-Differ.smaller c.in-Differ.ensures
