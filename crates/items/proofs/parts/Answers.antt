-- A pair, and a row behind the pairs. Assumes nothing.
use mathlib.Core.Path.{◌∙◌}
use Rattle.derivations.specs.Ways.{world_of}
use Rattle.items.proofs.Numbers.{parts_pair, parts_row}
use Rattle.items.proofs.parts.Goals as goal

pub returns-then-x-setting : goal.returns-then-x-setting
returns-then-x-setting c =
    let a = c.args in
    c.of_pair.ensures ∙ parts_pair (world_of a.setting.now) a.x a.y a.d c.if-x-eq0.false c.if-x-setting.true

pub returns : goal.returns
returns c =
    let a = c.args in
    c.next_row.ensures ∙ parts_row (world_of a.setting.now) a.x a.y a.d c.if-x-eq0.false c.if-x-setting.false
