-- A stack has as many items as it is high. Assumes nothing.
use mathlib.Core.Path.{sym, ap, ◌∙◌}
use lib.ListN.{length}
use Rattle.witness.proofs.Stacked.{length_stacked}
use Rattle.witness.proofs.stacks.Stack.height.Goals as goal

pub returns : goal.returns
returns c =
    let s = c.self.inside in
    sym (length_stacked s.xs s.ys s.height) ∙ ap length c.self.view_is
