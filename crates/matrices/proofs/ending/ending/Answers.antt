-- The three tests, one after the other. Assumes nothing.
use mathlib.Core.Path.{sym, ◌∙◌}
use Rattle.unimodular.proofs.Descent.{ending_is_nothing, ending_is_r, ending_is_s, ending_is_ss}
use Rattle.matrices.specs.Entries.{matrix}
use Rattle.matrices.proofs.ending.ending.Goals as goal

pub returns-then-is_unit : goal.returns-then-is_unit
returns-then-is_unit c = sym (ending_is_nothing (matrix c.args.m) (sym c.is_unit.ensures ∙ c.if-is_unit.true))

pub returns-then-columns_agree : goal.returns-then-columns_agree
returns-then-columns_agree c =
    sym (ending_is_r (matrix c.args.m) (sym c.is_unit.ensures ∙ c.if-is_unit.false) (sym c.columns_agree.ensures ∙ c.if-columns_agree.true))

pub returns-then-first_column_larger : goal.returns-then-first_column_larger
returns-then-first_column_larger c =
    sym (ending_is_s (matrix c.args.m) (sym c.is_unit.ensures ∙ c.if-is_unit.false) (sym c.columns_agree.ensures ∙ c.if-columns_agree.false)
    (sym c.first_column_larger.ensures ∙ c.if-first_column_larger.true))

pub returns : goal.returns
returns c =
    sym (ending_is_ss (matrix c.args.m) (sym c.is_unit.ensures ∙ c.if-is_unit.false) (sym c.columns_agree.ensures ∙ c.if-columns_agree.false)
    (sym c.first_column_larger.ensures ∙ c.if-first_column_larger.false))
