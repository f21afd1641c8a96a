-- By the mark. Assumes nothing.
use mathlib.Core.Path.{sym, ◌∙◌}
use Rattle.subgroups.proofs.Showing.{factor_given, factor_inverse}
use Rattle.subgroups.proofs.parts.factor_part.Goals as goal

pub returns-then-number-lt-INVERSE : goal.returns-then-number-lt-INVERSE
returns-then-number-lt-INVERSE c =
    let a = c.args in
    λ gens d. c.given_part.ensures ∙ sym (factor_given gens a.ends.now a.number c.if-number-lt-INVERSE.true)

pub inverse_part-requires : goal.inverse_part-requires
inverse_part-requires c = c.requires

pub returns : goal.returns
returns c =
    let a = c.args in
    λ gens d. c.inverse_part.ensures gens d ∙ sym (factor_inverse gens a.ends.now a.number c.if-number-lt-INVERSE.false)
