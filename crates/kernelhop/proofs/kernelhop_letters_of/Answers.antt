-- The part that is found, told by three numbers. Assumes nothing.
use mathlib.Core.Path.{ap, ◌∙◌}
use Rattle.kernelhop.specs.Outcome.{of_part}
use Rattle.kernelhop.proofs.kernelhop_letters_of.Goals as goal

pub returns : goal.returns
returns c = c.part.ensures ∙ ap of_part c.part_of.ensures
