-- The name and the count, and then the factors. Assumes nothing.
use Rattle.std.proofs.Common.{◌≡◌}
use Rattle.answers.specs.declared.Answer.TheVariants.{Member}
use Rattle.answers.proofs.Storing.{stores_then}
use Rattle.answers.proofs.writing.Line.put_said.Goals as goal

pub returns-in-Ok-Member-clause-stores : goal.returns-in-Ok-Member-clause-stores
returns-in-Ok-Member-clause-stores c =
    let member : c.in-Ok-Member.field-0 ≡ Member c.in-Ok-Member.count = rw c.in-Ok-Member.is at c.in-Ok-Member.field-0-is in
    rw (c.in-Ok-Member.is, member)
    (rw c.requires.empty at (stores_then c.put.ensures.stores (stores_then c.put_field.ensures.stores c.put_fields.ensures.stores)))
