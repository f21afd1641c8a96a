-- What is said, and then the byte that ends the line. Assumes nothing.
use Rattle.answers.proofs.Storing.{stores_then}
use Rattle.answers.proofs.writing.Line.put_line.Goals as goal

pub returns-clause-stores : goal.returns-clause-stores
returns-clause-stores c = stores_then c.put_said.ensures.stores c.put_byte.ensures.stores
