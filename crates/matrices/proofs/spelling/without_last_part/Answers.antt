-- A matrix times S is at most twice as large. Assumes nothing.
use Rattle.std.proofs.Common.{ap, arith}
use Rattle.unimodular.proofs.Descent.{size, size_times_s}
use Rattle.matrices.specs.Entries.{matrix}
use Rattle.matrices.proofs.spelling.without_last_part.Goals as goal

pub times_s-requires-in-S : goal.times_s-requires-in-S
times_s-requires-in-S c = omega (arith, size_times_s (matrix c.args.m), ap size c.times_s.ensures)
