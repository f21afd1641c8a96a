-- Row i is read into the lent buffer, and the round goes over that. Assumes nothing.
use mathlib.Core.Path.{ap, ◌∙◌}
use Prim.Native.Nat.{ℕ, ◌+◌, ◌*◌}
use Rattle.trees.specs.Tree.{at}
use Rattle.rows.specs.Rounds.{least_sum}
use Rattle.rows.proofs.NextRows.{next_row}
use Rattle.rows.proofs.Parts.{part_length}
use native.Mathlib.Omega.{arith}
use Rattle.rows.proofs.filling.next_row.Goals as goal

pub returns-clause-next_row : goal.returns-clause-next_row
returns-clause-next_row c =
    let a = c.args in
    let p = c.requires.row_fits in
    let room = p.room in
    let r = c.read_row in
    let s = c.round in
    let first = r.new.first in
    let given = part_length a.rows.now (a.i * a.count) a.count (omega arith) in
    let long = part_length a.rows.now (a.i * a.count + a.count) a.count (omega arith) in
    next_row a.count a.n.0 a.i a.children.now a.table.now a.rows.now p.inside room first
    (λ v h. r.ensures.new v (omega arith)) s.new.row (s.auto.row ∙ long)
    (λ q h. s.ensures q (omega arith) ∙ ap (λ (w : ℕ). least_sum w a.table.now (at first) q w) long)
