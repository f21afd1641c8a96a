-- Each turn carries one entry more. Assumes nothing.
use Rattle.std.proofs.Common.{◌≡◌, List, ℕ, ◌+◌, length, set, get_or, refl, ap, ◌∙◌, add-one, arith}
use Rattle.std.proofs.Math.ListN.{length-set}
use Rattle.std.proofs.Math.Seq.{paste, paste-zero, paste-suc}
use Rattle.search.proofs.carrying.carry.Goals as goal

pub loop-i-init : goal.loop-i-init
loop-i-init c = let a = c.args in (paste-zero a.table.now a.at a.rows.now, refl)

pub loop-i-preserved : goal.loop-i-preserved
loop-i-preserved c =
    let l = c.loop-i in
    let a = c.args in (
      rw (add-one l.i) (ap (λ (t : List ℕ). set t (a.at + l.i) (get_or a.rows.now l.i 0)) l.invariant.0 ∙ paste-suc a.table.now a.at a.rows.now l.i 0 (omega arith) (omega arith)),
      length-set l.table (a.at + l.i) (get_or a.rows.now l.i 0) ∙ l.invariant.1,
    )

pub returns : goal.returns
returns c =
    let l = c.loop-i in
    let a = c.args in
    let all : l.i ≡ length a.rows.now = omega arith in
    l.invariant.0 ∙ ap (paste a.table.now a.at a.rows.now) all
