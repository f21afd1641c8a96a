-- One place after the other is done, and its column is carried along. Assumes nothing.
use mathlib.Core.Path.{sym, ap₂, ◌∙◌}
use Prim.Native.Nat.{ℕ, ◌+◌}
use lib.ListN.{set, length-set}
use native.Mathlib.Omega.{arith}
use Rattle.words_trial.proofs.Period.{done, done_more, done_all, next_within}
use Rattle.words_trial.proofs.put_s.Goals as goal

pub loop-i-preserved : goal.loop-i-preserved
loop-i-preserved c =
    let l = c.loop-i in
    let period = c.args.period in (
      length-set l.word l.i c.byte_in.result ∙ l.invariant.0,
      omega (arith, c.next_column-column.ensures, next_within period l.column, l.invariant.1),
      ap₂ (λ (b next : ℕ). done period (l.i + 1) next (set l.word l.i b)) c.byte_in.ensures c.next_column-column.ensures ∙
          done_more period l.i l.column l.word c.loop-i-test.true ∙ l.invariant.2,
    )

pub returns : goal.returns
returns c =
    let l = c.loop-i in
    sym (done_all c.args.period l.i l.column l.word c.loop-i-test.false) ∙ l.invariant.2
