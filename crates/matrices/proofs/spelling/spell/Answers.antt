-- What stands from `at` on is what was taken off, until nothing is left or enough stands there. Assumes nothing.
use Rattle.std.proofs.Common.{◌≡◌, sym, ap, ◌∙◌, arith, rules}
use Rattle.words.specs.declared.Ending.TheVariants.{Nothing}
use Rattle.matrices.specs.Spelling.{number}
use Rattle.matrices.proofs.Parts.{spelling_more, spelling_ends, spelling_stops}
use Rattle.matrices.proofs.spelling.spell.Goals as goal

pub returns-then-eq : goal.returns-then-eq
returns-then-eq c =
    let l = c.loop-at in
    let nothing : c.ending-last.result ≡ Nothing = search rules in
    spelling_ends l.invariant.2 (sym c.ending-last.ensures ∙ ap number nothing) c.loop-at-test.true l.invariant.1

pub returns : goal.returns
returns c =
    let l = c.loop-at in
    spelling_stops l.invariant.2 (omega arith) (omega (arith, l.invariant.0, c.requires.form_len))

pub loop-at-preserved : goal.loop-at-preserved
loop-at-preserved c =
    let l = c.loop-at in
    let p = c.prepend_part-at in (
      omega (arith, p.auto.form, l.invariant.0),
      omega (arith, p.auto.form, p.ensures.0, l.invariant.1),
      spelling_more l.invariant.2 p.new.form p.result c.ending-last.ensures c.without_last_part-left.ensures p.ensures.1,
    )
