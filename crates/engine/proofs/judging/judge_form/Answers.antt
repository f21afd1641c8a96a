-- Where the sizes pass the verdict is settled. Assumes nothing.
use mathlib.Core.Path.{◌≡◌, sym, ◌∙◌}
use Prim.Native.Nat.{ℕ}
use lib.ListN.{length, length-map}
use Rattle.std.proofs.lemmas.Result.{err_from_is_err_and}
use Rattle.words.specs.Bytes.{letter, word}
use Rattle.refusals.specs.Questions.{Asked, passed}
use Rattle.products.specs.Product.{plain}
use Rattle.sizes.specs.Questions.{side, of_sizes}
use Rattle.engine.specs.Calls.{Lent}
use Rattle.engine.proofs.Verdicts.{judged_refused, judged_passed}
use Rattle.engine.proofs.judging.judge_form.Goals.{Start}
use Rattle.engine.proofs.judging.judge_form.Goals as goal

-- what is lent
abbrev lent : Start → Lent
lent s = record { first = s.args.first.now; second = s.args.second.now; witness = s.args.witness.now }

-- what questions 12 to 15 say, and the side of the tables
abbrev answered : Start → Asked
answered s =
    let a = s.args in
    of_sizes a.m.0 (length (word a.form.now)) a.n.0
    (length a.first.now) (length a.second.now) (length a.witness.now)

abbrev q : Start → ℕ
q s = side s.args.m.0 (length (word s.args.form.now))

pub returns-in_err-of_sizes : goal.returns-in_err-of_sizes
returns-in_err-of_sizes c =
    let s = (goal.at.returns-in_err-of_sizes c).Start in
    let p = err_from_is_err_and c.from_residual.result c.from_residual.ensures.1 in
    λ gens ready.
    rw (p.1, p.2)
    (judged_refused (q s) (plain gens) (word c.args.form.now) c.args.n.0 (answered s) (lent s)
    (rw (length-map c.args.form.now letter) (sym c.of_sizes.ensures ∙ c.in_err-of_sizes.was)))

pub returns : goal.returns
returns c =
    let s = (goal.at.returns c).Start in
    let v = c.settle in
    let passes : answered s ≡ passed = rw (length-map c.args.form.now letter) (sym c.of_sizes.ensures ∙ c.in_ok-of_sizes.was) in
    λ gens ready.
    judged_passed (q s) (plain gens) (word c.args.form.now) c.args.n.0 (answered s) v.result (lent s)
    (record { first = v.new.first; second = v.new.second; witness = v.new.witness })
    passes (v.ensures gens ready passes)
