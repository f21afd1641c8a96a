-- Where the sizes pass, the verdict by places is settled, its factors are signed, and the inverses' forms are copied. Assumes nothing.
use mathlib.Core.Path.{◌≡◌, refl, sym, ap, ap₂, ◌∙◌}
use mathlib.Core.List.{List, map}
use Prim.Native.Nat.{ℕ}
use lib.ListN.{length, length-map}
use Rattle.refusals.specs.Questions.{Asked, passed}
use Rattle.words.specs.Word.{Word, nf}
use Rattle.words.specs.Bytes.{letter, word}
use Rattle.products.specs.Product.{with_inverses}
use Rattle.lists.specs.NormalList.{total}
use Rattle.sizes.specs.Questions.{of_sizes}
use Rattle.engine.specs.Calls.{Lent}
use Rattle.subgroups.specs.Questions.{of_signed_sizes}
use Rattle.subgroups.specs.Judging.{sizes_asked}
use Rattle.subgroups.proofs.Sizes.{signed_sizes_passed}
use Rattle.subgroups.proofs.Verdicts.{signed_settled}
use Rattle.subgroups.proofs.judging.judge_form.Goals.{Start}
use Rattle.subgroups.proofs.judging.judge_form.Goals as goal

-- what is lent
abbrev lent : Start → Lent
lent s = record { first = s.args.first.now; second = s.args.second.now; witness = s.args.witness.now }

abbrev slice : Start → List ℕ
slice s = s.args.inverses.now

-- what the code asks, and what is asked of a list and a target that are ready
abbrev answered : Start → Asked
answered s =
    let a = s.args in
    of_signed_sizes a.m.0 (length a.form.now) a.n.0 (length a.first.now) (length a.second.now) (length a.witness.now) (length (slice s))

asked_is : (s : Start) (gens : List Word) (target : Word) → s.args.m.0 ≡ total (with_inverses gens) → word s.args.form.now ≡ nf target
    → sizes_asked gens target s.args.n.0 (lent s) (slice s) ≡ answered s
asked_is s gens target m_is form_is =
    let a = s.args in
    ap₂ (λ (m t : ℕ). of_signed_sizes m t a.n.0 (length a.first.now) (length a.second.now) (length a.witness.now) (length (slice s)))
    (sym m_is) (sym (sym (length-map a.form.now letter) ∙ ap length form_is))

pub returns : goal.returns
returns c =
    let s = (goal.at.returns c).Start in
    let a = c.args in
    let v = c.settle-verdict in
    let middle : Lent = record { first = v.new.first; second = v.new.second; witness = v.new.witness } in
    let after : Lent = record { first = v.new.first; second = v.new.second; witness = c.sign_factors.new.witness } in
    let passes : answered s ≡ passed = sym c.of_signed_sizes.ensures ∙ c.in_ok-of_signed_sizes.was in
    let plainly : of_sizes a.m.0 (length (word a.form.now)) a.n.0 (length a.first.now) (length a.second.now) (length a.witness.now) ≡ passed =
    rw (length-map a.form.now letter)
    (signed_sizes_passed a.m.0 (length a.form.now) a.n.0 (length a.first.now) (length a.second.now) (length a.witness.now) (length a.inverses.now) passes).1 in
    λ gens target ready m_is form_is forms.
    signed_settled gens target a.n.0 v.result (lent s) middle after (slice s) c.copy_at.new.to forms
    (asked_is s gens target m_is form_is ∙ passes)
    a.m.0 (word a.form.now) m_is form_is (v.ensures (map nf (with_inverses gens)) ready plainly)
    refl refl c.sign_factors.ensures c.copy_at.ensures
