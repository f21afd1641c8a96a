-- Where no generator is too long the forms are handed over. Assumes nothing.
use Rattle.std.proofs.Common.{◌≡◌, refl, sym, ap, ◌∙◌, ℕ, ◌≤◌, List, length, take, Ok, arith}
use Rattle.std.proofs.Math.Seq.{length-take-le}
use Rattle.std.proofs.lemmas.Result.{err_from_is_err_and}
use Rattle.refusals.specs.Questions.{Asked, passed}
use Rattle.words.specs.Word.{Word}
use Rattle.words.specs.Calls.{length_or}
use Rattle.products.specs.Product.{generators}
use Rattle.products.proofs.Generators.{generators_length}
use Rattle.lists.specs.NormalList.{total, normal_bytes, normal_ends}
use Rattle.lists.specs.Questions.{question11}
use Rattle.lists.specs.Reducing.{InFront, of_room}
use Rattle.lists.specs.Calls.{of_reduced_list}
use Rattle.lists.proofs.Answering.{by_generators, asked_refused, asked_room, hands, handed}
use Rattle.lists.proofs.ShortForms.{total_short}
use Rattle.lists.proofs.reduce_checked.Goals.{After-from-len}
use Rattle.lists.proofs.reduce_checked.Goals as goal

-- no generator is too long, and their forms stand in the local arrays
abbrev all : After-from-len → List Word
all c = generators c.args.bytes.now c.args.ends.now

stands : (c : After-from-len) → (question11 (all c) ≡ passed) × InFront (all c) c.in_ok-sum.sum.0 c.write_forms.new.out c.write_forms.new.out_ends
stands c = c.in_ok-sum.ensures

fits : (c : After-from-len) → c.from-len.result ≤ length c.write_forms.new.out
fits c = omega (arith, c.from-len.ensures, (stands c).1.sums, total_short (all c) (stands c).0, c.write_forms.auto.out)

-- room is the only question left
questions : (c : After-from-len) → let a = c.args in
    of_reduced_list (all c) a.bytes.now a.ends.now (length a.out.now) (length a.out_ends.now) ≡ of_room (normal_bytes (all c)) (normal_ends 0 (all c)) a.out.now a.out_ends.now
questions c =
    let a = c.args in
    asked_room (all c) a.bytes.now a.ends.now a.out.now a.out_ends.now (by_generators a.bytes.now a.ends.now c.requires ∙ (stands c).0)

forms : (c : After-from-len) → take c.from-len.result c.write_forms.new.out ≡ normal_bytes (all c)
forms c = ap (λ (n : ℕ). take n c.write_forms.new.out) c.from-len.ensures ∙ (stands c).1.letters

form_ends : (c : After-from-len) → take (length c.args.ends.now) c.write_forms.new.out_ends ≡ normal_ends 0 (all c)
form_ends c = ap (λ (n : ℕ). take n c.write_forms.new.out_ends) (sym (generators_length c.args.bytes.now 0 c.args.ends.now)) ∙ (stands c).1.ends

pub slice_bounds-forms-end : goal.slice_bounds-forms-end
slice_bounds-forms-end c = fits (goal.at.slice_bounds-forms-end c).After-from-len

pub slice_bounds-hand_over-end : goal.slice_bounds-hand_over-end
slice_bounds-hand_over-end c = sym (length-take-le c.from-len.result c.write_forms.new.out (fits (goal.at.slice_bounds-hand_over-end c).After-from-len))

pub returns-in_err-sum : goal.returns-in_err-sum
returns-in_err-sum c =
    let a = c.args in
    let g = generators a.bytes.now a.ends.now in
    let p = err_from_is_err_and c.from_residual.result c.from_residual.ensures.1 in
    rw (p.1, p.2) (hands (λ (q : Asked). length_or q (total g)) (normal_bytes g) (normal_ends 0 g) a.out.now a.out_ends.now _
    (asked_refused g a.bytes.now a.ends.now a.out.now a.out_ends.now (by_generators a.bytes.now a.ends.now c.requires ∙ c.in_err-sum.ensures)) refl refl refl)

pub returns-in_err-hand_over : goal.returns-in_err-hand_over
returns-in_err-hand_over c =
    let a = c.args in
    let t = (goal.at.returns-in_err-hand_over c).After-from-len in
    let p = err_from_is_err_and c.from_residual-in_err-hand_over.result c.from_residual-in_err-hand_over.ensures.1 in
    rw (p.1, p.2) (handed (λ (q : Asked). length_or q (total (all t))) (normal_bytes (all t)) (normal_ends 0 (all t)) a.out.now a.out_ends.now
    c.hand_over.ensures (forms t) (form_ends t) (questions t) c.in_err-hand_over.was refl)

pub returns : goal.returns
returns c =
    let a = c.args in
    let t = (goal.at.returns c).After-from-len in
    handed (λ (q : Asked). length_or q (total (all t))) (normal_bytes (all t)) (normal_ends 0 (all t)) a.out.now a.out_ends.now
    c.hand_over.ensures (forms t) (form_ends t) (questions t) c.in_ok-hand_over.was
    (ap (λ (k : ℕ). Ok (record { 0 = k })) (stands t).1.sums)
