-- The list and its inverses stand at the fronts of the local arrays, from where they are handed over. Assumes nothing.
use mathlib.Core.Path.{◌≡◌, refl, sym, ap, ap₂, ◌∙◌}
use mathlib.Core.List.{List}
use Prim.Native.Nat.{ℕ, ◌*◌, ◌≤◌}
use lib.ListN.{length, take}
use lib.Seq.{length-take-le}
use Rattle.words.specs.Word.{Word}
use Rattle.std.proofs.lemmas.Result.{err_from_is_err_and}
use Rattle.std.specs.Prelude.{Ok}
use Rattle.refusals.specs.Questions.{Asked}
use Rattle.products.specs.Product.{with_inverses}
use Rattle.lists.specs.NormalList.{total, normal_bytes, normal_ends}
use Rattle.lists.specs.Reducing.{ReducedFrom, InFront}
use Rattle.lists.specs.Calls.{lengths_or}
use Rattle.lists.proofs.Answering.{handed}
use Rattle.lists.proofs.InverseForms.{ends_count, letters_count, letters_short, signed_count, signed_total}
use native.Mathlib.Omega.{arith}
use Rattle.lists.proofs.inverting.hand_over_signed.Goals.{After-from-len}
use Rattle.lists.proofs.inverting.hand_over_signed.Goals as goal

fits : (c : After-from-len) → c.from-len.result ≤ length c.write_signed-all.new.out
fits c =
    let r = c.requires.1 in
    omega (arith, c.from-len.ensures, (c.write_signed-all.ensures c.requires.0 r).sums, signed_total c.requires.0 r, c.write_signed-all.auto.out)

ends_fit : (c : After-from-len) → 2 * length c.args.ends.now ≤ length c.write_signed-all.new.out_ends
ends_fit c =
    let r = c.requires.1 in
    omega (arith, ends_count c.requires.0 r, r.few, c.write_signed-all.auto.out_ends)

-- the generators are any that have the reduced list's forms
module _ (c : After-from-len) (gens : List Word) (r : ReducedFrom gens c.args.letters.now c.args.ends.now) where
  stands : InFront (with_inverses gens) c.write_signed-all.result.0 c.write_signed-all.new.out c.write_signed-all.new.out_ends
  stands = c.write_signed-all.ensures gens r

  forms : take c.from-len.result c.write_signed-all.new.out ≡ normal_bytes (with_inverses gens)
  forms = ap (λ (n : ℕ). take n c.write_signed-all.new.out) c.from-len.ensures ∙ stands.letters

  form_ends : take (2 * length c.args.ends.now) c.write_signed-all.new.out_ends ≡ normal_ends 0 (with_inverses gens)
  form_ends =
      let count : 2 * length c.args.ends.now ≡ length (with_inverses gens) = omega (arith, signed_count gens r) in
      ap (λ (n : ℕ). take n c.write_signed-all.new.out_ends) count ∙ stands.ends

pub slice_bounds-forms-end : goal.slice_bounds-forms-end
slice_bounds-forms-end c = fits (goal.at.slice_bounds-forms-end c).After-from-len

pub slice_bounds-hand_over-end : goal.slice_bounds-hand_over-end
slice_bounds-hand_over-end c = sym (length-take-le c.from-len.result c.write_signed-all.new.out (fits (goal.at.slice_bounds-hand_over-end c).After-from-len))

pub slice_bounds-form_ends-end : goal.slice_bounds-form_ends-end
slice_bounds-form_ends-end c = ends_fit (goal.at.slice_bounds-form_ends-end c).After-from-len

pub slice_bounds-hand_over-end-2 : goal.slice_bounds-hand_over-end-2
slice_bounds-hand_over-end-2 c =
    sym (length-take-le (2 * length c.args.ends.now) c.write_signed-all.new.out_ends (ends_fit (goal.at.slice_bounds-hand_over-end-2 c).After-from-len))

pub overflow_cast-result : goal.overflow_cast-result
overflow_cast-result c =
    omega (arith, letters_short c.requires.0 c.requires.1)

pub returns-in_err-hand_over : goal.returns-in_err-hand_over
returns-in_err-hand_over c =
    let a = c.args in
    let t = (goal.at.returns-in_err-hand_over c).After-from-len in
    let p = err_from_is_err_and c.from_residual.result c.from_residual.ensures.1 in
    λ gens r.
    rw (p.1, p.2) (handed (λ (q : Asked). lengths_or q (total gens) (total (with_inverses gens))) (normal_bytes (with_inverses gens)) (normal_ends 0 (with_inverses gens)) a.out.now a.out_ends.now
    c.hand_over.ensures (forms t gens r) (form_ends t gens r) refl c.in_err-hand_over.was refl)

pub returns : goal.returns
returns c =
    let a = c.args in
    let t = (goal.at.returns c).After-from-len in
    λ gens r.
    handed (λ (q : Asked). lengths_or q (total gens) (total (with_inverses gens))) (normal_bytes (with_inverses gens)) (normal_ends 0 (with_inverses gens)) a.out.now a.out_ends.now
    c.hand_over.ensures (forms t gens r) (form_ends t gens r) refl c.in_ok-hand_over.was
    (ap₂ (λ (given all : ℕ). Ok (record { given = record { 0 = given }; all = record { 0 = all } })) (letters_count gens r) (stands t gens r).sums)
