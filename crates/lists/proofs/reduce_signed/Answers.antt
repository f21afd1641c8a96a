-- The list is reduced into local arrays, and from there handed over with its inverses. Assumes nothing.
use mathlib.Core.Path.{refl, sym}
use mathlib.Core.List.{List}
use Prim.Native.Nat.{◌≤◌}
use lib.ListN.{length, take}
use lib.Seq.{length-take-le}
use Rattle.words.specs.Word.{Word}
use Rattle.std.proofs.lemmas.Result.{err_from_is_err_and}
use Rattle.std.specs.Prelude.{Result}
use Rattle.refusals.specs.Questions.{Asked}
use Rattle.refusals.specs.declared.Refusal.{Refusal}
use Rattle.products.specs.Product.{generators, with_inverses}
use Rattle.products.proofs.Generators.{generators_length}
use Rattle.lists.specs.declared.Lengths.{Lengths}
use Rattle.lists.specs.NormalList.{total, normal_bytes, normal_ends}
use Rattle.lists.specs.Reducing.{ReducedFrom}
use Rattle.lists.specs.Calls.{lengths_or}
use Rattle.lists.proofs.Answering.{asked_refused, asked_room, hands, same_questions}
use Rattle.lists.proofs.ReducedList.{list_refused, list_passes, list_total, list_reduced}
use Rattle.lists.proofs.ShortForms.{total_short}
use native.Mathlib.Omega.{arith}
use Rattle.lists.proofs.reduce_signed.Goals.{After-from-len}
use Rattle.lists.proofs.reduce_signed.Goals as goal

-- the list passes its questions
abbrev gens : After-from-len → List Word
gens c = generators c.args.bytes.now c.args.ends.now

reduced : (c : After-from-len) → ReducedFrom (gens c) (take c.from-len.result c.reduce_list.new.out) (take (length c.args.ends.now) c.reduce_list.new.out_ends)
reduced c = rw c.from-len.ensures (list_reduced c.args.bytes.now c.args.ends.now _ _ _ _ _ c.reduce_list.ensures refl refl c.in_ok-given.was)

fits : (c : After-from-len) → c.from-len.result ≤ length c.reduce_list.new.out
fits c =
    let m = list_total c.args.bytes.now c.args.ends.now _ _ _ _ _ c.reduce_list.ensures refl refl c.in_ok-given.was in
    omega (arith, m, c.from-len.ensures, total_short (gens c) (reduced c).short, c.reduce_list.auto.out)

ends_fit : (c : After-from-len) → length c.args.ends.now ≤ length c.reduce_list.new.out_ends
ends_fit c = omega (arith, generators_length c.args.bytes.now 0 c.args.ends.now, (reduced c).few, c.reduce_list.auto.out_ends)

pub slice_bounds-letters-end : goal.slice_bounds-letters-end
slice_bounds-letters-end c = fits (goal.at.slice_bounds-letters-end c).After-from-len

pub slice_bounds-hand_over_signed-end : goal.slice_bounds-hand_over_signed-end
slice_bounds-hand_over_signed-end c =
    sym (length-take-le c.from-len.result c.reduce_list.new.out (fits (goal.at.slice_bounds-hand_over_signed-end c).After-from-len))

pub slice_bounds-list_ends-end : goal.slice_bounds-list_ends-end
slice_bounds-list_ends-end c = ends_fit (goal.at.slice_bounds-list_ends-end c).After-from-len

pub slice_bounds-hand_over_signed-end-2 : goal.slice_bounds-hand_over_signed-end-2
slice_bounds-hand_over_signed-end-2 c =
    sym (length-take-le (length c.args.ends.now) c.reduce_list.new.out_ends (ends_fit (goal.at.slice_bounds-hand_over_signed-end-2 c).After-from-len))

pub hand_over_signed-requires : goal.hand_over_signed-requires
hand_over_signed-requires c =
    let t = (goal.at.hand_over_signed-requires c).After-from-len in
    (gens t, reduced t)

abbrev answered : List Word → Asked → Result Lengths Refusal
answered gens asked = lengths_or asked (total gens) (total (with_inverses gens))

pub returns-in_err-given : goal.returns-in_err-given
returns-in_err-given c =
    let a = c.args in
    let g = generators a.bytes.now a.ends.now in
    let p = err_from_is_err_and c.from_residual.result c.from_residual.ensures.1 in
    rw (p.1, p.2) (hands (answered g) (normal_bytes (with_inverses g)) (normal_ends 0 (with_inverses g)) a.out.now a.out_ends.now _
    (asked_refused (with_inverses g) a.bytes.now a.ends.now a.out.now a.out_ends.now
    (list_refused a.bytes.now a.ends.now _ _ _ _ _ c.reduce_list.ensures refl refl c.in_err-given.was)) refl refl refl)

pub returns : goal.returns
returns c =
    let a = c.args in
    let t = (goal.at.returns c).After-from-len in
    same_questions (answered (gens t))
    (asked_room (with_inverses (gens t)) a.bytes.now a.ends.now a.out.now a.out_ends.now
    (list_passes a.bytes.now a.ends.now _ _ _ _ _ c.reduce_list.ensures refl refl c.in_ok-given.was))
    (c.hand_over_signed.ensures (gens t) (reduced t))
