-- The list is reduced, and what stands in the fronts of the local arrays is a reduced list. Assumes nothing.
use mathlib.Core.Path.{◌≡◌, refl, sym, ap, subst₂}
use mathlib.Core.List.{List}
use Prim.Native.Nat.{ℕ, ◌≤◌}
use lib.ListN.{length, take}
use lib.Seq.{length-take-le}
use Rattle.refusals.specs.Questions.{passed}
use Rattle.std.proofs.lemmas.Result.{err_from_is_err_and}
use Rattle.limits.specs.Limits.{most_generators}
use Rattle.words.specs.Word.{Word}
use Rattle.products.specs.Product.{generators}
use Rattle.products.proofs.Generators.{generators_length}
use Rattle.lists.specs.Questions.{question11}
use Rattle.lists.specs.NormalList.{normal_bytes, normal_ends}
use Rattle.lists.proofs.NormalList.{normal_bytes_length}
use Rattle.lists.proofs.Passing.{list_passed, list_alone, target_alone}
use Rattle.lists.proofs.ShortForms.{total_short}
use Rattle.lists.proofs.ReducedList.{list_too_long, list_short, list_length, list_bytes, list_ends}
use Rattle.queries.specs.Posing.{Lent, ReducedList, PosesReduced}
use Rattle.queries.proofs.ReducedList.{reduced_list, room_for}
use Rattle.queries.proofs.ByQuestions.{list_refused, list_posed}
use native.Mathlib.Omega.{arith}
use Rattle.queries.proofs.posing.pose_list.Goals.{After-from}
use Rattle.queries.proofs.posing.pose_list.Goals as goal

-- what is lent
abbrev lent : (form letters rests children_r children_s wholes : List ℕ) → Lent
lent form letters rests children_r children_s wholes =
    record {
      form = form;
      tree = record {
        letters = letters;
        rests = rests;
        children_r = children_r;
        children_s = children_s;
        wholes = wholes;
      };
    }

abbrev gens : After-from → List Word
gens c = generators c.args.bytes.now c.args.ends.now

few : (c : After-from) → length c.args.ends.now ≤ most_generators
few c = (list_passed c.args.bytes.now c.args.ends.now c.args.target.now c.requires.target_value).few

-- no generator is too long
none_long : (c : After-from) → question11 (gens c) ≡ passed
none_long c =
    let a = c.args in
    list_short a.bytes.now a.ends.now _ _ _ _ _ c.reduce_list.ensures (list_alone a.bytes.now a.ends.now a.target.now c.requires.target_value) refl refl c.in_ok-m.was

-- the letters and the ends that the reduction wrote
room_letters : (c : After-from) → c.from.result ≤ length c.reduce_list.new.out
room_letters c =
    let a = c.args in
    let m = list_length a.bytes.now a.ends.now _ _ _ _ _ c.reduce_list.ensures (list_alone a.bytes.now a.ends.now a.target.now c.requires.target_value) refl refl c.in_ok-m.was in
    omega (arith, m, total_short (gens c) (none_long c), c.reduce_list.auto.out, c.from.ensures)

room_ends : (c : After-from) → length c.args.ends.now ≤ length c.reduce_list.new.out_ends
room_ends c = omega (arith, few c, c.reduce_list.auto.out_ends)

the_letters : (c : After-from) → take c.from.result c.reduce_list.new.out ≡ normal_bytes (gens c)
the_letters c =
    let a = c.args in
    rw c.from.ensures
    (list_bytes a.bytes.now a.ends.now _ _ _ _ _ c.reduce_list.ensures (list_alone a.bytes.now a.ends.now a.target.now c.requires.target_value) refl refl c.in_ok-m.was)

the_ends : (c : After-from) → take (length c.args.ends.now) c.reduce_list.new.out_ends ≡ normal_ends 0 (gens c)
the_ends c =
    let a = c.args in
    list_ends a.bytes.now a.ends.now _ _ _ _ _ c.reduce_list.ensures (list_alone a.bytes.now a.ends.now a.target.now c.requires.target_value) refl refl c.in_ok-m.was

reduced : (c : After-from) → ReducedList (take c.from.result c.reduce_list.new.out) (take (length c.args.ends.now) c.reduce_list.new.out_ends)
reduced c =
    let numbers = generators_length c.args.bytes.now 0 c.args.ends.now in
    subst₂ ReducedList (sym (the_letters c)) (sym (the_ends c)) (reduced_list (gens c) (omega (arith, few c)) (none_long c))

pub slice_bounds-list_letters-end : goal.slice_bounds-list_letters-end
slice_bounds-list_letters-end c = room_letters (goal.at.slice_bounds-list_letters-end c).After-from

pub slice_bounds-pose_forms-end : goal.slice_bounds-pose_forms-end
slice_bounds-pose_forms-end c =
    sym (length-take-le c.from.result c.reduce_list.new.out (room_letters (goal.at.slice_bounds-pose_forms-end c).After-from))

pub slice_bounds-list_ends-end : goal.slice_bounds-list_ends-end
slice_bounds-list_ends-end c = room_ends (goal.at.slice_bounds-list_ends-end c).After-from

pub slice_bounds-pose_forms-end-2 : goal.slice_bounds-pose_forms-end-2
slice_bounds-pose_forms-end-2 c =
    sym (length-take-le (length c.args.ends.now) c.reduce_list.new.out_ends (room_ends (goal.at.slice_bounds-pose_forms-end-2 c).After-from))

pub pose_forms-requires : goal.pose_forms-requires
pose_forms-requires c =
    let t = (goal.at.pose_forms-requires c).After-from in
    let letters = take c.from.result c.reduce_list.new.out in
    let ends = take (length c.args.ends.now) c.reduce_list.new.out_ends in
    room_for letters ends (omega (arith, ap length (the_letters t), normal_bytes_length (gens t), total_short (gens t) (none_long t)))
    (omega (arith, length-take-le (length c.args.ends.now) c.reduce_list.new.out_ends (room_ends t), few t)) c.requires.room

pub returns-in_err-m : goal.returns-in_err-m
returns-in_err-m c =
    let a = c.args in
    let p = err_from_is_err_and c.from_residual.result c.from_residual.ensures.1 in
    rw (p.1, p.2)
    (list_refused a.bytes.now a.ends.now a.target.now (lent a.form.now a.letters.now a.rests.now a.children_r.now a.children_s.now a.wholes.now)
    (list_too_long a.bytes.now a.ends.now _ _ _ _ _ c.reduce_list.ensures (list_alone a.bytes.now a.ends.now a.target.now c.requires.target_value) refl refl c.in_err-m.was))

pub returns : goal.returns
returns c =
    let t = (goal.at.returns c).After-from in
    let p = c.pose_forms in
    let a = c.args in
    let before : Lent = lent a.form.now a.letters.now a.rests.now a.children_r.now a.children_s.now a.wholes.now in
    let after : Lent = lent p.new.form p.new.letters p.new.rests p.new.children_r p.new.children_s p.new.wholes in
    list_posed a.bytes.now a.ends.now a.target.now p.result before after (none_long t)
    (subst₂ (λ (letters ends : List ℕ). PosesReduced letters ends a.target.now p.result before after) (the_letters t) (the_ends t)
    (p.ensures (reduced t) (target_alone a.bytes.now a.ends.now a.target.now c.requires.target_value)))
