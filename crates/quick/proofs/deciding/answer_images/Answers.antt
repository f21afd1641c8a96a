-- The generators' images are taken in one after the other, until the target's is marked. Assumes nothing.
use mathlib.Core.Path.{sym, ap, subst, ◌∙◌}
use mathlib.Core.List.{List, []}
use Prim.Native.Nat.{ℕ, ◌≤◌, ◌<◌}
use native.Mathlib.Omega.{arith}
use lib.ListN.{length}
use Rattle.words.specs.Bytes.{word}
use Rattle.lists.proofs.FirstOthers.{part_slice}
use Rattle.lists.proofs.Behind.{behind_from, behind_within}
use Rattle.lists.proofs.Passing.{list_passed}
use Rattle.residues.specs.Residues.{image}
use Rattle.residues.proofs.Images.{image_small}
use Rattle.quick.proofs.MarksDecide.{taking_begins, taking_more, taking_open, taking_no}
use Rattle.quick.proofs.deciding.answer_images.Goals.{After-from-end}
use Rattle.quick.proofs.deciding.answer_images.Goals as goal

pub loop-end-init : goal.loop-end-init
loop-end-init c =
    let a = c.args in
    rw (c.new-rows.ensures, c.new-marks.ensures) (taking_begins a.bytes.now a.ends.now a.target c.requires.checked)

pub returns-then-has : goal.returns-then-has
returns-then-has c =
    λ w e.
    let a = c.args in
    let l = c.loop-end in
    taking_open a.bytes.now a.ends.now a.target l.from l.end-index l.invariant w e c.if-has.ensures

inside : (c : After-from-end) → c.loop-end.end-index < length c.args.ends.now
inside c = omega arith

rises : (c : After-from-end) → c.loop-end.from ≤ c.from-end.result
rises c =
    let a = c.args in
    let l = c.loop-end in
    behind_from a.bytes.now a.ends.now l.from l.end-index (inside c) c.from-end.ensures l.invariant.behind

pub slice_bounds-image_of-count : goal.slice_bounds-image_of-count
slice_bounds-image_of-count c = rises c

pub slice_bounds-image_of-start : goal.slice_bounds-image_of-start
slice_bounds-image_of-start c = rises (goal.at.slice_bounds-image_of-start c).After-from-end

pub slice_bounds-image_of-end : goal.slice_bounds-image_of-end
slice_bounds-image_of-end c =
    let a = c.args in
    let l = c.loop-end in
    behind_within a.bytes.now a.ends.now l.from l.end-index (omega arith) c.from-end.ensures l.invariant.behind

pub take_in-requires : goal.take_in-requires
take_in-requires c =
    let l = c.loop-end in
    let p = c.requires in
    let few = (list_passed c.args.bytes.now c.args.ends.now [] p.checked).few in record {
      image_bound = subst (λ (k : ℕ). k < 168) (sym c.image_of.ensures) (image_small _);
      target_bound = p.target_bound;
      rows_right = l.invariant.rows_right;
      taken_in_bounds = omega (arith, l.invariant.few, l.invariant.size, inside (goal.at.take_in-requires c).After-from-end);
      marked = l.invariant.marked;
    }

pub loop-end-preserved : goal.loop-end-preserved
loop-end-preserved c =
    let a = c.args in
    let l = c.loop-end in
    let img = c.image_of in
    taking_more a.bytes.now a.ends.now a.target l.from l.end-index l.invariant c.from-end.result img.result (inside (goal.at.loop-end-preserved c).After-from-end) c.from-end.ensures
    (img.ensures ∙ ap (λ (l : List ℕ). image (word l)) (part_slice a.bytes.now l.from c.from-end.result (rises (goal.at.loop-end-preserved c).After-from-end)))
    c.take_in.ensures

pub returns-then-has-2 : goal.returns-then-has-2
returns-then-has-2 c =
    λ w e.
    let a = c.args in
    let l = c.loop-end in
    taking_open a.bytes.now a.ends.now a.target l.from l.end-index l.invariant w e c.if-has-2.ensures

pub returns-else-has-2 : goal.returns-else-has-2
returns-else-has-2 c =
    λ w e.
    let a = c.args in
    let l = c.loop-end in
    taking_no a.bytes.now a.ends.now a.target l.from l.end-index l.invariant w e c.loop-end-test.false c.if-has-2.ensures
