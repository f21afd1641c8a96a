-- The part lies inside its slice, and is the factor's. Assumes nothing.
use mathlib.Core.Bool.{Bool, true, false}
use mathlib.Core.Path.{◌≡◌, refl, sym, subst}
use Prim.Native.Nat.{◌≤◌}
use lib.ListN.{length}
use native.Mathlib.Omega.{arith}
use Rattle.refusals.specs.Telling.{pick}
use Rattle.subgroups.proofs.Showing.{Inside, end_inside, part_inside, part_shows}
use Rattle.subgroups.proofs.letters_of.Goals.{After-part_of-part}
use Rattle.subgroups.proofs.letters_of.Goals as goal

inside : (c : After-part_of-part)
    → Inside c.args.given.now c.args.ends.now (length c.args.inverses.now) c.args.number c.part_of-part.result
inside c =
    let a = c.args in
    subst (Inside a.given.now a.ends.now (length a.inverses.now) a.number) (sym c.part_of-part.ensures)
    (part_inside a.given.now a.ends.now (length a.inverses.now) a.number)

within : (c : After-part_of-part) (inverse? : Bool) → c.part_of-part.result.inverse ≡ inverse?
    → c.part_of-part.result.end ≤ pick inverse? (length c.args.inverses.now) (length c.args.given.now)
within c inverse? e =
    let a = c.args in
    end_inside a.given.now a.ends.now (length a.inverses.now) a.number c.part_of-part.result (inside c) inverse? e

pub slice_bounds-result-count : goal.slice_bounds-result-count
slice_bounds-result-count c =
    omega (arith, c.from-start.ensures, c.from-end.ensures, (inside (goal.at.slice_bounds-result-count c).After-part_of-part).0)

pub returns-then-part : goal.returns-then-part
returns-then-part c =
    let a = c.args in
    let from = c.from-start in
    let to = c.from-end in
    part_shows a.given a.inverses _ a.ends.now a.number c.part_of-part.result c.part_of-part.ensures true from.result to.result
    c.if-part.true from.ensures to.ensures
    (record {
      rising = omega (arith, from.ensures, to.ensures, (inside (goal.at.returns-then-part c).After-part_of-part).0);
      within = omega (arith, to.ensures, within (goal.at.returns-then-part c).After-part_of-part true c.if-part.true);
      block = refl;
      offset = omega arith;
      holds = refl;
    })

pub slice_bounds-result-count-2 : goal.slice_bounds-result-count-2
slice_bounds-result-count-2 c =
    omega (arith, c.from-start.ensures, c.from-end.ensures, (inside (goal.at.slice_bounds-result-count-2 c).After-part_of-part).0)

pub returns : goal.returns
returns c =
    let a = c.args in
    let from = c.from-start in
    let to = c.from-end in
    part_shows a.given a.inverses _ a.ends.now a.number c.part_of-part.result c.part_of-part.ensures false from.result to.result
    c.if-part.false from.ensures to.ensures
    (record {
      rising = omega (arith, from.ensures, to.ensures, (inside (goal.at.returns c).After-part_of-part).0);
      within = omega (arith, to.ensures, within (goal.at.returns c).After-part_of-part false c.if-part.false);
      block = refl;
      offset = omega arith;
      holds = refl;
    })

pub slice_bounds-result-start : goal.slice_bounds-result-start
slice_bounds-result-start c =
    omega (arith, c.from-start.ensures, c.from-end.ensures, (inside (goal.at.slice_bounds-result-start c).After-part_of-part).0)

pub slice_bounds-result-end : goal.slice_bounds-result-end
slice_bounds-result-end c = omega (arith, c.from-end.ensures, within (goal.at.slice_bounds-result-end c).After-part_of-part true c.if-part.true)

pub slice_bounds-result-start-2 : goal.slice_bounds-result-start-2
slice_bounds-result-start-2 c =
    omega (arith, c.from-start.ensures, c.from-end.ensures, (inside (goal.at.slice_bounds-result-start-2 c).After-part_of-part).0)

pub slice_bounds-result-end-2 : goal.slice_bounds-result-end-2
slice_bounds-result-end-2 c = omega (arith, c.from-end.ensures, within (goal.at.slice_bounds-result-end-2 c).After-part_of-part false c.if-part.false)
