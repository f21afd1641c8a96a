-- A reduced list fits, since there is room, so its tree is built. Assumes nothing.
use mathlib.Core.Path.{◌≡◌, refl, sym, subst, ◌∙◌}
use mathlib.Core.List.{List}
use Prim.Native.Nat.{ℕ}
use lib.ListN.{length, take, drop}
use lib.Seq.{length-take-le, take_at, drop_at}
use Rattle.std.specs.Prelude.{Result, Ok}
use Rattle.trees.specs.declared.Unfit.{Unfit}
use Rattle.trees.specs.Building.{Slices, BuildsTree, Builds}
use Rattle.queries.proofs.ReducedList.{list_fits}
use native.Mathlib.Omega.{arith}
use Rattle.queries.proofs.posing.plant.Goals.{After-build}
use Rattle.queries.proofs.posing.plant.Goals as goal

-- the front of a slice is lent for the generators' nodes
front : (c : After-build) → length (take (length c.args.list_ends.now) c.args.wholes.now) ≡ length c.args.list_ends.now
front c = length-take-le (length c.args.list_ends.now) c.args.wholes.now (omega (arith, c.requires.room_wholes))

-- the slices of the tree, before it is built and afterwards
abbrev given : After-build → Slices
given c =
    let a = c.args in
    record {
      letters = a.letters.now;
      rests = a.rests.now;
      children_r = a.children_r.now;
      children_s = a.children_s.now;
      wholes = take (length a.list_ends.now) a.wholes.now;
    }

abbrev grown : After-build → List ℕ → Slices
grown c wholes =
    record {
      letters = c.build.new.letters;
      rests = c.build.new.rests;
      children_r = c.build.new.children_r;
      children_s = c.build.new.children_s;
      wholes = wholes;
    }

tree : (c : After-build) {count : ℕ} → c.build.result ≡ Ok count
    → BuildsTree c.args.list_letters.now c.args.list_ends.now (given c) (grown c c.build.new.wholes) count
tree c e =
    subst (λ (r : Result ℕ Unfit). Builds c.args.list_letters.now c.args.list_ends.now (given c) (grown c c.build.new.wholes) r) e c.build.ensures

pub slice_bounds-build-end-2 : goal.slice_bounds-build-end-2
slice_bounds-build-end-2 c = sym (length-take-le (length c.args.list_ends.now) c.args.wholes.now (omega (arith, c.requires.room_wholes)))

pub returns-in-Err : goal.returns-in-Err
returns-in-Err c =
    let t = (goal.at.returns-in-Err c).After-build in
    λ reduced. absurd ((rw c.in-Err.is at c.build.ensures).0 (list_fits _ _ _ _ _ reduced c.requires (front t)))

pub returns-in-Ok : goal.returns-in-Ok
returns-in-Ok c =
    let t = (goal.at.returns-in-Ok c).After-build in
    let a = c.args in
    let k = length a.list_ends.now in
    let nodes = c.build.new.wholes in
    let behind = drop k a.wholes.now in
    let all : length nodes ≡ k = c.build.auto.wholes ∙ front t in
    λ reduced. (
      refl,
      refl,
      record {
        built =
            subst (λ (wholes : List ℕ). BuildsTree a.list_letters.now a.list_ends.now (given t) (grown t wholes) c.in-Ok.count)
            (sym (take_at nodes behind k all)) (tree t c.in-Ok.is);
        wholes_kept = drop_at nodes behind k all;
      },
    )
