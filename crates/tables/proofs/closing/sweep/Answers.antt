-- The places before the pair are used. Those that `seek` passes over are not fresh. Assumes nothing.
use mathlib.Core.Path.{◌≡◌, refl, subst}
use Prim.Native.Nat.{ℕ, ◌*◌, ◌<◌}
use Rattle.tables.specs.Rules.{place, Rule}
use Rattle.tables.specs.Levelling.{Passes, begin}
use Rattle.tables.specs.Closing.{Used, skipped}
use Rattle.tables.proofs.Places.{place_inside, next_stands}
use Rattle.tables.proofs.Visiting.{passes_ready, passes_next}
use Rattle.tables.proofs.Using.{used_bounded}
use native.Mathlib.Omega.{arith}
use Rattle.tables.proofs.closing.sweep.Goals as goal

pub loop-pair-init : goal.loop-pair-init
loop-pair-init c =
    let a = c.args in
    let first : 0 ≡ place a.tree.now.count 0 0 = omega arith in
    let rules = Rule a.tree.now.count a.tree.now.letters.now a.tree.now.rests.now in
    (c.requires.le_count, omega arith, subst (λ (z : ℕ). Passes (Used rules) z a.table.now a.table.now) first begin)

pub seek-y-requires : goal.seek-y-requires
seek-y-requires c =
    record {
      ready = passes_ready used_bounded c.requires.ready c.loop-pair.invariant.2;
      x_lt_count = c.loop-pair-test.true;
      y_lt_count = c.loop-pair.invariant.0;
    }

pub use_pair-requires : goal.use_pair-requires
use_pair-requires c =
    let p = c.requires in
    record {
      ready = passes_ready used_bounded p.ready c.loop-pair.invariant.2;
      linked = p.linked;
      x_lt_count = c.loop-pair-test.true;
      y_lt_count = omega (arith, c.seek-y.ensures.inside, p.le_count);
    }

pub loop-pair-smaller : goal.loop-pair-smaller
loop-pair-smaller c =
    let count = c.args.tree.now.count in
    let l = c.loop-pair in
    let sought = c.seek-y.ensures in
    let inside : place count l.pair.row l.pair.column < count * count = place_inside c.loop-pair-test.true l.invariant.0 in
    let column : c.seek-y.result < count = omega (arith, sought.inside, c.requires.le_count) in
    omega (arith, (next_stands count l.pair.row c.seek-y.result column c.next_pair-pair.ensures).1, sought.behind)

pub loop-pair-preserved : goal.loop-pair-preserved
loop-pair-preserved c =
    let count = c.args.tree.now.count in
    let l = c.loop-pair in
    let x = l.pair.row in
    let y = c.seek-y.result in
    let next = c.next_pair-pair in
    let sought = c.seek-y.ensures in
    let column : y < count = omega (arith, sought.inside, c.requires.le_count) in
    let here : place count x y < count * count = place_inside c.loop-pair-test.true column in
    let (below, place-next) = next_stands count x y column next.ensures in (
      below,
      omega (arith, place-next, here),
      passes_next count x y next.result.row next.result.column column next.ensures sought.behind
          (λ m behind inside. skipped (λ fresh. sought.without m inside behind (omega arith) (omega arith)) refl) c.use_pair.ensures l.invariant.2,
    )
