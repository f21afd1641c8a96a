-- After each turn the sweep has come to the place p. Where nothing is due it goes on; where something is, an item of weight k stands there, and a way is
-- chosen for it. Assumes nothing.
use mathlib.Core.Bool.{Bool}
use mathlib.Core.List.{List}
use mathlib.Core.Path.{◌≡◌}
use Prim.Native.Nat.{ℕ, ◌+◌, ◌<◌}
use Rattle.refusals.proofs.Telling.{told}
use Rattle.derivations.specs.Ways.{World, world_of, weight_in}
use Rattle.witness.specs.Choices.{marked, choice_at, Item, Small, Chooses}
use Rattle.witness.specs.Due.{DueAt, StandsAt}
use Rattle.witness.specs.Sweeping.{swept, ChoosesTo}
use Rattle.witness.proofs.Places.{stands_row, small_kept}
use Rattle.witness.proofs.ItemChoices.{choosing_settled, choosing_done, chooses_one}
use Rattle.witness.proofs.ChoiceSweeps.{due_item, due_marked, chooses_then, chooses_stops}
use native.Mathlib.Omega.{arith}
use Rattle.witness.proofs.sweeping.choose_block.Goals.{After-item_at-row, At-loop-p, In-loop-p}
use Rattle.witness.proofs.sweeping.choose_block.Goals as goal

small : (c : At-loop-p) → Small (world_of c.args.setting.now) c.loop-p.choices
small c = small_kept (world_of c.args.setting.now) c.requires.small c.loop-p.invariant.2.keeps

inside : (c : In-loop-p) → c.loop-p.p < swept (world_of c.args.setting.now)
inside c = omega (arith, c.loop-p-test.true, c.requires.from_le_end.1)

-- what is due at a place, the item that stands there, what it weighs, and the way that is chosen for it, or the sweep is stuck at it
module _ (c : After-item_at-row) where
  abbrev here : World
  here = world_of c.args.setting.now

  abbrev k : ℕ
  k = c.args.k.0

  abbrev x : ℕ
  x = c.item_at-row.result.0

  abbrev y : ℕ
  y = c.item_at-row.result.1

  due : DueAt marked k c.loop-p.choices c.args.setting.now.counts.now c.loop-p.p
  due = told c.is_due.result c.if-not-is_due.false c.is_due.ensures

  stands : StandsAt c.args.setting.now.tree.count c.loop-p.p x y
  stands = c.item_at-row.ensures

  small_here : Small here c.loop-p.choices
  small_here = small_kept here c.requires.small c.loop-p.invariant.2.keeps

  weighs : Item here x y × (weight_in here x y ≡ k)
  weighs =
      let before_end : c.loop-p.p < swept here = omega (arith, c.loop-p-test.true, c.requires.from_le_end.1) in
      due_item here c.loop-p.choices k c.loop-p.p x y stands due small_here c.requires.le_k.0 before_end

  is-marked : choice_at c.args.setting.now.tree.count c.loop-p.choices x y ≡ marked
  is-marked = due_marked here c.loop-p.choices k c.loop-p.p x y stands due

  chosen : (result : Bool) (after : List ℕ) → Chooses here x y c.loop-p.choices result after
      → ChoosesTo here k k (c.loop-p.p + 1) c.loop-p.choices result after
  chosen result after chooses =
      let (item, is) = weighs in
      chooses_one here c.loop-p.choices k c.loop-p.p x y result small_here.room item is stands.is is-marked chooses c.loop-p.invariant.2.choosing

pub choose-requires : goal.choose-requires
choose-requires c =
    let at = (goal.at.choose-requires c).After-item_at-row in
    let w = world_of c.args.setting.now in
    let v = c.loop-p.invariant in
    let (item, is) = weighs at in
    record {
      small = small (goal.at.choose-requires c).At-loop-p;
      item = item;
      y_bound = omega (arith, is, c.requires.le_k.1);
      all_settled = choosing_settled w v.2.choosing;
      candidates_done = choosing_done w (k at) c.loop-p.p (x at) (y at) is (stands at).is v.2.choosing item (is-marked at);
    }

pub returns-then-not-choose : goal.returns-then-not-choose
returns-then-not-choose c =
    let at = (goal.at.returns-then-not-choose c).After-item_at-row in
    chooses_stops (world_of c.args.setting.now) c.choose.result c.loop-p.invariant.2 (chosen at c.choose.result c.choose.new.choices c.choose.ensures)
    c.args.k.0 c.args.end c.if-not-choose.true (omega arith)

pub loop-p-preserved : goal.loop-p-preserved
loop-p-preserved c =
    let w = world_of c.args.setting.now in
    let here = (goal.at.loop-p-preserved c).After-item_at-row in
    let v = c.loop-p.invariant in
    let before-end = inside (goal.at.loop-p-preserved c).In-loop-p in (
      (omega (arith, v.0.0), omega (arith, c.loop-p-test.true)),
      ((stands here).some, stands_row w c.loop-p.p (x here) (y here) (omega arith) (stands here)),
      chooses_then w c.choose.result v.2 (chosen here c.choose.result c.choose.new.choices c.choose.ensures) c.if-not-choose.false,
    )
