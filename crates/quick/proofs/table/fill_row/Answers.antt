-- The root's product is written, and then the others' in the order of the tree. Assumes nothing.
use mathlib.Core.Path.{◌≡◌, ap₂, ◌∙◌}
use Prim.Native.Nat.{ℕ, ◌+◌, ◌≤◌, ◌<◌}
use native.Mathlib.Omega.{arith}
use lib.ListN.{length, get_or}
use Rattle.residues.specs.Residues.{times_letter}
use Rattle.residues.proofs.Numbering.{times_letter_small}
use Rattle.quick.specs.Table.{letter_of, parent_of, column_of, Fills}
use Rattle.quick.proofs.Tables.{parent_small, last_letter_small}
use Rattle.quick.proofs.Filling.{begun_room, filling_begins, filling_more, filling_ends, parent_product_small}
use Rattle.quick.proofs.table.fill_row.Goals.{After-loop-i, After-from-in-loop-i, After-from-in-loop-i-2}
use Rattle.quick.proofs.table.fill_row.Goals as goal

abbrev i : After-from-in-loop-i → ℕ
i c = c.loop-i.i

below : (c : After-from-in-loop-i) → i c < 167
below c = omega arith

parent : (c : After-from-in-loop-i) → c.from-in-loop-i.result ≡ parent_of (i c)
parent c = c.from-in-loop-i.ensures ∙ c.parent_of-parent.ensures

last_letter : (c : After-from-in-loop-i) → c.last_letter_of-column.result ≡ column_of (i c)
last_letter c = c.last_letter_of-column.ensures

base-room : (c : After-from-in-loop-i) → c.args.at + 168 ≤ length c.loop-i.rows
base-room c =
    let a = c.args in
    let p = c.requires in
    let w = c.from in
    omega (arith, c.loop-i.invariant.size, begun_room a.image a.at p.image_bound a.rows.now p.at_in_bounds w.result w.ensures)

pub loop-i-init : goal.loop-i-init
loop-i-init c =
    let a = c.args in
    let p = c.requires in
    filling_begins a.image a.at p.image_bound a.rows.now p.at_in_bounds c.from.result c.from.ensures

pub times_letter-child-requires : goal.times_letter-child-requires
times_letter-child-requires c =
    let l = c.loop-i in
    let i = l.i in
    record {
      k_bound = omega (arith, c.parent_of-parent.ensures, parent_small i (omega arith));
      column_bound = omega (arith, c.last_letter_of-column.ensures, last_letter_small i (omega arith));
    }

pub bounds-rows-at-in-loop-i : goal.bounds-rows-at-in-loop-i
bounds-rows-at-in-loop-i c = omega (arith, base-room (goal.at.bounds-rows-at-in-loop-i c).After-from-in-loop-i, parent (goal.at.bounds-rows-at-in-loop-i c).After-from-in-loop-i, parent_small (i (goal.at.bounds-rows-at-in-loop-i c).After-from-in-loop-i) (below (goal.at.bounds-rows-at-in-loop-i c).After-from-in-loop-i))

pub times_letter-product-requires : goal.times_letter-product-requires
times_letter-product-requires c =
    let a = c.args in
    let p = c.requires in
    let w = c.from in
    let base = begun_room a.image a.at p.image_bound a.rows.now p.at_in_bounds w.result w.ensures in record {
      k_bound = rw (parent (goal.at.times_letter-product-requires c).After-from-in-loop-i) (parent_product_small a.image a.at p.image_bound _ base (i (goal.at.times_letter-product-requires c).After-from-in-loop-i) (below (goal.at.times_letter-product-requires c).After-from-in-loop-i) c.loop-i.rows c.loop-i.invariant);
      column_bound = omega (arith, last_letter (goal.at.times_letter-product-requires c).After-from-in-loop-i, last_letter_small (i (goal.at.times_letter-product-requires c).After-from-in-loop-i) (below (goal.at.times_letter-product-requires c).After-from-in-loop-i));
    }

child : (c : After-from-in-loop-i-2) → c.from-in-loop-i-2.result ≡ times_letter (parent_of (c.loop-i.i)) (letter_of (column_of (c.loop-i.i)))
child c =
    c.from-in-loop-i-2.ensures
    ∙ c.times_letter-child.ensures
    ∙ ap₂ (λ (k j : ℕ). times_letter k (letter_of j)) c.parent_of-parent.ensures ((let last_letter : c.last_letter_of-column.result ≡ column_of (c.loop-i.i) = c.last_letter_of-column.ensures in last_letter))

child-small : (c : After-from-in-loop-i-2) → c.from-in-loop-i-2.result < 168
child-small c =
    rw (child c) (times_letter_small (parent_of (c.loop-i.i)) (parent_small (c.loop-i.i) ((let below : c.loop-i.i < 167 = omega arith in below))) (letter_of (column_of (c.loop-i.i))))

pub bounds-rows-at-in-loop-i-2 : goal.bounds-rows-at-in-loop-i-2
bounds-rows-at-in-loop-i-2 c = omega (arith, base-room (goal.at.bounds-rows-at-in-loop-i-2 c).After-from-in-loop-i, child-small c, c.from-in-loop-i-2.ensures)

pub loop-i-preserved : goal.loop-i-preserved
loop-i-preserved c =
    let a = c.args in
    let p = c.requires in
    let l = c.loop-i in
    let w = c.from in
    let base = begun_room a.image a.at p.image_bound a.rows.now p.at_in_bounds w.result w.ensures in
    let product =
    c.times_letter-product.ensures
    ∙ ap₂ (λ (k j : ℕ). times_letter (get_or l.rows (a.at + k) 0) (letter_of j)) (parent (goal.at.loop-i-preserved c).After-from-in-loop-i) (last_letter (goal.at.loop-i-preserved c).After-from-in-loop-i) in
    filling_more a.image a.at p.image_bound _ base l.i (below (goal.at.loop-i-preserved c).After-from-in-loop-i) l.rows l.invariant c.from-in-loop-i-2.result c.times_letter-product.result (child c) product
    (child-small c)

ended : (c : After-loop-i)
    → Fills c.args.image c.args.at c.args.rows.now
    c.loop-i.rows
ended c =
    let a = c.args in
    let p = c.requires in
    let l = c.loop-i in
    let w = c.from in
    filling_ends a.image a.at p.image_bound a.rows.now p.at_in_bounds w.result w.ensures l.i (omega arith) l.rows l.invariant

pub shape_of-rows : goal.shape_of-rows
shape_of-rows c = (ended c).size

pub returns : goal.returns
returns c = ended c
