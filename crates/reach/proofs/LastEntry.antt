-- The table is closed and then the rows are filled. What is ready fits both, so the verdict by what stands at the end of the last row is right: `decided`.
-- Assumes that the list and the target are ready, and that questions 12 and 15 have passed.
use Rattle.std.specs.Prelude.{Result, eqb}
use mathlib.Core.Path.{◌≡◌, refl}
use mathlib.Core.List.{List}
use Prim.Native.Nat.{ℕ, zero, suc, ◌*◌, ◌≤◌}
use native.Mathlib.Nat.{mul-le-mul}
use native.Mathlib.Omega.{arith}
use lib.ListN.{length}
use borrow.Author.Tests.{ne_eqb}
use Rattle.limits.specs.Limits.{most_states}
use Rattle.words.specs.Word.{Word}
use Rattle.words.specs.Bytes.{word}
use Rattle.products.specs.Product.{YesRight, NoRight, plain}
use Rattle.products.specs.State.{weightless}
use Rattle.sizes.specs.Questions.{side}
use Rattle.sizes.proofs.Passing.{SizesPassed}
use Rattle.trees.specs.Tree.{at}
use Rattle.trees.specs.Numbering.{numbered}
use Rattle.trees.specs.declared.Unfit.{Unfit}
use Rattle.trees.proofs.Remaining.{drop_later}
use Rattle.tables.specs.Filling.{Fills as FillsTable}
use Rattle.tables.proofs.Filled.{table_filled}
use Rattle.tables.proofs.Exact.{tree_fits}
use Rattle.rows.specs.Rows.{Fills as FillsRows}
use Rattle.rows.proofs.FilledFits.{filled_fits, rows_filled}
use Rattle.rows.proofs.Reaching.{row_yes, row_no}
use Rattle.queries.specs.Ready.{ReadyFor}
use Rattle.reach.specs.Calls.{Lent, ReachedRight}
use Rattle.reach.specs.Deciding.{Decides}

-- a verdict by an entry
by_entry : (gens : List Word) (target : Word) (entry : ℕ) → (entry ≡ 0 → YesRight (plain gens) target) → ((entry ≡ 0 → ⊥) → NoRight (plain gens) target)
    → ReachedRight gens target (eqb entry 0)
by_entry gens target zero reached unreached = reached refl
by_entry gens target (suc e) reached unreached =
    let some : suc e ≡ 0 → ⊥ = λ none. omega (arith, none) in rw (ne_eqb (suc e) 0 some) (unreached some)

-- The tree has no more nodes than the list has letters, and one; so q is no less, and no less than the rows are many.
square_within : (m t count : ℕ) → count ≤ suc m → (count * count ≤ side m t * side m t) × (suc t * count ≤ side m t * side m t)
square_within m t count few =
    let nodes : count ≤ side m t = omega arith in
    let rows : suc t ≤ side m t = omega arith in
    (mul-le-mul nodes nodes, mul-le-mul rows nodes)

module _ {gens : List Word} {m count : ℕ} {letters rests children_r children_s wholes form : List ℕ}
    (ready : ReadyFor gens m count letters rests children_r children_s wholes form) where
  few_nodes : count ≤ most_states
  few_nodes = omega (arith, ready.few, ready.short)

  module _ (lent : Lent) (passed : SizesPassed m (length form) 0 (length lent.first) (length lent.second) 0)
      (r : Result (Unit {0}) Unfit) {table : List ℕ} (closes : FillsTable weightless count letters rests children_r children_s wholes 1 lent.first r table)
      (s : Result (Unit {0}) Unfit) {rows : List ℕ} (fills : FillsRows count 1 children_r children_s form table lent.second s rows) where
    pub decided : Decides (side m (length form)) gens (word form) (eqb (at rows (length form * count)) 0) lent (record { first = table; second = rows })
    decided =
        let q : ℕ = side m (length form) in
        let (pairs_within, rows_within) = square_within m (length form) count ready.few in
        let fits = tree_fits ready.tree {n = 1} {table = lent.first} ready.size (omega (arith, few_nodes)) (omega arith) (omega (arith, pairs_within, passed.first_room)) in
        let closed = table_filled r closes fits in
        let filled = rows_filled s fills
        (filled_fits form lent.second fits closed few_nodes ready.form_short (omega (arith, rows_within, passed.second_room))) in
        let led = closed.exact gens (numbered gens) ready.normal ready.tree ready.size in
        record {
          right =
              by_entry gens (word form) (at rows (length form * count))
              (row_yes ready.normal ready.tree ready.size led filled.right)
              (row_no ready.normal ready.tree ready.size led filled.right ready.form_normal);
          first = drop_later (count * count) (q * q) table lent.first pairs_within closed.kept;
          second = drop_later (suc (length form) * count) (q * q) rows lent.second rows_within filled.kept;
        }
