-- What the last row's entry at nothing says of a target, where the table tells of each pair only whether some series leads from the one to the other.
--     row_yes    0: some series reaches the target
--     row_no     another entry: none does
-- Assumes the tree of normal generators, its table, and the rows of the target; and, for a no, that the target is normal.
use mathlib.Core.Path.{◌≡◌, ap}
use mathlib.Core.List.{List, []}
use Prim.Native.Nat.{ℕ, ◌*◌, ◌<◌}
use native.Mathlib.Omega.{arith}
use lib.ListN.{length, length-map}
use Rattle.words.specs.Word.{Word, Normal}
use Rattle.words.specs.Bytes.{letter, word}
use Rattle.words.proofs.Reduced.{reduced_of_normal}
use Rattle.products.specs.Product.{YesRight, NoRight, plain}
use Rattle.products.specs.State.{AllNormal, weightless, LeastBy}
use Rattle.products.proofs.Exact.{ExactBy, all_reduced, exact_closed}
use Rattle.products.proofs.Verdict.{Rounds, rows_closed_of, rows_attained_of}
use Rattle.products.proofs.Unbounded.{weightless_append, verdict_yes, verdict_no}
use Rattle.trees.specs.Tree.{at, word_at, Tree}
use Rattle.tables.specs.Rules.{place}
use Rattle.rows.specs.Rows.{PathRows}
use Rattle.rows.proofs.WordRows.{table_at, row_at, read_word, root_number, table_exact, rows_rounds}

module _ {gens words : List Word} {count : ℕ} {letters rests children_r children_s wholes target table rows : List ℕ}
    (normal : AllNormal gens) (tree : Tree gens words letters rests children_r children_s wholes) (size : length words ≡ count)
    (led : (p q : ℕ) → p < count → q < count → LeastBy gens weightless 1 (word_at words p) (word_at words q) (at table (place count p q)))
    (path : PathRows count 1 children_r children_s target table rows (length target)) where
  exact : ExactBy gens weightless 1 (table_at words count table)
  exact = table_exact gens words count 1 letters rests children_r children_s wholes table tree size weightless led

  rounds : Rounds gens 1 (table_at words count table) (word target) (row_at words count rows)
      (read_word words count 1 children_r children_s target table rows)
  rounds = rows_rounds gens words count 1 letters rests children_r children_s wholes table tree size target rows path

  -- the last row's entry at nothing, which is node 0
  last_entry : row_at words count rows (length (word target)) [] ≡ at rows (length target * count)
  last_entry =
      let root = root_number gens words count 1 letters rests children_r children_s wholes table tree size in
      rw (length-map target letter) (ap (at rows) (omega arith))

  pub row_yes : at rows (length target * count) ≡ 0 → YesRight (plain gens) (word target)
  row_yes none =
      verdict_yes gens 1 (table_at words count table) (word target) (row_at words count rows) exact
      (rows_attained_of gens 1 (table_at words count table) (word target) (row_at words count rows) _ rounds) (omega (arith, last_entry))

  pub row_no : Normal (word target) → (at rows (length target * count) ≡ 0 → ⊥) → NoRight (plain gens) (word target)
  row_no target_normal not =
      verdict_no gens 1 (table_at words count table) (word target) (row_at words count rows) exact (all_reduced gens normal)
      (rows_closed_of gens 1 (table_at words count table) (word target) (row_at words count rows)
      (exact_closed gens weightless weightless_append 1 (table_at words count table) exact) _ rounds)
      (reduced_of_normal (word target) target_normal) (omega (arith, last_entry, not))
