-- What `fill` and `close` promise.
--     filled_part     of a front part of the table that is full
--     table_filled    where the inputs fit, the table is filled
-- Assumes, of the part, that a series weighs what its parts weigh together.
use Rattle.std.specs.Prelude.{Result, Ok, Err}
use Rattle.trees.specs.declared.Unfit.{Unfit}
use mathlib.Core.Path.{◌≡◌, subst}
use mathlib.Core.List.{List, ◌++◌}
use Prim.Native.Nat.{ℕ, ◌+◌, ◌*◌, ◌≤◌, ◌<◌}
use native.Mathlib.Omega.{arith}
use lib.ListN.{length, drop, length-append, length-drop, get_or-append}
use lib.Seq.{take_at, drop_at}
use Rattle.words.specs.Word.{Word}
use Rattle.products.specs.State.{AllNormal, LeastBy}
use Rattle.trees.specs.Tree.{at, word_at, Tree}
use Rattle.tables.specs.Rules.{place}
use Rattle.tables.specs.Levelling.{Full}
use Rattle.tables.specs.Filling.{Fits, Filled, Fills}
use Rattle.tables.proofs.Places.{place_inside}
use Rattle.tables.proofs.Exact.{full_exact}

module _ (weight : List ℕ → ℕ) (weight_append : (a b : List ℕ) → weight (a ++ b) ≡ weight a + weight b)
    {count : ℕ} {letters rests children_r children_s wholes : List ℕ} where
  pub filled_part : {n : ℕ} {part : List ℕ} (before : List ℕ) → count * count ≤ length before → Full count letters rests wholes weight n part
      → Filled weight count letters rests children_r children_s wholes n before (part ++ drop (count * count) before)
  filled_part {n} {part} before room full =
      record {
        long = omega (arith, full.bounded.long, length-append part (drop (count * count) before), length-drop (count * count) before);
        kept = drop_at part (drop (count * count) before) (count * count) full.bounded.long;
        full = rw (take_at part (drop (count * count) before) (count * count) full.bounded.long) full;
        exact = λ gens words normal tree same. part_exact gens words normal tree count same full;
      }
    where
      part_exact : (gens words : List Word) → AllNormal gens → Tree gens words letters rests children_r children_s wholes
          → (m : ℕ) → length words ≡ m → Full m letters rests wholes weight n part → (p q : ℕ) → p < m → q < m
          → LeastBy gens weight n (word_at words p) (word_at words q) (at (part ++ drop (count * count) before) (place m p q))
      part_exact gens words normal tree m same =
          subst
          (λ (m : ℕ). Full m letters rests wholes weight n part → (p q : ℕ) → p < m → q < m
          → LeastBy gens weight n (word_at words p) (word_at words q) (at (part ++ drop (count * count) before) (place m p q))) same
          (λ full p q row column.
          let inside : place (length words) p q < length words * length words = place_inside row column in
          rw (get_or-append part (drop (count * count) before) 0 (place (length words) p q) (omega (arith, full.bounded.long)))
          (full_exact tree weight weight_append normal full p q row column))

pub table_filled : {weight : List ℕ → ℕ} {count : ℕ} {letters rests children_r children_s wholes : List ℕ} {n : ℕ} {before : List ℕ} (r : Result Unit Unfit) {after : List ℕ}
    → Fills weight count letters rests children_r children_s wholes n before r after → Fits count letters rests children_r children_s wholes n before
    → Filled weight count letters rests children_r children_s wholes n before after
table_filled (Ok _) (fits, filled) fit = filled
table_filled (Err _) (unfit, kept) fit = absurd (unfit fit)
