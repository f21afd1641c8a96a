-- What the items of a query say of its target.
--     attained         every item that weighs between 1 and the bound is attained by tight parts
--     derived_right    the first series of the last row at node 0 is a right member
--     none_right       where that item weighs more than the bound, none is right
-- Assumes a query.
use mathlib.Core.Path.{◌≡◌, sym, ap₂, subst, subst₂, ◌∙◌}
use mathlib.Core.List.{List, []}
use Prim.Native.Nat.{ℕ, zero, suc, ◌+◌, ◌-◌, ◌≤◌, ◌<◌}
use native.Mathlib.Decide.{dec_lt}
use native.Mathlib.Omega.{arith}
use lib.ListN.{length, length-map}
use Rattle.words.specs.Word.{Word}
use Rattle.words.specs.Bytes.{letter, word}
use Rattle.words.proofs.Reduced.{Reduced, reduced_of_normal}
use Rattle.products.specs.Product.{measure, NoneRight, MemberRight, plain}
use Rattle.products.proofs.RowFirsts.{RowFirst}
use Rattle.products.proofs.Verdict.{verdict_none, verdict_first}
use Rattle.derivations.specs.Derivations.{Tight, Firsts, Attained}
use Rattle.derivations.specs.Ways.{World, parts_in, weight_in, whole}
use Rattle.derivations.specs.Query.{Query}
use Rattle.derivations.proofs.Ways.{item_inside}
use Rattle.derivations.proofs.Nodes.{entry_at, reduced, entries_exact}
use Rattle.derivations.proofs.Pairs.{pairs_attained}
use Rattle.derivations.proofs.RowParts.{row_in, root_inside, rows_closed, row_weight}
use Rattle.derivations.proofs.RowItems.{rows_attained, rows_first}

module _ {gens words : List Word} {n : ℕ} {w : World} (query : Query gens words n w) where
  -- such an item is inside: a pair of nodes, or a row at a node
  pub attained : Attained (parts_in w) (weight_in w) n
  attained zero y h some within = absurd (omega arith)
  attained (suc p) y h some within =
      let (k, far, _) = item_inside w p y some in
      elim (dec_lt p w.count) [
        | yes l ↦ pairs_attained query p y l k within
        | no l ↦
            let row : w.count + (p - w.count) ≡ p = omega arith in
            subst (λ (m : ℕ). (d : ℕ) × Tight (weight_in w) (suc m) y (parts_in w (suc m) y d)) row
            (rows_attained query (p - w.count) y (omega arith) k (subst (λ (m : ℕ). weight_in w (suc m) y ≤ n) (sym row) within))
      ]

  -- ---- the last row at node 0

  target_reduced : Reduced (word w.target)
  target_reduced = reduced_of_normal (word w.target) query.target_normal

  last_entry : row_in query (length (word w.target)) [] ≡ weight_in w (whole w) 0
  last_entry =
      ap₂ (row_in query) (length-map w.target letter) (sym query.tree.root)
      ∙ sym (row_weight query (length w.target) 0 (omega arith) (root_inside query))

  last_first : (r : List ℕ) → Firsts (parts_in w) (weight_in w) (whole w) 0 r → weight_in w (whole w) 0 ≤ n
      → RowFirst gens measure (entry_at words w) (word w.target) (row_in query) (length (word w.target)) [] r
  last_first r f within =
      subst₂ (λ (i : ℕ) (q : Word). RowFirst gens measure (entry_at words w) (word w.target) (row_in query) i q r)
      (sym (length-map w.target letter)) query.tree.root
      (rows_first query (length w.target) 0 (omega arith) (root_inside query) f within)

  pub derived_right : (r : List ℕ) → Firsts (parts_in w) (weight_in w) (whole w) 0 r → weight_in w (whole w) 0 ≤ n
      → MemberRight (plain gens) (word w.target) n r (length r)
  derived_right r f within =
      verdict_first gens n (entry_at words w) (word w.target) (row_in query) (reduced query) (entries_exact query) (rows_closed query) target_reduced
      r (last_first r f within) (omega (arith, last_entry))

  pub none_right : n < weight_in w (whole w) 0 → NoneRight (plain gens) (word w.target) n
  none_right above =
      verdict_none gens n (entry_at words w) (word w.target) (row_in query) (reduced query) (entries_exact query) (rows_closed query) target_reduced
      (omega (arith, last_entry))
