-- The contract of the rows leaves no choice: the answer and every entry are fixed by the inputs. Assumes nothing.
use mathlib.Core.Logic.{◌⊎◌, inl, inr}
use mathlib.Core.Path.{◌≡◌, refl, sym, ap, ◌∙◌}
use mathlib.Core.List.{List}
use Prim.Native.Nat.{ℕ, zero, suc, ◌+◌, ◌-◌, ◌*◌, ◌/◌, ◌%◌, ◌≤◌, ◌<◌}
use native.Mathlib.Nat.{div-lt_iff_lt-mul, div-add-mod', mod-lt}
use native.Mathlib.Decide.{dec_lt}
use native.Mathlib.Omega.{arith}
use lib.Dec.{eqb}
use lib.ListN.{length}
use lib.Seq.{get_or-drop, ext_get_or}
use Rattle.refusals.specs.Telling.{pick}
use Rattle.std.specs.Prelude.{Result, Ok, Err}
use Rattle.trees.specs.declared.Unfit.{Unfit}
use Rattle.trees.specs.Tree.{at}
use Rattle.tables.specs.Rules.{place}
use Rattle.rows.specs.Rows.{read_node, read_entry, PathRows, Fits, Filled, Fills}
use Rattle.rows.proofs.MadeRows.{child_inside}

module _ {count n : ℕ} {children_r children_s target table before : List ℕ} (fits : Fits count n children_r children_s target table before) {t : ℕ} where
  -- an entry of a row is no higher than another program's, where the rows before agree
  no_higher : {rows rows' : List ℕ} → PathRows count n children_r children_s target table rows t → PathRows count n children_r children_s target table rows' t
      → (i : ℕ) → i < t → ((q : ℕ) → q < count → at rows (place count i q) ≡ at rows' (place count i q))
      → (q : ℕ) → q < count → at rows (place count (suc i) q) ≤ at rows' (place count (suc i) q)
  no_higher {rows} {rows'} right right' i h same q k = by (right'.attained i q h k)
    where
      read_same : (v : ℕ) → v < count
          → read_entry count n children_r children_s target table rows i v ≡ read_entry count n children_r children_s target table rows' i v
      read_same v l =
          let child = read_node count n children_r children_s target table before i v in
          ap (pick (eqb child 0) (n + 1)) (same child (child_inside fits i v l))

      by : {x : ℕ} → (x ≡ read_entry count n children_r children_s target table rows' i q)
          ⊎ ((v : ℕ) × (v < count) × (x ≡ read_entry count n children_r children_s target table rows' i v + at table (place count v q)))
          → at rows (place count (suc i) q) ≤ x
      by (inl e) = omega (arith, e, read_same q k, right.low i q h k)
      by (inr (v, l, e)) = omega (arith, e, read_same v l, right.round i v q h l k)

  same_row : {rows rows' : List ℕ} → PathRows count n children_r children_s target table rows t → PathRows count n children_r children_s target table rows' t
      → (i : ℕ) → i ≤ t → (q : ℕ) → q < count → at rows (place count i q) ≡ at rows' (place count i q)
  same_row right right' zero h q k = right.start q k ∙ sym (right'.start q k)
  same_row right right' (suc i) h q k =
      let same = same_row right right' i (omega arith) in
      omega (arith, no_higher right right' i (omega arith) same q k, no_higher right' right i (omega arith) (λ p l. sym (same p l)) q k)

module _ {count n : ℕ} {children_r children_s target table before : List ℕ} where
  filled_unique : {after after' : List ℕ} → Fits count n children_r children_s target table before
      → Filled count n children_r children_s target table before after → Filled count n children_r children_s target table before after' → after ≡ after'
  filled_unique {after} {after'} fits filled filled' =
      ext_get_or 0 after after' (filled.long ∙ sym filled'.long)
      (λ p h.
      elim (dec_lt p (suc (length target) * count)) [
        | yes inside ↦
            let i = p / count in
            let q = p % count in
            let here : place count i q ≡ p = div-add-mod' p count in
            let row = (div-lt_iff_lt-mul fits.room.some).1 inside in
            let same = same_row fits filled.right filled'.right i (omega arith) q (mod-lt p fits.room.some) in
            ap (at after) (sym here) ∙ same ∙ ap (at after') here
        | no behind ↦
            let k = suc (length target) * count in
            let there : k + (p - k) ≡ p = omega arith in
            ap (at after) (sym there) ∙ sym (get_or-drop k after (p - k) 0) ∙ ap (λ (l : List ℕ). at l (p - k)) (filled.kept ∙ sym filled'.kept)
            ∙ get_or-drop k after' (p - k) 0 ∙ ap (at after') there
      ])

module _ (count n : ℕ) (children_r children_s target table before : List ℕ) where
  pub fills_unique : (r r' : Result Unit Unfit) (after after' : List ℕ) → Fills count n children_r children_s target table before r after
      → Fills count n children_r children_s target table before r' after' → (r ≡ r') × (after ≡ after')
  fills_unique (Ok _) (Ok _) after after' (fits, filled) (fits', filled') = (refl, filled_unique fits filled filled')
  fills_unique (Ok _) (Err _) after after' (fits, filled) (unfit, kept) = absurd (unfit fits)
  fills_unique (Err _) (Ok _) after after' (unfit, kept) (fits, filled) = absurd (unfit fits)
  fills_unique (Err _) (Err _) after after' (unfit, kept) (unfit', kept') = (refl, kept ∙ sym kept')
