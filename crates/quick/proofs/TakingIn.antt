-- One image more is taken in, or is a product already.
-- Assumes nothing.
use mathlib.Core.Logic.{◌⊎◌, inl, inr}
use mathlib.Core.Path.{◌≡◌, refl, sym, ap, ◌∙◌}
use mathlib.Core.List.{List}
use Prim.Native.Nat.{ℕ, ◌+◌, ◌*◌, ◌≤◌, ◌<◌}
use native.Mathlib.Decide.{dec_lt}
use native.Mathlib.Omega.{arith}
use lib.Dec.{lit<}
use lib.ListN.{length, get_or}
use Rattle.words.specs.Word.{Word}
use Rattle.products.specs.Product.{generator}
use Rattle.residues.specs.Residues.{image, multiplied}
use Rattle.residues.specs.Made.{Made, one}
use Rattle.residues.proofs.Closing.{made_more}
use Rattle.quick.specs.Table.{Fills}
use Rattle.quick.specs.Closing.{act, RowsRight, Seen, Marked, Grown, Visits, OldUsed, Closes, Held, TakesIn}
use Rattle.quick.specs.declared.closing.Marks.{Marks}
use Rattle.quick.specs.declared.closing.Rows.{Rows}
use Rattle.quick.proofs.Marks.{grown_then}
use Rattle.quick.proofs.Filling.{times_unit}

-- a number below j + 1 is below j, or j
below_or_last : (i j : ℕ) → i < j + 1 → (i < j) ⊎ (i ≡ j)
below_or_last i j h = elim (dec_lt i j) [ yes low ↦ inl low | no high ↦ inr (omega arith) ]

module _ (img target : ℕ) (rows : Rows) (marks : Marks) (right : RowsRight rows.entries rows.taken) (marked : Marked marks.visited marks.queue marks.count) where
  -- an image that is marked brings nothing new
  pub taken_known : Seen marks.visited img → TakesIn img target rows marks rows marks
  taken_known seen = record { rows_right = right; marked = marked; few = omega arith; size = refl; held = held }
    where
      held : (gens : List Word) (j : ℕ) → img ≡ image (generator gens j) → Held gens j target rows.entries marks.visited rows.taken
          → Held gens (j + 1) target rows.entries marks.visited rows.taken
      held gens j e h =
          record {
            from_list = λ b inside. let (i, low, f) = h.from_list b inside in (i, omega arith, f);
            made = h.made;
            covers = λ i low. covers i (below_or_last i j low);
            closed = h.closed;
          }
        where
          covers : (i : ℕ) → (i < j) ⊎ (i ≡ j) → Seen marks.visited (image (generator gens i))
          covers i (inl low) = h.covers i low
          covers i (inr f) = rw (f, ← e) seen

module _ (img target taken : ℕ) (small : img < 168) (rows rows' : List ℕ) (right : RowsRight rows taken) (room : taken * 168 + 168 ≤ length rows)
    (fills : Fills img (taken * 168) rows rows') where
  act_kept : (b : ℕ) → b < taken → act rows' b ≡ act rows b
  act_kept b h = fills.kept (b * 168 + 21) (omega arith)

  act_new : act rows' taken ≡ img
  act_new = fills.row 21 (lit< tt) ∙ times_unit img small

  pub rows_more : RowsRight rows' (taken + 1)
  rows_more =
      record {
        inside = omega (arith, fills.size);
        small = λ b h. smalls b (below_or_last b taken h);
        row = λ b k h inside. row b k inside (below_or_last b taken h);
      }
    where
      smalls : (b : ℕ) → (b < taken) ⊎ (b ≡ taken) → act rows' b < 168
      smalls b (inl low) = rw (act_kept b low) (right.small b low)
      smalls b (inr e) = rw (e, act_new) small

      row : (b k : ℕ) → k < 168 → (b < taken) ⊎ (b ≡ taken) → get_or rows' (b * 168 + k) 0 ≡ multiplied (act rows' b) k
      row b k inside (inl low) =
          fills.kept (b * 168 + k) (omega arith) ∙ right.row b k low inside ∙ ap (λ (g : ℕ). multiplied g k) (sym (act_kept b low))
      row b k inside (inr e) = rw e (fills.row k inside ∙ ap (λ (g : ℕ). multiplied g k) (sym act_new))

  module _ {v q v₁ q₁ v₂ q₂ : List ℕ} {n n₁ n₂ : ℕ} (marked : Marked v q n) (visits : Visits img v q n v₁ q₁ n₁)
      (closes : Closes rows' (taken + 1) n target v₁ q₁ n₁ v₂ q₂ n₂) where
    grown : Grown v q n v₂ q₂ n₂
    grown = grown_then visits.grown closes.grown

    held_more : (gens : List Word) (j : ℕ) → img ≡ image (generator gens j) → Held gens j target rows v taken → Held gens (j + 1) target rows' v₂ (taken + 1)
    held_more gens j e h =
        record {
          from_list = λ b inside. from_list b (below_or_last b taken inside);
          made = closes.made (λ k s. made k (visits.only k s));
          covers = λ i low. covers i (below_or_last i j low);
          closed = λ unless. closes.closed (old_used (λ s. unless (grown.marks target s))) unless;
        }
      where
        from_list : (b : ℕ) → (b < taken) ⊎ (b ≡ taken) → (i : ℕ) × (i < j + 1) × (act rows' b ≡ image (generator gens i))
        from_list b (inl low) = let (i, inside, f) = h.from_list b low in (i, omega arith, act_kept b low ∙ f)
        from_list b (inr f) = (j, omega arith, ap (act rows') f ∙ act_new ∙ e)

        made : (k : ℕ) → Seen v k ⊎ (k ≡ img) → Made (act rows') (taken + 1) k
        made k (inl old) = made_more (act rows) (act rows') taken (taken + 1) (λ b low. (omega arith, act_kept b low)) (h.made k old)
        made k (inr f) = one taken k (omega arith) (f ∙ sym act_new)

        covers : (i : ℕ) → (i < j) ⊎ (i ≡ j) → Seen v₂ (image (generator gens i))
        covers i (inl low) = grown.marks (image (generator gens i)) (h.covers i low)
        covers i (inr f) = rw (f, ← e) (closes.grown.marks img visits.seen)

        old_used : (Seen v target → ⊥) → OldUsed rows' (taken + 1) n v₁ q₁
        old_used unless i b low less =
            rw (act_kept b (omega arith), visits.grown.front i low)
            (visits.grown.marks (multiplied (act rows b) (get_or q i 0))
            (h.closed unless (get_or q i 0) b (marked.queued i low).1 (omega arith)))

    pub taken_new : TakesIn img target (record { entries = rows; taken = taken }) (record { visited = v; queue = q; count = n })
        (record { entries = rows'; taken = taken + 1 }) (record { visited = v₂; queue = q₂; count = n₂ })
    taken_new = record { rows_right = rows_more; marked = closes.marked; few = omega arith; size = fills.size; held = held_more }
