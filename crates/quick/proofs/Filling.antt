-- The row of an image: its products with all matrices, in the order of the tree.
-- Assumes nothing.
use mathlib.Core.Path.{◌≡◌, refl, sym, ap, subst, ◌∙◌}
use mathlib.Core.List.{List}
use Prim.Native.Nat.{ℕ, suc, ◌+◌, ◌≤◌, ◌<◌}
use native.Mathlib.Decide.{dec_lt, ℕ_discrete}
use native.Mathlib.Omega.{arith}
use lib.ListN.{length, get_or, set, length-set}
use lib.Seq.{get_or-set_same, get_or-set_other}
use Rattle.words.specs.Word.{Letter}
use Rattle.residues.specs.Residues.{multiplied, times_letter}
use Rattle.residues.proofs.Multiplied.{multiplied_small, multiplied_unit, multiplied_letter}
use Rattle.quick.specs.Table.{letter_of, parent_of, column_of, Fills}
use Rattle.quick.proofs.Tables.{unit_21, rank, parent_small, parent_before, root_of_rank, child_of_rank, rank_small}

-- the root and the first i others stand there
pub record Filling (image at : ℕ) (base : List ℕ) (i : ℕ) (after : List ℕ) : Type 0 where
  pub row : (k : ℕ) → k < 168 → rank k ≤ i → get_or after (at + k) 0 ≡ multiplied image k
  pub kept : (j : ℕ) → j < at → get_or after j 0 ≡ get_or base j 0
  pub size : length after ≡ length base

pub times_unit : (image : ℕ) → image < 168 → multiplied image 21 ≡ image
times_unit image small = subst (λ (k : ℕ). multiplied image k ≡ image) unit_21 (multiplied_unit image small)

-- the products with the root and with others are written into `base`, which has the root's product already
module _ (image at : ℕ) (small : image < 168) (base : List ℕ) (room : at + 168 ≤ length base) where
  module _ (i : ℕ) (inside : i < 167) (after : List ℕ) (f : Filling image at base i after) where
    abbrev x : Letter
    x = letter_of (column_of i)

    parent_there : get_or after (at + parent_of i) 0 ≡ multiplied image (parent_of i)
    parent_there = f.row (parent_of i) (parent_small i inside) (parent_before i inside)

    pub parent_product_small : get_or after (at + parent_of i) 0 < 168
    parent_product_small = rw parent_there (multiplied_small image (parent_of i) small (parent_small i inside))

    module _ (child product : ℕ) (c : child ≡ times_letter (parent_of i) x) (p : product ≡ times_letter (get_or after (at + parent_of i) 0) x) where
      here : at + child < length after → get_or (set after (at + child) product) (at + child) 0 ≡ multiplied image child
      here fits =
          get_or-set_same after (at + child) product 0 fits
          ∙ p
          ∙ ap (λ (k : ℕ). times_letter k x) parent_there
          ∙ sym (multiplied_letter image (parent_of i) x small (parent_small i inside))
          ∙ ap (multiplied image) (sym c)

      elsewhere : (k : ℕ) → k < 168 → rank k ≤ i + 1 → (k ≡ child → ⊥) → get_or (set after (at + child) product) (at + k) 0 ≡ multiplied image k
      elsewhere k fits low other =
          get_or-set_other after (at + child) (at + k) product 0 (λ e. other (omega arith))
          ∙ f.row k fits
          (elim (dec_lt (rank k) (suc i))
          [ yes early ↦ omega arith | no late ↦ absurd (other (sym (c ∙ child_of_rank k fits i (omega arith)))) ])

      pub filling_more : child < 168 → Filling image at base (i + 1) (set after (at + child) product)
      filling_more fits =
          record {
            row = λ k h low. elim (ℕ_discrete k child) [ yes e ↦ rw e (here (omega (arith, f.size))) | no other ↦ elsewhere k h low other ];
            kept = λ j h. get_or-set_other after (at + child) j product 0 (λ e. omega arith) ∙ f.kept j h;
            size = length-set after (at + child) product ∙ f.size;
          }

-- from the slice as it is lent to all products: the root's is written first
module _ (image at : ℕ) (small : image < 168) (before : List ℕ) (room : at + 168 ≤ length before) (root : ℕ) (e : root ≡ 21) where
  abbrev begun : List ℕ
  begun = set before (at + root) image

  pub begun_room : at + 168 ≤ length begun
  begun_room = omega (arith, length-set before (at + root) image)

  pub filling_begins : Filling image at begun 0 begun
  filling_begins = record { row = λ k inside first. rooted k (root_of_rank k inside (omega arith) ∙ sym e); kept = λ j h. refl; size = refl }
    where
      rooted : (k : ℕ) → k ≡ root → get_or begun (at + k) 0 ≡ multiplied image k
      rooted k f = rw (f, get_or-set_same before (at + root) image 0 (omega arith), e) (sym (times_unit image small))

  pub filling_ends : (i : ℕ) → 167 ≤ i → (after : List ℕ) → Filling image at begun i after → Fills image at before after
  filling_ends i all after f =
      record {
        row = λ k h. f.row k h (omega (arith, rank_small k h));
        kept = λ j h. f.kept j h ∙ get_or-set_other before (at + root) j image 0 (λ g. omega arith);
        size = f.size ∙ length-set before (at + root) image;
      }
