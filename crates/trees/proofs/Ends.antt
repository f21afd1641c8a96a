-- Ends that each do not fall below the one before never fall. Assumes nothing.
use mathlib.Core.Path.{◌≡◌, ◌∙◌}
use mathlib.Core.List.{List}
use Prim.Native.Nat.{ℕ, zero, suc, ◌+◌, ◌≤◌, ◌<◌, zero-le}
use native.Mathlib.Nat.{le_refl}
use native.Mathlib.Numerals.{add-one}
use native.Mathlib.Decide.{le_ind}
use native.Mathlib.Omega.{arith}
use lib.ListN.{length}
use Rattle.trees.specs.Tree.{at}
use Rattle.trees.specs.Building.{Fits}
use Rattle.trees.specs.Ends.{end_before, EndsFit}

pub end_before_next : (ends : List ℕ) (i : ℕ) → end_before ends (i + 1) ≡ at ends i
end_before_next ends i = rw (add-one i)

pub ends_rise : (ends : List ℕ) (limit : ℕ) → EndsFit ends limit → (i j : ℕ) → i ≤ j → j < length ends → at ends i ≤ at ends j
ends_rise ends limit fit i j h =
    le_ind
    (λ (m : ℕ). m < length ends → at ends i ≤ at ends m)
    (λ k. le_refl (at ends i))
    (λ m le ih k. let f = fit (suc m) k in omega (arith, ih (omega arith), f.rises))
    j
    h

module _ {bytes ends letters rests children_r children_s wholes : List ℕ} (f : Fits bytes ends letters rests children_r children_s wholes) where
  pub fits_ends : EndsFit ends (length bytes)
  fits_ends zero h = record { rises = zero-le; within = f.within 0 h }
  fits_ends (suc i) h = record { rises = f.rising i (suc i) (omega arith) h; within = f.within (suc i) h }

  -- only the lengths of the lent slices count
  pub fits_same : {l r c o w : List ℕ}
      → length l ≡ length letters → length r ≡ length rests → length c ≡ length children_r → length o ≡ length children_s → length w ≡ length wholes
      → Fits bytes ends l r c o w
  fits_same el er ec eo ew =
      record {
        few = f.few;
        rising = f.rising;
        within = f.within;
        room_letters = omega (arith, f.room_letters);
        room_rests = omega (arith, f.room_rests);
        room_r = omega (arith, f.room_r);
        room_s = omega (arith, f.room_s);
        room_wholes = ew ∙ f.room_wholes;
      }

  pub end_before_within : (i : ℕ) → i ≤ length ends → end_before ends i ≤ length bytes
  end_before_within zero h = zero-le
  end_before_within (suc i) h = f.within i h
