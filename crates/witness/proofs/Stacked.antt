-- A stack of items.
--     stacked_push                        what a store on top of it makes of it
--     length_stacked, length_weight       how high it is, and that it is no higher than it weighs
-- Assumes nothing.
use mathlib.Core.Path.{◌≡◌, refl, ap}
use mathlib.Core.List.{List, [], ◌∷◌}
use Prim.Native.Nat.{ℕ, zero, suc, ◌+◌, ◌≤◌, ◌<◌}
use native.Mathlib.Numerals.{add-one}
use native.Mathlib.Omega.{arith}
use lib.ListN.{length, set}
use lib.Seq.{get_or-set_same, get_or-set_other}
use Rattle.derivations.specs.Ways.{World}
use Rattle.witness.specs.Stacks.{stacked, weight_of, Ready}

-- a store at some height leaves what is below
stacked_below : (xs ys : List ℕ) (h a b k : ℕ) → k ≤ h → stacked (set xs h a) (set ys h b) k ≡ stacked xs ys k
stacked_below xs ys h a b zero l = refl
stacked_below xs ys h a b (suc k) l =
    let not : k ≡ h → ⊥ = λ e. omega arith in
    rw (get_or-set_other xs h k a 0 not, get_or-set_other ys h k b 0 not, stacked_below xs ys h a b k (omega arith))

pub stacked_push : (xs ys : List ℕ) (h a b : ℕ) → h < length xs → h < length ys → stacked (set xs h a) (set ys h b) (h + 1) ≡ (a, b) ∷ stacked xs ys h
stacked_push xs ys h a b k l =
    rw (add-one h, get_or-set_same xs h a 0 k, get_or-set_same ys h b 0 l, stacked_below xs ys h a b h (omega arith))

-- ---- how high a stack is

pub length_stacked : (xs ys : List ℕ) (h : ℕ) → length (stacked xs ys h) ≡ h
length_stacked xs ys zero = refl
length_stacked xs ys (suc h) = ap suc (length_stacked xs ys h)

module _ (w : World) (choice : ℕ → ℕ → ℕ) where
  -- each item weighs 1 or more
  pub length_weight : (is : List (ℕ × ℕ)) → Ready w choice is → length is ≤ weight_of w is
  length_weight [] r = omega arith
  length_weight (i ∷ is) r = omega (arith, r.0, length_weight is r.2)
