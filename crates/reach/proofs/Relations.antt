-- What the unbounded verdict says where there is a product, a relation or another one, and where there is none.
--     product_yes          yes, for a target that a rival reaches, whatever the bound
--     vanishing_yes        so for an empty target of a list with a generator that vanishes
--     empty_list_no        no, for every target of an empty list, the empty one as well
-- Assumes nothing.
use mathlib.Core.Bool.{Bool, true, false}
use mathlib.Core.Path.{◌≡◌, refl}
use mathlib.Core.List.{List, [], ◌∷◌}
use Prim.Native.Nat.{ℕ}
use native.Mathlib.Nat.{le_refl, not-suc-le-zero}
use Rattle.words.specs.Word.{Word, Equal}
use Rattle.products.specs.Product.{generator, Factor, plain, Reaches, Rival, YesRight}
use Rattle.products.proofs.Relations.{vanishing_relation}
use Rattle.reach.specs.Calls.{ReachedRight}

pub product_yes : (gens : List Word) (target : Word) (r : Bool) → ReachedRight gens target r
    → (n : ℕ) (s : List ℕ) → Rival (plain gens) n s → Reaches (plain gens) s target → r ≡ true
product_yes gens target true right n s rival reaches = refl
product_yes gens target false right n s rival reaches = absurd (right s rival.series rival.counted reaches)

pub vanishing_yes : (gens : List Word) (r : Bool) → ReachedRight gens [] r → (i : ℕ) → Factor gens i → Equal (generator gens i) [] → r ≡ true
vanishing_yes gens r right i inside vanishes =
    let (rival, reaches) = vanishing_relation gens i inside 1 (le_refl 1) vanishes in
    product_yes gens [] r right 1 (i ∷ []) rival reaches

-- an empty list has no product
nothing_reached : (target : Word) → YesRight (plain []) target → ⊥
nothing_reached target ([], series, counted, reaches) = not-suc-le-zero counted
nothing_reached target (i ∷ s, series, counted, reaches) = not-suc-le-zero series.0

pub empty_list_no : (target : Word) (r : Bool) → ReachedRight [] target r → r ≡ false
empty_list_no target true right = absurd (nothing_reached target right)
empty_list_no target false right = refl
