-- What is answered, from what was found.
--     room_fits                  the sizes are asked about
--     writes_unfit               there is no series
--     writes_more                a bound above the weight is as good
-- Assumes nothing.
use mathlib.Core.Path.{◌≡◌, refl}
use mathlib.Core.List.{List}
use Prim.Native.Nat.{ℕ, ◌≤◌}
use native.Mathlib.Omega.{arith}
use lib.ListN.{length}
use Rattle.std.specs.Prelude.{Result, Ok, Err}
use Rattle.words.specs.declared.Factors.{Factors}
use Rattle.trees.specs.declared.Unfit.{Unfit}
use Rattle.derivations.specs.Ways.{World, weight_in, whole}
use Rattle.witness.specs.Room.{Room}
use Rattle.witness.specs.Witness.{Fits, Derivable, Writes}

module _ (w : World) where
  module _ {n : ℕ} {choices witness : List ℕ} where
    pub room_fits : Room (length w.target) w.count (length w.wholes) n (length choices) (length witness) → Fits w n choices witness
    room_fits room =
        record {
          small = record { some = room.some; few = room.few; short = room.short; numbers = room.numbers; room = room.room };
          bound = room.bound;
          room = room.factors;
        }

  pub writes_unfit : {choices witness : List ℕ} (n : ℕ) (e : Unfit) → (Fits w n choices witness → Derivable w n → ⊥) → Writes w n (Err e) choices witness choices witness
  writes_unfit n e unfit = (unfit, refl, refl)

  module _ {choices witness : List ℕ} (k n : ℕ) (within : k ≤ n) (fits : Fits w n choices witness)
      (weighs : weight_in w (whole w) 0 ≡ k) where
    -- a smaller bound fits too
    pub fits_less : Fits w k choices witness
    fits_less =
        let bound = fits.bound in
        let room = fits.room in
        record { small = fits.small; bound = omega arith; room = omega arith }

    derivable_less : Derivable w n → Derivable w k
    derivable_less derivable =
        record {
          some = derivable.some;
          within = omega arith;
          attained = λ x y first some light. derivable.attained x y first some (omega arith);
        }

    pub writes_more : (choices' witness' : List ℕ) (r : Result Factors Unfit) → Writes w k r choices witness choices' witness'
        → Writes w n r choices witness choices' witness'
    writes_more choices' witness' (Ok c) (_, few, spells, behind) = (fits, omega arith, spells, behind)
    writes_more choices' witness' (Err e) (unfit, same, behind) = (λ _ derivable. unfit fits_less (derivable_less derivable), same, behind)
