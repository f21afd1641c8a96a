-- What the witness promises: the first series of the target's item, written. Assumes nothing: these are definitions.
use Rattle.std.specs.Prelude.{Result, Ok, Err, ◌≡◌, List, ℕ, ◌≤◌, length, take, drop}
use Rattle.limits.specs.Limits.{most_factors}
use Rattle.words.specs.declared.Factors.{Factors}
use Rattle.trees.specs.declared.Unfit.{Unfit}
use Rattle.derivations.specs.Derivations.{Firsts, Attained}
use Rattle.derivations.specs.Ways.{World, parts_in, weight_in, whole}
use Rattle.witness.specs.Choices.{Small, cells}

-- The front of a witness is the first series of an item, and the rest remains.
pub record Spells (w : World) (x y k : ℕ) (before after : List ℕ) : Type 0 where
  pub firsts : Firsts (parts_in w) (weight_in w) x y (take k after)
  pub counts : weight_in w x y ≡ k
  pub within : k ≤ length after
  pub rest : drop k after ≡ drop k before

-- There is room for the choices and for the factors.
pub record Fits (w : World) (n : ℕ) (choices witness : List ℕ) : Type 0 where
  pub small : Small w choices
  pub bound : n ≤ most_factors
  pub room : n ≤ length witness

-- The target's item weighs between 1 and n, and each item of that kind has tight parts in some way.
pub record Derivable (w : World) (n : ℕ) : Type 0 where
  pub some : 1 ≤ weight_in w (whole w) 0
  pub within : weight_in w (whole w) 0 ≤ n
  pub attained : Attained (parts_in w) (weight_in w) n

-- The target's first series by its items, of at most n factors, is written with its count. Where there is no room nothing changes; where the target's
-- item has none the witness is as it was. What stands behind the choices remains.
abbrev pub Writes : World → ℕ → Result Factors Unfit → List ℕ → List ℕ → List ℕ → List ℕ → Type 0
Writes w n (Ok k) choices witness choices₁ witness₁ =
    Fits w n choices witness × (k.0 ≤ n) × Spells w (whole w) 0 k.0 witness witness₁ × (drop (cells w) choices₁ ≡ drop (cells w) choices)
Writes w n (Err _) choices witness choices₁ witness₁ =
    (Fits w n choices witness → Derivable w n → ⊥) × (witness₁ ≡ witness) × (drop (cells w) choices₁ ≡ drop (cells w) choices)
