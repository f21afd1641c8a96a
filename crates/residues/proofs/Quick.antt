-- What a quick answer says of the verdicts.
--     quick_no, quick_none      whenever the quick no is given, no series reaches the target: no is right, and none for every n
--     yes_open                  a target that is reached is open
--     quick_not_open            not both are right
--     quick_empty               an empty list gets the quick no, whatever the target
-- Assumes nothing.
use mathlib.Core.Path.{◌∙◌}
use mathlib.Core.List.{[], ◌∷◌}
use Prim.Native.Nat.{ℕ}
use native.Mathlib.Nat.{not-suc-le-zero}
use Rattle.words.specs.Word.{Word}
use Rattle.products.specs.Product.{Family, plain, NoneRight, YesRight, NoRight}
use Rattle.products.proofs.Unbounded.{no_none}
use Rattle.residues.specs.Residues.{QuickNoRight, OpenRight}
use Rattle.residues.proofs.Images.{product_image, equal_images}

module _ (family : Family) (target : Word) where
  pub yes_open : YesRight family target → OpenRight family target
  yes_open (r, s, c, e) = (r, s, c, product_image family r ∙ equal_images e)

  pub quick_not_open : QuickNoRight family target → OpenRight family target → ⊥
  quick_not_open right (r, s, c, e) = right r s c e

  -- 02: "Whenever it is given, the bounded and unbounded verdicts, where they aren't refused, are none as well, for every n."
  pub quick_no : QuickNoRight family target → NoRight family target
  quick_no right r s c e = right r s c (product_image family r ∙ equal_images e)

  pub quick_none : QuickNoRight family target → (n : ℕ) → NoneRight family target n
  quick_none right = no_none family target (quick_no right)

-- 02: "so an empty list always gets it"
pub quick_empty : (target : Word) → QuickNoRight (plain []) target
quick_empty target [] s c e = absurd (not-suc-le-zero c)
quick_empty target (i ∷ r) s c e = absurd (not-suc-le-zero s.0)
