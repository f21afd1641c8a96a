-- The product of numbers is that of a group's elements, since each number is the image of a word.
--     multiplied_small, multiplied_assoc, multiplied_unit      products are numbers below 168, in whatever order they are taken
--     multiplied_letter                                        a letter behind a product is one behind its second factor
-- Assumes nothing.
use mathlib.Core.Path.{◌≡◌, sym, ap, ap₂, subst, ◌∙◌}
use mathlib.Core.List.{[], ◌∷◌, ◌++◌, append_assoc, append-nil}
use Prim.Native.Nat.{ℕ, ◌<◌}
use Rattle.words.specs.Word.{Letter, Word}
use Rattle.unimodular.specs.Matrix.{unit}
use Rattle.residues.specs.Residues.{number_of, image, times_letter, multiplied}
use Rattle.residues.proofs.Images.{image_small, image_nothing, image_walked, image_product}
use Rattle.residues.proofs.EveryImage.{every_image}

image_assoc : (u v w : Word) → multiplied (multiplied (image u) (image v)) (image w) ≡ multiplied (image u) (multiplied (image v) (image w))
image_assoc u v w =
    ap (λ (k : ℕ). multiplied k (image w)) (sym (image_product u v))
    ∙ sym (image_product (u ++ v) w)
    ∙ ap image (append_assoc u v w)
    ∙ image_product u (v ++ w)
    ∙ ap (multiplied (image u)) (image_product v w)

image_letter : (u v : Word) (x : Letter) → multiplied (image u) (times_letter (image v) x) ≡ times_letter (multiplied (image u) (image v)) x
image_letter u v x =
    ap (multiplied (image u)) (sym (image_walked v (x ∷ [])))
    ∙ sym (image_product u (v ++ x ∷ []))
    ∙ ap image (sym (append_assoc u v (x ∷ [])))
    ∙ image_walked (u ++ v) (x ∷ [])
    ∙ ap (λ (k : ℕ). times_letter k x) (image_product u v)

pub multiplied_small : (j k : ℕ) → j < 168 → k < 168 → multiplied j k < 168
multiplied_small j k h i =
    let (u, e) = every_image j h in
    let (v, f) = every_image k i in
    subst (λ (n : ℕ). n < 168) (image_product u v ∙ ap₂ multiplied e f) (image_small (u ++ v))

pub multiplied_assoc : (j k l : ℕ) → j < 168 → k < 168 → l < 168 → multiplied (multiplied j k) l ≡ multiplied j (multiplied k l)
multiplied_assoc j k l h i o =
    let (u, e) = every_image j h in
    let (v, f) = every_image k i in
    let (w, g) = every_image l o in
    rw (← e, ← f, ← g) (image_assoc u v w)

pub multiplied_unit : (k : ℕ) → k < 168 → multiplied k (number_of unit) ≡ k
multiplied_unit k h =
    let (u, e) = every_image k h in
    rw (← e, ← image_nothing) (sym (image_product u []) ∙ ap image (append-nil u))

pub multiplied_letter : (j k : ℕ) (x : Letter) → j < 168 → k < 168 → multiplied j (times_letter k x) ≡ times_letter (multiplied j k) x
multiplied_letter j k x h i =
    let (u, e) = every_image j h in
    let (v, f) = every_image k i in
    rw (← e, ← f) (image_letter u v x)
