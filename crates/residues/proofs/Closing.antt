-- A closed set of images decides. The images of some generators were taken in, and the set has their products and no others; and it has every generator's image.
--     made_open       what it has is a product of generators' images
--     closed_no       what it lacks is none
-- Assumes nothing.
use mathlib.Core.Path.{◌≡◌, sym, ap, subst, ◌∙◌}
use mathlib.Core.List.{List, [], ◌∷◌}
use Prim.Native.Nat.{ℕ, ◌<◌}
use native.Mathlib.Nat.{not-suc-le-zero}
use native.Mathlib.Omega.{arith}
use lib.Dec.{lit≤}
use Rattle.words.specs.Word.{Word}
use Rattle.products.specs.Product.{Factor, generator, Series, Counted, plain}
use Rattle.residues.specs.Residues.{image, multiplied, image_of, QuickNoRight, OpenRight}
use Rattle.residues.specs.Made.{Made, one, more}
use Rattle.residues.proofs.Images.{image_small}
use Rattle.residues.proofs.Multiplied.{multiplied_small, multiplied_assoc, multiplied_unit}

-- with more images taken in what was made is made still
pub made_more : (act act' : ℕ → ℕ) (a a' : ℕ) → ((b : ℕ) → b < a → (b < a') × (act' b ≡ act b)) → {k : ℕ} → Made act a k → Made act' a' k
made_more act act' a a' kept (one b k h e) = one b k (kept b h).0 (e ∙ sym (kept b h).1)
made_more act act' a a' kept (more b j k h m e) =
    more b j k (kept b h).0 (made_more act act' a a' kept m) (e ∙ ap (λ (g : ℕ). multiplied g j) (sym (kept b h).1))

pub made_small : (act : ℕ → ℕ) (a : ℕ) → ((b : ℕ) → b < a → act b < 168) → {k : ℕ} → Made act a k → k < 168
made_small act a small (one b k h e) = subst (λ (n : ℕ). n < 168) (sym e) (small b h)
made_small act a small (more b j k h m e) = subst (λ (n : ℕ). n < 168) (sym e) (multiplied_small (act b) j (small b h) (made_small act a small m))

module _ (gens : List Word) (act : ℕ → ℕ) (a : ℕ) (from_list : (b : ℕ) → b < a → (i : ℕ) × Factor gens i × (act b ≡ image (generator gens i))) where
  act_small : (b : ℕ) → b < a → act b < 168
  act_small b h = let (i, factor, e) = from_list b h in subst (λ (n : ℕ). n < 168) (sym e) (image_small (generator gens i))

  single : (i : ℕ) → image_of (plain gens) (i ∷ []) ≡ image (generator gens i)
  single i = multiplied_unit (image (generator gens i)) (image_small (generator gens i))

  made_series : {k : ℕ} → Made act a k → (r : List ℕ) × Series gens r × Counted r × (image_of (plain gens) r ≡ k)
  made_series (one b k h e) =
      let (i, factor, f) = from_list b h in
      (i ∷ [], (factor, tt), lit≤ tt, single i ∙ sym f ∙ sym e)
  made_series (more b j k h m e) =
      let (i, factor, f) = from_list b h in
      let (r, series, counted, g) = made_series m in
      (i ∷ r, (factor, series), omega arith, ap (λ (l : ℕ). multiplied (image (generator gens i)) l) g ∙ ap (λ (l : ℕ). multiplied l j) (sym f) ∙ sym e)

  pub made_open : (target : Word) → Made act a (image target) → OpenRight (plain gens) target
  made_open target m = made_series m

  module _ (S : ℕ → Type 0) (made : (k : ℕ) → S k → Made act a k) (covers : (i : ℕ) → Factor gens i → S (image (generator gens i)))
      (closed : (k b : ℕ) → S k → b < a → S (multiplied (act b) k)) where
    times_made : {j : ℕ} → Made act a j → (k : ℕ) → S k → S (multiplied j k)
    times_made (one b j h e) k s = rw e (closed k b s h)
    times_made (more b i j h m e) k s =
        rw (e, multiplied_assoc (act b) i k (act_small b h) (made_small act a act_small m) (made_small act a act_small (made k s)))
        (closed (multiplied i k) b (times_made m k s) h)

    all_products : (r : List ℕ) → Series gens r → Counted r → S (image_of (plain gens) r)
    all_products [] series counted = absurd (not-suc-le-zero counted)
    all_products (i ∷ []) series counted = rw (single i) (covers i series.0)
    all_products (i ∷ l ∷ r) series counted =
        times_made (made (image (generator gens i)) (covers i series.0)) (image_of (plain gens) (l ∷ r)) (all_products (l ∷ r) series.1 (omega arith))

    pub closed_no : (target : Word) → (S (image target) → ⊥) → QuickNoRight (plain gens) target
    closed_no target lacks r series counted e = lacks (subst S e (all_products r series counted))
