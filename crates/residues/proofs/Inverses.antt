-- Inverses are powers: the 84th power of every matrix modulo 7 is the unit, up to sign. So an inverse factor brings no image that the generators do not make.
--     order_84             the 84th power of a word has the image of nothing
--     inverse_image        the image of an inverse is that of the 83rd power
--     signed_quick         the quick no holds with the inverses too: signed-none
-- Assumes nothing.
use mathlib.Core.Bool.{Bool, true, false}
use mathlib.Core.Logic.{inl, inr}
use mathlib.Core.Path.{◌≡◌, refl, sym, ap, ap₂, ◌∙◌}
use mathlib.Core.List.{List, [], ◌∷◌, ◌++◌, append_assoc, append-nil, flat_map}
use Prim.Native.Nat.{ℕ, ◌≤◌, ◌<◌}
use native.Mathlib.Omega.{arith}
use lib.Dec.{T, ltb, lit≤}
use lib.ListN.{length, drop, length-append}
use Rattle.refusals.specs.Telling.{pick}
use Rattle.words.specs.Word.{Word, none, inverse}
use Rattle.words.proofs.NormalForm.{equal_append}
use Rattle.words.proofs.Inverse.{inverse_word}
use Rattle.unimodular.specs.Matrix.{Matrix, unit, negated, times, matrix_of}
use Rattle.unimodular.proofs.Product.{matrix_of_append}
use Rattle.products.specs.Product.{Factor, generator, Each, spelled, letters, Series, Counted, plain, signed, unsigned, inverse_mark, NoneRight}
use Rattle.products.proofs.Series.{spelled_append, each_append}
use Rattle.residues.specs.Residues.{Quadruple, residues, matrix, Agree, quadruples, numbering, is_same, numbered, image, multiplied, QuickNoRight}
use Rattle.residues.proofs.Every.{every, at}
use Rattle.residues.proofs.Numbering.{there_are_168, same_quadruple, agree_trans, agree_times}
use Rattle.residues.proofs.Images.{image_modulo, image_small, image_product, agreed_images, equal_images, product_image}
use Rattle.residues.proofs.Quick.{quick_none}

-- ---- powers

module _ {A : Type 0} (op : A → A → A) where
  abbrev third : A → A
  third x = op x (op x x)

  abbrev fourth : A → A
  fourth x = op x (third x)

  abbrev seventh : A → A
  seventh x = op (third x) (fourth x)

  abbrev power84 : A → A
  power84 x = seventh (fourth (third x))

  -- what holds of a product where it holds of both factors holds of a power
  power_kept : (P : A → Type 0) → ((x y : A) → P x → P y → P (op x y)) → (x : A) → P x → P (power84 x)
  power_kept P kept x p = kept_seventh (fourth (third x)) (kept_fourth (third x) (kept_third x p))
    where
      kept_third : (x : A) → P x → P (third x)
      kept_third x p = kept x (op x x) p (kept x x p p)

      kept_fourth : (x : A) → P x → P (fourth x)
      kept_fourth x p = kept x (third x) p (kept_third x p)

      kept_seventh : (x : A) → P x → P (seventh x)
      kept_seventh x p = kept (third x) (fourth x) (kept_third x p) (kept_fourth x p)

-- powers go along where products do
module _ {A B : Type 0} (op : A → A → A) (op' : B → B → B) (f : A → B) (h : (x y : A) → f (op x y) ≡ op' (f x) (f y)) where
  power_along : (x : A) → f (power84 op x) ≡ power84 op' (f x)
  power_along x = simp h

agree_power : (m n : Matrix) → Agree m n → Agree (power84 times m) (power84 times n)
agree_power m n a =
    power_kept {A = Matrix × Matrix} (λ p q. (times p.0 q.0, times p.1 q.1)) (λ p. Agree p.0 p.1)
    (λ p q e f. agree_times p.0 p.1 q.0 q.1 e f) (m, n) a

-- what is computed: the 84th power of each quadruple is the unit, up to sign
is_unit : ℕ → Quadruple → Bool
is_unit k q =
    pick (is_same (residues (power84 times (matrix q))) (residues unit)) true (is_same (residues (power84 times (matrix q))) (residues (negated unit)))

all_units : T (every is_unit 0 numbering)
unfolding is_unit numbering quadruples flat_map
all_units = tt

numbered_power : (k : ℕ) → k < 168 → Agree (power84 times (numbered k)) unit
unfolding numbered is_unit
numbered_power k small =
    go (is_same (residues p) (residues unit)) (is_same (residues p) (residues (negated unit))) refl refl
    (at is_unit numbering all_units k (rw there_are_168 small) (residues unit))
  where
    p : Matrix
    p = power84 times (numbered k)

    go : (s t : Bool) → is_same (residues p) (residues unit) ≡ s → is_same (residues p) (residues (negated unit)) ≡ t → T (pick s true t) → Agree p unit
    go true t e f x = inl (same_quadruple (residues p) (residues unit) (rw e tt))
    go false t e f x = inr (same_quadruple (residues p) (residues (negated unit)) (rw f x))

pub order_84 : (w : Word) → image (power84 ◌++◌ w) ≡ image []
order_84 w =
    agreed_images (power84 ◌++◌ w) []
    (rw (power_along ◌++◌ times matrix_of matrix_of_append w)
    (agree_trans (power84 times (matrix_of w)) (power84 times (numbered (image w))) unit
    (agree_power (matrix_of w) (numbered (image w)) (image_modulo w)) (numbered_power (image w) (image_small w))))

-- ---- inverses

-- what leads from g back to nothing, modulo 7, is g's inverse there
pub inverse_image : (g s : Word) → image (g ++ s) ≡ image [] → image (inverse g) ≡ image s
inverse_image g s e =
    ap image (sym (append-nil (inverse g)))
    ∙ image_product (inverse g) []
    ∙ ap (multiplied (image (inverse g))) (sym e)
    ∙ sym (image_product (inverse g) (g ++ s))
    ∙ ap image (sym (append_assoc (inverse g) g s))
    ∙ equal_images (equal_append (inverse_word g) none)

-- the 83rd power of a factor, as a series
others : ℕ → List ℕ
others i = drop 1 (power84 ◌++◌ (i ∷ []))

-- a signed factor by generators alone
plainly : ℕ → List ℕ
plainly k = pick (ltb k inverse_mark) (unsigned k ∷ []) (others (unsigned k))

module _ (gens : List Word) where
  others_image : (i : ℕ) → image (letters gens (others i)) ≡ image (inverse (generator gens i))
  unfolding others
  others_image i =
      sym
      (inverse_image (generator gens i) (letters gens (others i))
      (ap image
      (power_along ◌++◌ ◌++◌ (letters gens) (spelled_append (generator gens)) (i ∷ []) ∙ ap (power84 ◌++◌) (append-nil (generator gens i)))
      ∙ order_84 (generator gens i)))

  others_series : (i : ℕ) → Factor gens i → Series gens (others i)
  unfolding others
  others_series i h = (power_kept ◌++◌ (Series gens) (each_append (Factor gens)) (i ∷ []) (h, tt)).1

  plainly_series : (k : ℕ) → Factor gens (unsigned k) → Series gens (plainly k)
  unfolding plainly
  plainly_series k h = go (ltb k inverse_mark)
    where
      go : (t : Bool) → Series gens (pick t (unsigned k ∷ []) (others (unsigned k)))
      go true = (h, tt)
      go false = others_series (unsigned k) h

  plainly_counted : (k : ℕ) → Counted (plainly k)
  unfolding plainly others
  plainly_counted k = go (ltb k inverse_mark) (unsigned k)
    where
      go : (t : Bool) (i : ℕ) → Counted (pick t (i ∷ []) (others i))
      go true i = lit≤ tt
      go false i = lit≤ tt

  plainly_image : (k : ℕ) → image (letters gens (plainly k)) ≡ image ((signed gens).word_of k)
  unfolding plainly
  plainly_image k = go (ltb k inverse_mark) (unsigned k)
    where
      go : (t : Bool) (i : ℕ) → image (letters gens (pick t (i ∷ []) (others i))) ≡ image (pick t (generator gens i) (inverse (generator gens i)))
      go true i = ap image (append-nil (generator gens i))
      go false i = others_image i

  -- a series of signed factors, by generators alone: it has no fewer
  unsigned_series : (r : List ℕ) → Each (signed gens).Number r
      → (s : List ℕ) × Series gens s × (length r ≤ length s) × (image (letters gens s) ≡ image (spelled (signed gens).word_of r))
  unsigned_series [] h = ([], tt, lit≤ tt, refl)
  unsigned_series (k ∷ r) h =
      let (s, series, long, same) = unsigned_series r h.1 in
      let some : 1 ≤ length (plainly k) = plainly_counted k in (
        plainly k ++ s,
        each_append (Factor gens) (plainly k) s (plainly_series k h.0) series,
        omega (arith, length-append (plainly k) s),
        ap image (spelled_append (generator gens) (plainly k) s)
            ∙ image_product (letters gens (plainly k)) (letters gens s)
            ∙ ap₂ multiplied (plainly_image k) same
            ∙ sym (image_product ((signed gens).word_of k) (spelled (signed gens).word_of r)),
      )

  pub signed_quick : (target : Word) → QuickNoRight (plain gens) target → QuickNoRight (signed gens) target
  signed_quick target right r h c e =
      let (s, series, long, same) = unsigned_series r h in
      right s series (omega arith) (product_image (plain gens) s ∙ same ∙ sym (product_image (signed gens) r) ∙ e)

  pub signed_none : (target : Word) → QuickNoRight (plain gens) target → (n : ℕ) → NoneRight (signed gens) target n
  signed_none target right = quick_none (signed gens) target (signed_quick target right)
