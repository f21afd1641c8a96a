-- The normal form of a matrix, taken off it part by part from the right.
--     Spelling                what stands from `at` on is what was taken off
--     spelling_more, spelling_ends, spelling_stops    the loop's turn, and its two ways out
-- Assumes nothing.
use mathlib.Core.Path.{◌≡◌, sym, ap, subst, ◌∙◌}
use mathlib.Core.List.{List, ◌++◌, map-append, append_assoc}
use Prim.Native.Nat.{ℕ, ◌^◌, ◌≤◌, ◌<◌}
use native.Mathlib.Nat.{le_trans}
use native.Mathlib.Omega.{arith}
use lib.IntN.{pos}
use lib.ListN.{length, drop, length-append, length-drop}
use Rattle.limits.specs.Limits.{most_of_form}
use Rattle.words.specs.Word.{Word}
use Rattle.words.specs.Bytes.{byte, bytes}
use Rattle.words.proofs.Bytes.{length_bytes}
use Rattle.unimodular.specs.Matrix.{Matrix, determinant, NormalFormOf}
use Rattle.unimodular.proofs.Descent.{size, part, before, ending, without_last_part, ending_nothing, determinant_before, size_before}
use Rattle.matrices.specs.Spelling.{form_room, Spelled}

-- `left` is what is left of m. Where m's normal form is w, what stands from `at` on is the end of w, and before it comes the normal form of `left`.
pub record Spelling (m left : Matrix) (form : List ℕ) (at : ℕ) : Type 0 where
  pub one : determinant left ≡ pos 1
  pub not_large : size left ≤ 2 ^ 43
  pub so_far : (w : Word) → NormalFormOf m w → (v : Word) × NormalFormOf left v × (bytes w ≡ bytes v ++ drop at form)

module _ {m left : Matrix} {form : List ℕ} {at : ℕ} (h : Spelling m left form at) where
  pub spelling_more : {k : ℕ} {left' : Matrix} (form' : List ℕ) (at' : ℕ) → k ≡ ending left → left' ≡ before k left →
      drop at' form' ≡ bytes (part k) ++ drop at form → Spelling m left' form' at'
  spelling_more {k} {left'} form' at' e f g = record {
    one = ap determinant taken ∙ determinant_before (ending left) left ∙ h.one;
    not_large = subst (λ (n : Matrix). size n ≤ 2 ^ 43) (sym taken) (le_trans (size_before left h.one) h.not_large);
    so_far = λ w p. longer w (h.so_far w p);
  }
    where
      taken : left' ≡ before (ending left) left
      taken = f ∙ ap (λ (n : ℕ). before n left) e

      longer : (w : Word) → (v : Word) × NormalFormOf left v × (bytes w ≡ bytes v ++ drop at form) →
          (v : Word) × NormalFormOf left' v × (bytes w ≡ bytes v ++ drop at' form')
      longer w (v, q, s) =
          let d = without_last_part left v q in (
            d.0,
            subst (λ (n : Matrix). NormalFormOf n d.0) (sym taken) d.2,
            s
                ∙ ap (λ (u : Word). bytes u ++ drop at form) d.1
                ∙ ap (λ (l : List ℕ). l ++ drop at form) (map-append byte d.0 (part (ending left)))
                ∙ append_assoc (bytes d.0) (bytes (part (ending left))) (drop at form)
                ∙ ap (λ (n : ℕ). bytes d.0 ++ (bytes (part n) ++ drop at form)) (sym e)
                ∙ ap (λ (l : List ℕ). bytes d.0 ++ l) (sym g),
          )

  -- nothing is left
  pub spelling_ends : ending left ≡ 0 → 1 < at → at ≤ length form → Spelled m form at
  spelling_ends e l k = record {
    within = k;
    letters = λ _ w p. all w (h.so_far w p);
    too_long = λ s w p. absurd (omega arith);
  }
    where
      all : (w : Word) → (v : Word) × NormalFormOf left v × (bytes w ≡ bytes v ++ drop at form) → bytes w ≡ drop at form
      all w (v, q, s) = s ∙ ap (λ (u : Word). bytes u ++ drop at form) (ending_nothing left v q e)

  -- more letters stand behind than question 12 lets pass
  pub spelling_stops : at ≤ 1 → length form ≡ form_room → Spelled m form at
  spelling_stops l k = record {
    within = omega arith;
    letters = λ s w p. absurd (omega arith);
    too_long = λ _ w p. longer w (h.so_far w p);
  }
    where
      longer : (w : Word) → (v : Word) × NormalFormOf left v × (bytes w ≡ bytes v ++ drop at form) → most_of_form < length w
      longer w (v, q, s) = omega (arith, length_bytes w, ap length s, length-append (bytes v) (drop at form), length-drop at form)
