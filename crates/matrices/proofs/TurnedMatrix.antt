-- What a caller learns from the answer when a matrix is turned into its normal form. Assumes nothing.
use mathlib.Core.Path.{◌≡◌, refl, sym, ap, ◌∙◌}
use mathlib.Core.Bool.{Bool, true, false}
use mathlib.Core.List.{List, [], ◌∷◌}
use Prim.Native.Nat.{ℕ, ◌≤◌, ◌<◌}
use native.Mathlib.Nat.{lt_of_not-le}
use native.Mathlib.Decide.{dec_le}
use lib.Dec.{leb}
use lib.ListN.{length, take}
use borrow.Author.Tests.{leb-true}
use Rattle.limits.specs.Limits.{most_of_form}
use Rattle.words.specs.Word.{Word}
use Rattle.words.specs.Bytes.{bytes}
use Rattle.refusals.specs.Questions.{Asked, passed, asks, first_no, question12, question14}
use Rattle.words.specs.Calls.{written}
use Rattle.words.specs.declared.Letters.{Letters}
use Rattle.refusals.specs.declared.Refusal.{Refusal}
use Rattle.refusals.specs.declared.Refusal.TheVariants.{DeterminantNotOne, NormalFormTooLong}
use Rattle.std.specs.Prelude.{Result, Ok, Err}
use Rattle.refusals.proofs.Asking.{passed_not_refused, asks_passed, first_no_head}
use Rattle.words.proofs.Answering.{refused_of_answer, passed_of_answer, take_overwritten}
use Rattle.words.proofs.Bytes.{length_bytes}
use Rattle.unimodular.specs.Matrix.{Matrix, determinant, NormalFormOf}
use Rattle.unimodular.proofs.Descent.{normal_form_exists}
use Rattle.matrices.specs.Questions.{in_range, is_one, of_entries, of_normal_form}
use Rattle.matrices.specs.Calls.{TurnsMatrix}
use Rattle.matrices.proofs.Range.{by_answers, passed_determinant}
use Rattle.matrices.proofs.Writing.{letters_too_many, letters_and_room}

-- questions 5 and 6 refuse with other numbers than question 12
entries_not_too_long : (m : Matrix) → of_entries m ≡ Err NormalFormTooLong → ⊥
entries_not_too_long m = go (in_range m.a) (in_range m.b) (in_range m.c) (in_range m.d) (is_one (determinant m))
  where
    go : (s t u v w : Bool) → first_no (by_answers s t u v ∷ asks w DeterminantNotOne ∷ []) ≡ Err NormalFormTooLong → ⊥
    go true true true true true e = cc
    go true true true true false e = cc
    go true true true false w e = cc
    go true true false v w e = cc
    go true false u v w e = cc
    go false t u v w e = cc

module _ (m : Matrix) (before after : List ℕ) (r : Result Letters Refusal) (h : TurnsMatrix m before r after) where
  -- a refusal is one of the entries, or the normal form is too long
  pub turned_refused : {refusal : Refusal} → r ≡ Err refusal → of_entries m ≡ passed → most_of_form ≤ length before → (w : Word) → NormalFormOf m w
      → (most_of_form < length w) × (refusal ≡ NormalFormTooLong)
  turned_refused {refusal} e passes room w p =
      let asked : of_normal_form w (length before) ≡ Err refusal =
      refused_of_answer (of_normal_form w (length before)) (length w) (sym (h.answer passes w p) ∙ e) in
      elim (dec_le (length w) most_of_form) [
        | yes k ↦ absurd (passed_not_refused (sym asked ∙ letters_and_room (length w) (length before) k room))
        | no k ↦
            let long = letters_too_many (length w) (length before) (lt_of_not-le k) in
            (lt_of_not-le k, let same : ◌≡◌ {A = Asked} (Err refusal) (Err NormalFormTooLong) = sym asked ∙ long in cc)
      ]

  pub turned_too_long : r ≡ Err NormalFormTooLong → of_entries m ≡ passed
  turned_too_long e = go (of_entries m) refl
    where
      go : (a : Asked) → of_entries m ≡ a → of_entries m ≡ passed
      go (Ok _) f = f
      go (Err refusal) f =
          let k : ◌≡◌ {A = Result Letters Refusal} (Err refusal) (Err NormalFormTooLong) = sym (h.refuses refusal f).0 ∙ e in
          let same : refusal ≡ NormalFormTooLong = cc in
          absurd (entries_not_too_long m (f ∙ ap Err same))

  module _ {l : Letters} (e : r ≡ Ok l) where
    -- a length is answered only where the entries pass ..
    pub turned_entries : of_entries m ≡ passed
    turned_entries = go (of_entries m) refl
      where
        go : (a : Asked) → of_entries m ≡ a → of_entries m ≡ passed
        go (Ok _) f = f
        go (Err refusal) f =
            let k : ◌≡◌ {A = Result Letters Refusal} (Err refusal) (Ok l) = sym (h.refuses refusal f).0 ∙ e in
            absurd (cc)

    -- .. and then there is a normal form
    pub turned_form : (w : Word) × NormalFormOf m w
    turned_form = normal_form_exists m (passed_determinant m turned_entries)

    module _ (w : Word) (p : NormalFormOf m w) where
      told : (of_normal_form w (length before) ≡ passed) × (l.0 ≡ length w)
      told = passed_of_answer (of_normal_form w (length before)) (length w) (sym (h.answer turned_entries w p) ∙ e)

      pub turned_short : length w ≤ most_of_form
      turned_short =
          leb-true (length w) most_of_form
          (asks_passed (leb (length w) most_of_form) NormalFormTooLong (first_no_head (question12 (length w)) (question14 most_of_form (length before) ∷ []) told.0))

      pub turned_length : l.0 ≡ length w
      turned_length = told.1

      pub turned_bytes : take l.0 after ≡ bytes w
      turned_bytes =
          ap (take l.0) (h.slice turned_entries w p ∙ ap (λ (a : Asked). written a (bytes w) before) told.0)
          ∙ take_overwritten (bytes w) before l.0 (turned_length ∙ sym (length_bytes w))
