-- The two calls undo each other.
--     word_matrix_word       a word turned into its matrix, and that turned back, is the word's normal form
--     matrix_word_matrix     a matrix turned into its normal form, and that turned back, is the matrix up to sign
-- Assumes nothing.
use mathlib.Core.Path.{◌≡◌, refl, sym, ap, subst, ◌∙◌}
use mathlib.Core.Logic.{inl, inr}
use mathlib.Core.List.{List, [], ◌∷◌}
use Prim.Native.Nat.{ℕ, ◌≤◌}
use native.Mathlib.Omega.{arith}
use lib.Dec.{leb}
use lib.ListN.{length, take}
use borrow.Author.Tests.{le-leb, leb-true}
use Rattle.limits.specs.Limits.{most_letters, most_of_form}
use Rattle.words.specs.Word.{Word, nf}
use Rattle.words.specs.Bytes.{word, bytes}
use Rattle.refusals.specs.Questions.{Asked, passed, first_no, first_other, question8, question10, question12, of_letters}
use Rattle.slices.specs.Slices.{overwritten}
use Rattle.words.specs.Calls.{written, length_or}
use Rattle.words.specs.declared.Letters.{Letters}
use Rattle.refusals.specs.declared.Refusal.TheVariants.{TooManyLetters, NotALetter, NormalFormTooLong}
use Rattle.std.specs.Prelude.{Result, Ok, Err}
use Rattle.refusals.specs.declared.Refusal.{Refusal}
use Rattle.refusals.proofs.Asking.{asks_yes, asks_passed, first_no_head, first_no_tail, first_no_one}
use Rattle.words.proofs.Bytes.{word_bytes, length_bytes, first_other_bytes}
use Rattle.words.proofs.NormalForm.{nf_of_normal}
use Rattle.unimodular.specs.Matrix.{Matrix, UpToSign, matrix_of, signed, NormalFormOf}
use Rattle.unimodular.proofs.Integers.{nat_abs-negℤ}
use Rattle.unimodular.proofs.Product.{sign_sym, sign_trans, determinant_sign, determinant_word}
use Rattle.unimodular.proofs.Faithful.{normal_form_of_word, normal_form_sign}
use Rattle.matrices.specs.Entries.{matrix, entries}
use Rattle.matrices.specs.Questions.{question5, question16, of_turned_word, of_entries, of_normal_form}
use Rattle.matrices.specs.Forming.{of_form}
use Rattle.matrices.specs.Calls.{matrix_or, TurnsWord, TurnsMatrix}
use Rattle.matrices.specs.declared.Matrix.{Matrix as Entries}
use Rattle.matrices.proofs.Range.{Small, small_of_passed, passed_of_small, sixteen, question16_by_5, passed_in_range, entries_passed}
use Rattle.matrices.proofs.Signs.{sign_of_signed}
use Rattle.matrices.proofs.Forms.{form_short}
use Rattle.matrices.proofs.Writing.{letters_and_room}
use Rattle.matrices.proofs.Reduction.{letters_passed}
use Rattle.matrices.proofs.TurnedMatrix.{turned_form, turned_short, turned_bytes}

-- ---- a word, its matrix, and back

-- what a word that is turned into a matrix passed
into_passed : (a : Asked) (m : Matrix) {e : Entries} → Ok e ≡ matrix_or a m → (a ≡ passed) × (matrix e ≡ m)
into_passed (Ok _) m {e} h = (refl, let k : e ≡ entries m = cc in ap matrix k)
into_passed (Err refusal) m h = absurd (cc)

-- a yes to question 16 is one to question 5
range_of_16 : (m : Matrix) → question16 m ≡ passed → question5 m ≡ passed
range_of_16 m e = go (question5 m) refl
  where
    go : (a : Asked) → question5 m ≡ a → question5 m ≡ passed
    go (Ok _) f = f
    go (Err refusal) f =
        let k : sixteen (Err refusal) ≡ passed = sym (ap sixteen f) ∙ sym (question16_by_5 m) ∙ e in
        absurd (cc)

module _ (w : List ℕ) (e : Entries) (h : TurnsWord w (Ok e)) where
  turned : (of_turned_word w ≡ passed) × (matrix e ≡ signed (matrix_of (word w)))
  turned = into_passed (of_turned_word w) (signed (matrix_of (word w))) h

  -- questions 12 and 16 are what is left after 8 and 10
  last_two : first_no (question12 (length (nf (word w))) ∷ question16 (signed (matrix_of (word w))) ∷ []) ≡ passed
  last_two =
      first_no_tail (question10 w) (question12 (length (nf (word w))) ∷ question16 (signed (matrix_of (word w))) ∷ [])
      (first_no_tail (question8 (length w)) (question10 w ∷ question12 (length (nf (word w))) ∷ question16 (signed (matrix_of (word w))) ∷ []) turned.0)

  short : length (nf (word w)) ≤ most_of_form
  short =
      leb-true (length (nf (word w))) most_of_form
      (asks_passed (leb (length (nf (word w))) most_of_form) NormalFormTooLong
      (first_no_head (question12 (length (nf (word w)))) (question16 (signed (matrix_of (word w))) ∷ []) last_two))

  same_element : UpToSign (matrix_of (word w)) (matrix e)
  same_element = sign_trans (sign_sym (sign_of_signed (matrix_of (word w)))) (inl (sym turned.1))

  -- its entries pass questions 5 and 6
  entries_pass : of_entries (matrix e) ≡ passed
  entries_pass = entries_passed (matrix e) in_range (sym (determinant_sign same_element) ∙ determinant_word (word w))
    where
      sixteenth : question16 (signed (matrix_of (word w))) ≡ passed
      sixteenth =
          sym (first_no_one (question16 (signed (matrix_of (word w)))))
          ∙ first_no_tail (question12 (length (nf (word w)))) (question16 (signed (matrix_of (word w))) ∷ []) last_two

      in_range : question5 (matrix e) ≡ passed
      in_range = range_of_16 (matrix e) (ap question16 turned.1 ∙ sixteenth)

  pub word_matrix_word : (before after : List ℕ) (r : Result Letters Refusal) → TurnsMatrix (matrix e) before r after → most_of_form ≤ length before →
      (r ≡ Ok (record { 0 = length (nf (word w)) })) × (after ≡ overwritten (bytes (nf (word w))) before)
  word_matrix_word before after r t room = (
    t.answer entries_pass (nf (word w)) form ∙ ap (λ (a : Asked). length_or a (length (nf (word w)))) passes,
    t.slice entries_pass (nf (word w)) form ∙ ap (λ (a : Asked). written a (bytes (nf (word w))) before) passes,
  )
    where
      form : NormalFormOf (matrix e) (nf (word w))
      form = normal_form_sign same_element (normal_form_of_word (word w))

      passes : of_normal_form (nf (word w)) (length before) ≡ passed
      passes = letters_and_room (length (nf (word w))) (length before) short room

-- ---- a matrix, its normal form, and back

-- a word that question 12 lets pass passes questions 8 and 10
of_bytes : (w : Word) → length w ≤ most_of_form → of_letters (bytes w) ≡ passed
of_bytes w l = λ i. first_no (eighth i ∷ tenth i ∷ [])
  where
    eighth : question8 (length (bytes w)) ≡ passed
    eighth = asks_yes (leb (length (bytes w)) most_letters) TooManyLetters (le-leb (length (bytes w)) most_letters (omega (arith, length_bytes w)))

    tenth : question10 (bytes w) ≡ passed
    tenth =
        asks_yes (leb (length (bytes w)) (first_other (bytes w))) (NotALetter (first_other (bytes w)))
        (le-leb (length (bytes w)) (first_other (bytes w)) (omega (arith, first_other_bytes w)))

-- entries that differ in sign are equally large
small_sign : {m n : Matrix} → UpToSign m n → Small n → Small m
small_sign (inl e) s = subst Small (sym e) s
small_sign {m} {n} (inr e) s =
    subst Small (sym e)
    (record {
      a_small = omega (arith, nat_abs-negℤ n.a, s.a_small);
      b_small = omega (arith, nat_abs-negℤ n.b, s.b_small);
      c_small = omega (arith, nat_abs-negℤ n.c, s.c_small);
      d_small = omega (arith, nat_abs-negℤ n.d, s.d_small);
    })

module _ (m : Matrix) (passes : of_entries m ≡ passed) where
  -- the matrix of m's normal form is m up to sign, so question 16 is answered yes
  sixteen_passes : (w : Word) → NormalFormOf m w → question16 (signed (matrix_of w)) ≡ passed
  sixteen_passes w p =
      question16_by_5 (signed (matrix_of w))
      ∙ ap sixteen (passed_of_small (signed (matrix_of w))
      (small_sign (sign_trans (sign_of_signed (matrix_of w)) p.matrix) (small_of_passed m (passed_in_range m passes))))

  module _ (w : Word) (p : NormalFormOf m w) (l : length w ≤ most_of_form) where
    same_word : word (bytes w) ≡ w
    same_word = word_bytes w

    turns_back : of_turned_word (bytes w) ≡ passed
    turns_back =
        letters_passed (bytes w) (of_bytes w l)
        ∙ ap (λ (x : Word). of_form (nf x)) same_word
        ∙ ap of_form (nf_of_normal w p.normal)
        ∙ form_short w l ∙ sixteen_passes w p

    back_again : (r : Result Entries Refusal) → TurnsWord (bytes w) r → (e : Entries) × (r ≡ Ok e) × UpToSign (matrix e) m
    back_again r t = (
      entries (signed (matrix_of w)),
      t ∙ ap (λ (a : Asked). matrix_or a (signed (matrix_of (word (bytes w))))) turns_back
          ∙ ap (λ (x : Word). Ok (entries (signed (matrix_of x)))) same_word,
      sign_trans (sign_of_signed (matrix_of w)) p.matrix,
    )

  pub matrix_word_matrix : (before after : List ℕ) (n : Letters) → TurnsMatrix m before (Ok n) after →
      (r : Result Entries Refusal) → TurnsWord (take n.0 after) r → (e : Entries) × (r ≡ Ok e) × UpToSign (matrix e) m
  matrix_word_matrix before after n t r u =
      back_again w p (turned_short m before after (Ok n) t refl w p) r
      (subst (λ (s : List ℕ). TurnsWord s r) (turned_bytes m before after (Ok n) t refl w p) u)
    where
      found : (w : Word) × NormalFormOf m w
      found = turned_form m before after (Ok n) t refl

      w : Word
      w = found.0

      p : NormalFormOf m w
      p = found.1
