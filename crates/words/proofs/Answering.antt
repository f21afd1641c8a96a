-- What a caller of reduction or inversion learns from its answer: where the questions are answered yes, and back from the answer to the questions.
-- Assumes nothing.
use mathlib.Core.Path.{◌≡◌, refl, sym, ap, ◌∙◌}
use mathlib.Core.List.{List, [], ◌∷◌}
use Prim.Native.Nat.{ℕ, ◌*◌, ◌≤◌}
use native.Mathlib.Omega.{arith}
use lib.ListN.{length, take}
use lib.Seq.{take_at}
use borrow.Author.Tests.{le-leb}
use Rattle.limits.specs.Limits.{most_letters}
use Rattle.words.specs.Word.{Word, nf}
use Rattle.words.specs.Bytes.{word, bytes}
use Rattle.std.specs.Prelude.{Result, Ok, Err}
use Rattle.refusals.specs.Questions.{Asked, passed, first_other, question10, question14, of_letters, of_word}
use Rattle.slices.specs.Slices.{overwritten}
use Rattle.words.specs.Calls.{written, length_or, length_of, Writes, Reduces}
use Rattle.words.specs.declared.Letters.{Letters}
use Rattle.words.specs.declared.Account.{Account}
use Rattle.refusals.specs.declared.Refusal.{Refusal}
use Rattle.refusals.specs.declared.Refusal.TheVariants.{OutputTooShort}
use Rattle.refusals.proofs.Asking.{asks_yes, yes_first, of_word_room, of_word_refused, of_letters_short}
use Rattle.words.proofs.Bytes.{length_bytes}

pub of_word_passes : (w : List ℕ) (needed room : ℕ) → length w ≤ most_letters → length w ≤ first_other w → needed ≤ room → of_word w needed room ≡ passed
of_word_passes w needed room short letters enough =
    yes_first _ _ (question10 w ∷ question14 needed room ∷ []) (le-leb (length w) most_letters short)
    ∙ yes_first _ _ (question14 needed room ∷ []) (le-leb (length w) (first_other w) letters)
    ∙ yes_first _ _ [] (le-leb needed room enough)

module _ (f : Word → Word) (k : ℕ) (w before : List ℕ) (r : Result Letters Refusal) (after : List ℕ) (writes : Writes f k w before r after)
    (passed : of_word w (k * length w) (length before) ≡ passed) where
  pub answers_length : r ≡ Ok (record { 0 = length (f (word w)) })
  answers_length = writes.answer ∙ ap (λ (a : Asked). length_or a (length (f (word w)))) passed

  pub writes_front : after ≡ overwritten (bytes (f (word w))) before
  writes_front = writes.slice ∙ ap (λ (a : Asked). written a (bytes (f (word w))) before) passed

-- ---- the answer of a call, back to its questions

pub refused_of_answer : (a : Asked) (n : ℕ) {refusal : Refusal} → length_or a n ≡ Err refusal → a ≡ Err refusal
refused_of_answer (Ok _) n e = let z : ◌≡◌ {A = ℕ} 0 1 = cc in absurd (omega arith)
refused_of_answer (Err other) n e = cc

pub passed_of_answer : (a : Asked) (n : ℕ) {l : Letters} → length_or a n ≡ Ok l → (a ≡ passed) × (l.0 ≡ n)
passed_of_answer (Ok _) n {l} e = (refl, let k : l ≡ record { 0 = n } = cc in ap (λ (x : Letters). x.0) k)
passed_of_answer (Err other) n e = let z : ◌≡◌ {A = ℕ} 0 1 = cc in absurd (omega arith)

-- a slice whose front is the new word
pub take_overwritten : (new old : List ℕ) (n : ℕ) → n ≡ length new → take n (overwritten new old) ≡ new
take_overwritten new old n e = take_at new _ n (sym e)

-- ---- a reduction into as many bytes as question 8 lets letters pass, which are room enough for a word that passes question 8

room_enough : (w : List ℕ) → of_word w (1 * length w) most_letters ≡ of_letters w
room_enough w = go (of_letters w) refl
  where
    go : (a : Asked) → of_letters w ≡ a → of_word w (1 * length w) most_letters ≡ a
    go (Ok _) e =
        of_word_room w (1 * length w) most_letters e
        ∙ asks_yes _ OutputTooShort (le-leb (1 * length w) most_letters (omega (arith, of_letters_short w e)))
    go (Err refusal) e = of_word_refused w (1 * length w) most_letters e

module _ (w before after : List ℕ) (r : Result Account Refusal) (h : Reduces w before r after) (room : length before ≡ most_letters) where
  questions : of_word w (1 * length w) (length before) ≡ of_letters w
  questions = ap (of_word w (1 * length w)) room ∙ room_enough w

  pub reduce_refused : {refusal : Refusal} → r ≡ Err refusal → of_letters w ≡ Err refusal
  reduce_refused e =
      sym questions ∙ refused_of_answer (of_word w (1 * length w) (length before)) (length (nf (word w))) (sym h.writes.answer ∙ ap length_of e)

  module _ {account : Account} (e : r ≡ Ok account) where
    told : (of_word w (1 * length w) (length before) ≡ passed) × (account.kept.0 ≡ length (nf (word w)))
    told =
        passed_of_answer (of_word w (1 * length w) (length before)) (length (nf (word w))) (sym h.writes.answer ∙ ap length_of e)

    pub reduce_passed : of_letters w ≡ passed
    reduce_passed = sym questions ∙ told.0

    pub reduce_length : account.kept.0 ≡ length (nf (word w))
    reduce_length = told.1

    pub reduce_form : take account.kept.0 after ≡ bytes (nf (word w))
    reduce_form =
        ap (take account.kept.0) (h.writes.slice ∙ ap (λ (a : Asked). written a (bytes (nf (word w))) before) told.0)
        ∙ take_overwritten (bytes (nf (word w))) before account.kept.0 (reduce_length ∙ sym (length_bytes (nf (word w))))
