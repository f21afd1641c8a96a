-- The answer to a bound, a matrix and a list, from the answer when the matrix is turned into its normal form. Assumes nothing.
use Rattle.refusals.specs.Questions.{Asked, passed}
use mathlib.Core.Path.{◌≡◌, refl, sym, ap, subst, ◌∙◌}
use mathlib.Core.List.{List, []}
use Prim.Native.Nat.{ℕ, ◌≤◌}
use lib.ListN.{length, take}
use Rattle.limits.specs.Limits.{most_of_form}
use Rattle.words.specs.Word.{Word}
use Rattle.words.specs.Bytes.{word}
use Rattle.words.specs.declared.Letters.{Letters}
use Rattle.refusals.specs.declared.Refusal.{Refusal}
use Rattle.refusals.specs.declared.Refusal.TheVariants.{NormalFormTooLong}
use Rattle.std.specs.Prelude.{Result, Ok, Err}
use Rattle.unimodular.specs.Matrix.{Matrix, NormalFormOf}
use Rattle.matrices.specs.Questions.{of_entries}
use Rattle.matrices.specs.Calls.{TurnsMatrix}
use Rattle.matrices.proofs.TurnedMatrix.{turned_refused, turned_too_long, turned_entries, turned_short, turned_bytes}
use Rattle.engine.specs.Calls.{Lent}
use Rattle.answers.specs.declared.Answer.{Answer}
use Rattle.cards.specs.Calls.{AnswersProduct, AnswersMatrix}
use Rattle.cards.proofs.LongForms.{t41, t41_short, t41_letters, t41_too_long}
use Rattle.cards.proofs.ProductAnswers.{long_answered, word_answered}

module _ (m : Matrix) (before after : List ℕ) (written : Result Letters Refusal) (h : TurnsMatrix m before written after) (n : ℕ) (list : List (List ℕ)) where
  -- where questions 5 and 6 pass
  entries_pass : {r : Result Answer Refusal} (lent left : Lent) → of_entries m ≡ passed → ((w : Word) → NormalFormOf m w → AnswersProduct n [] w list r lent left)
      → AnswersMatrix (of_entries m) n m list r lent left
  entries_pass {r} lent left e answers = subst (λ (a : Asked). AnswersMatrix a n m list r lent left) (sym e) answers

  -- the letters that were written are answered
  pub form_answered : {l : Letters} → written ≡ Ok l → {r : Result Answer Refusal} (lent left : Lent)
      → AnswersProduct n (take l.0 after) (word (take l.0 after)) list r lent left → AnswersMatrix (of_entries m) n m list r lent left
  form_answered e {r} lent left answers =
      entries_pass lent left (turned_entries m before after written h e)
      (λ w p. word_answered n list w (turned_short m before after written h e w p) lent left
      (subst (λ (letters : List ℕ). AnswersProduct n letters (word letters) list r lent left) (turned_bytes m before after written h e w p) answers))

  module _ (room : most_of_form ≤ length before) (lent : Lent) where
    pub form_too_long : written ≡ Err NormalFormTooLong → {r : Result Answer Refusal} (left : Lent) → AnswersProduct n t41 (word t41) list r lent left
        → AnswersMatrix (of_entries m) n m list r lent left
    form_too_long e left answers =
        let passes = turned_too_long m before after written h e in
        entries_pass lent left passes
        (λ w p. long_answered n list w p.normal (turned_refused m before after written h e passes room w p).0 t41 t41_short t41_letters t41_too_long lent left answers)

    -- any other refusal is one by question 5 or 6
    pub entries_refused : {refusal : Refusal} → written ≡ Err refusal → (refusal ≡ NormalFormTooLong → ⊥)
        → AnswersMatrix (of_entries m) n m list (Err refusal) lent lent
    entries_refused {refusal} e other = go (of_entries m) refl
      where
        go : (a : Asked) → of_entries m ≡ a → AnswersMatrix a n m list (Err refusal) lent lent
        go (Ok _) f = λ w p. absurd (other (turned_refused m before after written h e f room w p).1)
        go (Err same) f =
            let k : ◌≡◌ {A = Result Letters Refusal} (Err refusal) (Err same) = sym e ∙ (h.refuses same f).0 in
            let l : refusal ≡ same = cc in
            (ap Err l, refl)
