-- The answer to a card has its factors: a member counts one or more, and they stand in front of the witness. So `answers::write_line` finds none missing in
-- it, and what it writes is never `member 0` (`no_member_0` of Rattle.answers). Assumes nothing.
use Rattle.refusals.specs.Questions.{Asked}
use mathlib.Core.Bool.{true}
use mathlib.Core.Path.{◌≡◌, refl, ap}
use mathlib.Core.List.{List, [], ◌∷◌}
use Prim.Native.Nat.{ℕ}
use native.Mathlib.Omega.{arith}
use lib.ListN.{length, take, drop, take-append-drop, length-append}
use Rattle.words.specs.Word.{Word, nf}
use Rattle.refusals.specs.declared.Refusal.{Refusal}
use Rattle.std.specs.Prelude.{None, Some, Result, Ok, Err}
use Rattle.unimodular.specs.Matrix.{Matrix}
use Rattle.unimodular.proofs.Descent.{normal_form_exists}
use Rattle.matrices.specs.Questions.{of_entries}
use Rattle.matrices.proofs.Range.{passed_determinant}
use Rattle.products.specs.Product.{Family, generators, plain}
use Rattle.lists.specs.NormalList.{total}
use Rattle.sizes.specs.Questions.{side}
use Rattle.engine.specs.Questions.{of_product}
use Rattle.engine.specs.Calls.{Lent, Verdict, VerdictRight, Judged}
use Rattle.engine.proofs.Relations.{member_counts}
use Rattle.fields.specs.Field.{Read, Whole, Cut}
use Rattle.answers.specs.Calls.{witnessed}
use Rattle.answers.specs.declared.Answer.{Answer}
use Rattle.answers.proofs.Members.{member_witnessed}
use Rattle.cards.specs.Card.{Target, Letters, Entries, Card, card_of, list_bytes, list_ends}
use Rattle.cards.specs.Questions.{of_map}
use Rattle.cards.specs.Calls.{Refuses, answer_of, AnswersProduct, AnswersMatrix, AnswersTarget, AnswersRead, AnswersMapped, AnswersCard}

module _ (before after : Lent) where
  -- a verdict that is right, as an answer
  right_witnessed : (family : Family) (target : Word) (n : ℕ) (v : Verdict) → VerdictRight family target n v before.witness after.witness
      → witnessed (answer_of n v) after.witness ≡ true
  right_witnessed family target n (Ok (Some count)) right =
      let long = ap length (take-append-drop count.0 after.witness) in
      let sum = length-append (take count.0 after.witness) (drop count.0 after.witness) in
      member_witnessed count after.witness (member_counts family target before.witness after.witness n count right)
      (omega (arith, right.0.counts))
  right_witnessed family target n (Ok None) right = refl
  right_witnessed family target n (Err refusal) right = refl

  judged_witnessed : (asked : Asked) (q : ℕ) (family : Family) (target : Word) (n : ℕ) (v : Verdict) → Judged asked q family target n v before after
      → witnessed (answer_of n v) after.witness ≡ true
  judged_witnessed (Err refusal) q family target n v judged = rw judged.0 refl
  judged_witnessed (Ok _) q family target n v judged = right_witnessed family target n v judged.0

  module _ (r : Result Answer Refusal) where
    abbrev HasFactors : Type 0
    HasFactors = witnessed r after.witness ≡ true

    refusal_witnessed : (refusal : Refusal) → Refuses refusal r before after → HasFactors
    refusal_witnessed refusal refuses = rw refuses.0 refl

    product_witnessed : (n : ℕ) (letters : List ℕ) (target : Word) (list : List (List ℕ)) → AnswersProduct n letters target list r before after → HasFactors
    product_witnessed n letters target list (v, is, judged) =
        let bytes = list_bytes list in
        let ends = list_ends 0 list in
        let gens = generators bytes ends in
        rw is
        (judged_witnessed (of_product bytes ends letters target n (length before.first) (length before.second) (length before.witness))
        (side (total gens) (length (nf target))) (plain gens) target n v judged)

    matrix_witnessed : (asked : Asked) (n : ℕ) (m : Matrix) (list : List (List ℕ)) → of_entries m ≡ asked → AnswersMatrix asked n m list r before after → HasFactors
    matrix_witnessed (Err refusal) n m list e answers = refusal_witnessed refusal answers
    matrix_witnessed (Ok _) n m list e answers =
        let (w, form) = normal_form_exists m (passed_determinant m e) in product_witnessed n [] w list (answers w form)

    target_witnessed : (n : ℕ) (target : Target) (list : List (List ℕ)) → AnswersTarget n target list r before after → HasFactors
    target_witnessed n (Letters letters) list answers = product_witnessed n letters _ list answers
    target_witnessed n (Entries m) list answers = matrix_witnessed (of_entries m) n m list refl answers

    read_witnessed : (size : ℕ) (read : Read Card) → AnswersRead size read r before after → HasFactors
    read_witnessed size Cut answers = refusal_witnessed _ answers
    read_witnessed size (Whole card (spare ∷ rest)) answers = refusal_witnessed _ answers
    read_witnessed size (Whole card []) answers = target_witnessed card.bound card.target card.list answers

    mapped_witnessed : (asked : Asked) (card : List ℕ) → AnswersMapped asked card r before after → HasFactors
    mapped_witnessed (Err refusal) card answers = refusal_witnessed refusal answers
    mapped_witnessed (Ok _) card answers = read_witnessed (length card) (card_of card) answers

    pub answer_witnessed : (card : List ℕ) → AnswersCard card r before after → witnessed r after.witness ≡ true
    answer_witnessed card answers = mapped_witnessed (of_map card) card answers
