-- What the call on a card promises. Document 01, "The query card and its program" and "The questions at the door". Assumes nothing: these are
-- definitions.
use Rattle.std.specs.Prelude.{None, Some, Result, Ok, Err, ◌≡◌, List, [], ◌∷◌, ℕ, ◌-◌, length}
use Rattle.words.specs.Word.{Word}
use Rattle.words.specs.Bytes.{word}
use Rattle.refusals.specs.declared.Refusal.{Refusal}
use Rattle.refusals.specs.declared.Refusal.TheVariants.{FieldCut, SpareByte}
use Rattle.refusals.specs.Questions.{Asked}
use Rattle.unimodular.specs.Matrix.{Matrix, NormalFormOf}
use Rattle.matrices.specs.Questions.{of_entries}
use Rattle.engine.specs.Calls.{Lent, Verdict, JudgesProduct}
use Rattle.fields.specs.Field.{Read, Whole, Cut}
use Rattle.cards.specs.Card.{Target, Letters, Entries, Card, card_of, list_bytes, list_ends}
use Rattle.cards.specs.Questions.{of_map}
use Rattle.answers.specs.declared.Answer.{Answer}
use Rattle.answers.specs.declared.Answer.TheVariants.{Member, None as Answer-as-None}

-- a refusal is the answer, and changes nothing lent
abbrev pub Refuses : Refusal → Result Answer Refusal → Lent → Lent → Type 0
Refuses refusal r before after = (r ≡ Err refusal) × (after ≡ before)

-- the engine's verdict as a card's answer: a none goes with the bound
abbrev pub answer_of : ℕ → Verdict → Result Answer Refusal
answer_of n (Ok (Some count)) = Ok (Member count)
answer_of n (Ok None) = Ok (Answer-as-None (record { 0 = n }))
answer_of n (Err refusal) = Err refusal

-- The engine's promise for a bound, a target and a list: `letters` are the target's, where it is given by letters.
abbrev pub AnswersProduct : ℕ → List ℕ → Word → List (List ℕ) → Result Answer Refusal → Lent → Lent → Type 0
AnswersProduct n letters target list r before after =
    (v : Verdict) × (r ≡ answer_of n v) × JudgesProduct (list_bytes list) (list_ends 0 list) letters target n v before after

-- A target that is a matrix puts questions 5 and 6 first; then it is its normal form, which is one word, and puts its question 12 after 11.
abbrev pub AnswersMatrix : Asked → ℕ → Matrix → List (List ℕ) → Result Answer Refusal → Lent → Lent → Type 0
AnswersMatrix (Err refusal) n m list r before after = Refuses refusal r before after
AnswersMatrix (Ok _) n m list r before after = (w : Word) → NormalFormOf m w → AnswersProduct n [] w list r before after

abbrev pub AnswersTarget : ℕ → Target → List (List ℕ) → Result Answer Refusal → Lent → Lent → Type 0
AnswersTarget n (Letters letters) list r before after = AnswersProduct n letters (word letters) list r before after
AnswersTarget n (Entries m) list r before after = AnswersMatrix (of_entries m) n m list r before after

-- 3: "Is every field whole? Place: the card's length." 4: "Does the card end there? Place: the first spare byte." `size` is the card's length.
abbrev pub AnswersRead : ℕ → Read Card → Result Answer Refusal → Lent → Lent → Type 0
AnswersRead size Cut r before after = Refuses (FieldCut size) r before after
AnswersRead size (Whole card (spare ∷ rest)) r before after = Refuses (SpareByte (size - length (spare ∷ rest))) r before after
AnswersRead size (Whole card []) r before after = AnswersTarget card.bound card.target card.list r before after

abbrev pub AnswersMapped : Asked → List ℕ → Result Answer Refusal → Lent → Lent → Type 0
AnswersMapped (Err refusal) card r before after = Refuses refusal r before after
AnswersMapped (Ok _) card r before after = AnswersRead (length card) (card_of card) r before after

-- The call on a card of any bytes.
abbrev pub AnswersCard : List ℕ → Result Answer Refusal → Lent → Lent → Type 0
AnswersCard card r before after = AnswersMapped (of_map card) card r before after
