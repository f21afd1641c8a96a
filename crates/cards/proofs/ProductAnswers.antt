-- The answer to a bound, a target and a list: where it is refused, and a target that is a normal form. Assumes nothing.
use mathlib.Core.Path.{◌≡◌, refl, sym, ap, subst}
use mathlib.Core.List.{List, [], ◌∷◌}
use Prim.Native.Nat.{ℕ, ◌≤◌, ◌<◌}
use native.Mathlib.Omega.{arith}
use lib.Dec.{leb}
use lib.ListN.{length}
use borrow.Author.Tests.{lt-leb}
use Rattle.limits.specs.Limits.{most_letters, most_of_form}
use Rattle.words.specs.Word.{Word, Normal, nf}
use Rattle.words.specs.Bytes.{word, bytes}
use Rattle.refusals.specs.Questions.{Asked, passed, first_no}
use Rattle.refusals.specs.declared.Refusal.{Refusal}
use Rattle.refusals.specs.declared.Refusal.TheVariants.{NormalFormTooLong}
use Rattle.std.specs.Prelude.{Result, Ok, Err}
use Rattle.refusals.proofs.Asking.{no_first, refused_first}
use Rattle.words.proofs.Bytes.{word_bytes, length_bytes, first_other_bytes}
use Rattle.words.proofs.NormalForm.{nf_of_normal}
use Rattle.products.specs.Product.{generators, plain}
use Rattle.lists.specs.Questions.{of_list, question11}
use Rattle.lists.specs.NormalList.{total}
use Rattle.lists.specs.Reducing.{AllLetters}
use Rattle.sizes.specs.Questions.{side, of_bound, of_tables, of_sizes}
use Rattle.engine.specs.Questions.{of_product}
use Rattle.engine.specs.Calls.{Lent, Judged}
use Rattle.answers.specs.declared.Answer.{Answer}
use Rattle.cards.specs.Card.{list_bytes, list_ends}
use Rattle.cards.specs.Calls.{AnswersProduct}
use Rattle.cards.proofs.LettersBehind.{list_before_letters}

never_passed : (a b : Asked) (refusal : Refusal) → first_no (a ∷ b ∷ Err refusal ∷ []) ≡ passed → ⊥
never_passed (Ok _) (Ok _) refusal e = cc
never_passed (Ok _) (Err other) refusal e = cc
never_passed (Err other) b refusal e = cc

module _ (n : ℕ) (list : List (List ℕ)) where
  abbrev gens : List Word
  gens = generators (list_bytes list) (list_ends 0 list)

  abbrev sizes : Word → Lent → Asked
  sizes target lent = of_sizes (total gens) (length (nf target)) n (length lent.first) (length lent.second) (length lent.witness)

  abbrev asked : List ℕ → Word → Lent → Asked
  asked letters target lent =
      of_product (list_bytes list) (list_ends 0 list) letters target n (length lent.first) (length lent.second) (length lent.witness)

  abbrev q : Word → ℕ
  q target = side (total gens) (length (nf target))

  refused : (letters : List ℕ) (target : Word) (lent : Lent) {refusal : Refusal} → asked letters target lent ≡ Err refusal
      → AnswersProduct n letters target list (Err refusal) lent lent
  refused letters target lent {refusal} e = (
    Err refusal,
    refl,
    subst (λ (a : Asked). Judged a (q target) (plain gens) target n (Err refusal) lent lent) (sym e) (refl, refl),
  )

  pub list_refused : (letters : List ℕ) (target : Word) (lent : Lent) {refusal : Refusal} → of_list (list_bytes list) (list_ends 0 list) letters ≡ Err refusal
      → AnswersProduct n letters target list (Err refusal) lent lent
  list_refused letters target lent e =
      refused letters target lent (refused_first (of_list (list_bytes list) (list_ends 0 list) letters) (question11 gens ∷ sizes target lent ∷ []) e)

  module _ (w : Word) where
    -- a normal form that is too long is answered as letters are that are too long too
    pub long_answered : Normal w → most_of_form < length w → (letters : List ℕ) → length letters ≤ most_letters → AllLetters letters → most_of_form < length (nf (word letters))
        → {r : Result Answer Refusal} (before after : Lent) → AnswersProduct n letters (word letters) list r before after → AnswersProduct n [] w list r before after
    long_answered normal long letters short all too_long before after (v, e, judged) =
        let first = list_before_letters (list_bytes list) (list_ends 0 list) letters short all in
        let its : asked letters (word letters) before ≡ listed =
        (λ i. first_no (first i ∷ question11 gens ∷ twelfth (word letters) too_long before i ∷ [])) in
        let same : asked [] w before ≡ listed =
        ap (λ (a : Asked). first_no (of_list (list_bytes list) (list_ends 0 list) [] ∷ question11 gens ∷ a ∷ []))
        (twelfth w (omega (arith, long, ap length (nf_of_normal w normal))) before) in
        let refuses = alike listed (never_passed (of_list (list_bytes list) (list_ends 0 list) []) (question11 gens) NormalFormTooLong)
        (subst (λ (a : Asked). Judged a (q (word letters)) (plain gens) (word letters) n v before after) its judged) in
        (v, e, subst (λ (a : Asked). Judged a (q w) (plain gens) w n v before after) (sym same) refuses)
      where
        listed : Asked
        listed = first_no (of_list (list_bytes list) (list_ends 0 list) [] ∷ question11 gens ∷ Err NormalFormTooLong ∷ [])

        twelfth : (target : Word) → most_of_form < length (nf target) → (lent : Lent) → sizes target lent ≡ Err NormalFormTooLong
        twelfth target h lent =
            no_first (leb (length (nf target)) most_of_form) NormalFormTooLong
            (of_bound n (length lent.witness) ∷ of_tables (q target) (length lent.first) (length lent.second) ∷ [])
            (lt-leb (length (nf target)) most_of_form h)

        -- a refusal does not speak of the target
        alike : (a : Asked) → (a ≡ passed → ⊥) → Judged a (q (word letters)) (plain gens) (word letters) n v before after → Judged a (q w) (plain gens) w n v before after
        alike (Ok _) h j = absurd (h refl)
        alike (Err refusal) h j = j

    -- the letters of a short word pass their questions
    pub word_answered : length w ≤ most_of_form → {r : Result Answer Refusal} (before after : Lent) → AnswersProduct n (bytes w) (word (bytes w)) list r before after
        → AnswersProduct n [] w list r before after
    word_answered short {r} before after answers =
        let (v, e, judged) = subst (λ (x : Word). AnswersProduct n (bytes w) x list r before after) (word_bytes w) answers in
        let pass = list_before_letters (list_bytes list) (list_ends 0 list) (bytes w) (omega (arith, short, length_bytes w)) (omega (arith, first_other_bytes w)) in
        let same : asked (bytes w) w before ≡ asked [] w before = ap (λ (a : Asked). first_no (a ∷ question11 gens ∷ sizes w before ∷ [])) pass in
        (v, e, subst (λ (a : Asked). Judged a (q w) (plain gens) w n v before after) same judged)
