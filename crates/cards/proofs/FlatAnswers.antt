-- What a flattened list is answered, by the tests of questions 7 and 8. Assumes nothing.
use mathlib.Core.Path.{◌≡◌, refl, sym, ap, subst, ◌∙◌}
use mathlib.Core.List.{List, [], ◌∷◌}
use Prim.Native.Nat.{ℕ, ◌≤◌, ◌<◌}
use lib.Dec.{leb}
use lib.ListN.{length}
use borrow.Author.Tests.{le-leb, lt-leb, leb-true}
use Rattle.std.specs.Prelude.{Result, Ok, Err}
use Rattle.limits.specs.Limits.{most_generators, most_letters}
use Rattle.refusals.specs.Questions.{Asked, first_no, question8}
use Rattle.words.specs.declared.Letters.{Letters}
use Rattle.words.specs.Calls.{length_or}
use Rattle.words.proofs.Answering.{refused_of_answer, passed_of_answer}
use Rattle.refusals.specs.declared.Refusal.{Refusal}
use Rattle.refusals.specs.declared.Refusal.TheVariants.{TooManyGenerators, TooManyLetters}
use Rattle.refusals.proofs.Asking.{yes_first, no_first, asks_passed, first_no_one}
use Rattle.lists.specs.Questions.{question7}
use Rattle.cards.specs.Card.{list_bytes}
use Rattle.cards.specs.Flattening.{WritesList, FlatRight, Flattens}

module _ (list : List (List ℕ)) where
  abbrev letters : ℕ
  letters = length (list_bytes list)

  -- where a length is answered, question 8 is answered yes
  pub letters_short : {total : Letters} → ◌≡◌ {A = Result Letters Refusal} (Ok total) (length_or (question8 letters) letters) → letters ≤ most_letters
  letters_short e =
      leb-true letters most_letters (asks_passed (leb letters most_letters) TooManyLetters (passed_of_answer (question8 letters) letters (sym e)).0)

  module _ (before before_ends : List ℕ) where
    -- what is asked
    abbrev asked : Asked
    asked = first_no (question7 (length list) ∷ question8 letters ∷ [])

    refused : {refusal : Refusal} → asked ≡ Err refusal → Flattens list (Err refusal) before before before_ends before_ends
    refused {refusal} e = subst (λ (a : Asked). FlatRight a list (Err refusal) before before before_ends before_ends) (sym e) (refl, refl, refl)

    few : length list ≤ most_generators → asked ≡ question8 letters
    few h =
        yes_first (leb (length list) most_generators) TooManyGenerators (question8 letters ∷ []) (le-leb (length list) most_generators h)
        ∙ first_no_one (question8 letters)

    pub too_many_generators : most_generators < length list → Flattens list (Err TooManyGenerators) before before before_ends before_ends
    too_many_generators h = refused (no_first (leb (length list) most_generators) TooManyGenerators (question8 letters ∷ []) (lt-leb (length list) most_generators h))

    -- by what is answered when the letters are counted
    pub letters_refused : {refusal : Refusal} → length list ≤ most_generators → ◌≡◌ {A = Result Letters Refusal} (Err refusal) (length_or (question8 letters) letters)
        → Flattens list (Err refusal) before before before_ends before_ends
    letters_refused h e = refused (few h ∙ refused_of_answer (question8 letters) letters (sym e))

    pub flattened : {total : Letters} {after after_ends : List ℕ} → length list ≤ most_generators
        → ◌≡◌ {A = Result Letters Refusal} (Ok total) (length_or (question8 letters) letters) → WritesList list before after before_ends after_ends
        → Flattens list (Ok total) before after before_ends after_ends
    flattened {total} {after} {after_ends} h e writes =
        let passes = (passed_of_answer (question8 letters) letters (sym e)).0 in
        subst (λ (a : Asked). FlatRight a list (Ok total) before after before_ends after_ends) (sym (few h ∙ passes))
        (e ∙ ap (λ (a : Asked). length_or a letters) passes, writes.letters, writes.ends)
