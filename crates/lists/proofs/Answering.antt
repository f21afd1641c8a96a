-- What is asked of a list that is reduced, by the tests that a program makes, and what its answer then is. Assumes nothing.
use Rattle.std.specs.Prelude.{Ok, Err}
use Rattle.refusals.specs.Questions.{Asked, passed, first_no, question14}
use mathlib.Core.Path.{◌≡◌, refl, sym, ap, ap₂, subst, ◌∙◌}
use mathlib.Core.List.{List, [], ◌∷◌}
use Prim.Native.Nat.{ℕ, ◌≤◌}
use native.Mathlib.Omega.{arith}
use lib.Dec.{leb}
use lib.ListN.{length, take}
use borrow.Author.Tests.{le-leb}
use Rattle.words.specs.Word.{Word}
use Rattle.words.specs.Calls.{written}
use Rattle.refusals.specs.declared.Refusal.{Refusal}
use Rattle.refusals.specs.declared.Refusal.TheVariants.{OutputTooShort}
use Rattle.refusals.proofs.Asking.{asks_yes, yes_first, passed_first, first_no_one, first_no_head, first_no_tail, first_no_passed, first_no_refused}
use Rattle.words.proofs.Answering.{take_overwritten}
use Rattle.products.specs.Product.{generators}
use Rattle.lists.specs.Questions.{of_list, question11}
use Rattle.lists.specs.NormalList.{total, normal_bytes, normal_ends}
use Rattle.lists.specs.Calls.{of_reduced_list, HandsOver}
use Rattle.lists.specs.Reducing.{Checked, of_room}
use Rattle.lists.proofs.NormalList.{normal_bytes_length, normal_ends_length}

-- ---- the questions of the list alone

abbrev pub of_list_alone : List ℕ → List ℕ → Asked
of_list_alone bytes ends = first_no (of_list bytes ends [] ∷ question11 (generators bytes ends) ∷ [])

module _ (bytes ends : List ℕ) where
  abbrev gens : List Word
  gens = generators bytes ends

  module _ (checked : Checked bytes ends) where
    pub by_generators : of_list_alone bytes ends ≡ question11 gens
    by_generators = passed_first (of_list bytes ends []) (question11 gens ∷ []) checked ∙ first_no_one (question11 gens)

  module _ (pass : of_list_alone bytes ends ≡ passed) where
    pub alone_checked : Checked bytes ends
    alone_checked = first_no_head (of_list bytes ends []) (question11 gens ∷ []) pass

    pub alone_short : question11 gens ≡ passed
    alone_short = sym (first_no_one (question11 gens)) ∙ first_no_tail (of_list bytes ends []) (question11 gens ∷ []) pass

-- ---- and then those of room for what is written

module _ (letters ends before before_ends : List ℕ) where
  abbrev for_ends : List Asked
  for_ends = question14 (length ends) (length before_ends) ∷ []

  module _ (fits : length letters ≤ length before) where
    by_ends : of_room letters ends before before_ends ≡ question14 (length ends) (length before_ends)
    by_ends =
        yes_first (leb (length letters) (length before)) OutputTooShort for_ends (le-leb (length letters) (length before) fits)
        ∙ first_no_one (question14 (length ends) (length before_ends))

    pub room_for_both : length ends ≤ length before_ends → of_room letters ends before before_ends ≡ passed
    room_for_both h = by_ends ∙ asks_yes (leb (length ends) (length before_ends)) OutputTooShort (le-leb (length ends) (length before_ends) h)

module _ (words : List Word) (bytes ends before before_ends : List ℕ) where
  abbrev alone : List Asked
  alone = of_list bytes ends [] ∷ question11 (generators bytes ends) ∷ []

  abbrev room : List Asked
  room = question14 (total words) (length before) ∷ question14 (length words) (length before_ends) ∷ []

  abbrev asked : Asked
  asked = of_reduced_list words bytes ends (length before) (length before_ends)

  pub asked_refused : {refusal : Refusal} → of_list_alone bytes ends ≡ Err refusal → asked ≡ Err refusal
  asked_refused e = first_no_refused alone room e

  pub asked_room : of_list_alone bytes ends ≡ passed → asked ≡ of_room (normal_bytes words) (normal_ends 0 words) before before_ends
  asked_room e =
      first_no_passed alone room e
      ∙ ap₂ (λ (letters count : ℕ). first_no (question14 letters (length before) ∷ question14 count (length before_ends) ∷ [])) (sym (normal_bytes_length words)) (sym (normal_ends_length 0 words))

  -- where there is room, the list alone is asked
  pub asked_alone : (of_list_alone bytes ends ≡ passed → (total words ≤ length before) × (length words ≤ length before_ends)) → asked ≡ of_list_alone bytes ends
  asked_alone enough = go (of_list_alone bytes ends) refl
    where
      go : (a : Asked) → of_list_alone bytes ends ≡ a → asked ≡ a
      go (Ok _) e =
          asked_room e
          ∙ room_for_both (normal_bytes words) (normal_ends 0 words) before before_ends (omega (arith, (enough e).0, normal_bytes_length words)) (omega (arith, (enough e).1, normal_ends_length 0 words))
      go (Err refusal) e = asked_refused e

-- ---- a list is handed over

module _ {Answer : Type 0} (answered : Asked → Answer) where
  pub hands : {asked : Asked} (letters ends before before_ends : List ℕ) (told : Asked) → asked ≡ told → {answer : Answer} → answer ≡ answered told → {after after_ends : List ℕ}
      → after ≡ written told letters before → after_ends ≡ written told ends before_ends → HandsOver asked answered letters ends before before_ends answer after after_ends
  hands letters ends before before_ends told e answers writes writes_ends =
      record {
        answer = answers ∙ ap answered (sym e);
        slice = writes ∙ ap (λ (a : Asked). written a letters before) (sym e);
        ends_slice = writes_ends ∙ ap (λ (a : Asked). written a ends before_ends) (sym e);
      }

  -- what was handed over, where room was the only question left, and told by another answer
  pub handed : {asked r told : Asked} (letters ends before before_ends : List ℕ) {new new_ends after after_ends : List ℕ}
      → HandsOver (of_room new new_ends before before_ends) (λ a. a) new new_ends before before_ends r after after_ends → new ≡ letters → new_ends ≡ ends
      → asked ≡ of_room letters ends before before_ends → r ≡ told → {answer : Answer} → answer ≡ answered told → HandsOver asked answered letters ends before before_ends answer after after_ends
  handed {asked} {r} {told} letters ends before before_ends {new} {new_ends} h is ends_is questions e answers =
      let same : of_room new new_ends before before_ends ≡ told = sym h.answer ∙ e in
      hands letters ends before before_ends told (questions ∙ sym (ap₂ (λ (x y : List ℕ). of_room x y before before_ends) is ends_is) ∙ same) answers
      (h.slice ∙ ap₂ (λ (a : Asked) (l : List ℕ). written a l before) same is) (h.ends_slice ∙ ap₂ (λ (a : Asked) (l : List ℕ). written a l before_ends) same ends_is)

  pub same_questions : {asked asked' : Asked} {letters ends before before_ends : List ℕ} {r : Answer} {after after_ends : List ℕ} → asked ≡ asked'
      → HandsOver asked' answered letters ends before before_ends r after after_ends → HandsOver asked answered letters ends before before_ends r after after_ends
  same_questions {letters = letters} {ends} {before} {before_ends} {r} {after} {after_ends} e h =
      subst (λ (q : Asked). HandsOver q answered letters ends before before_ends r after after_ends) (sym e) h

-- what was written stands in front
pub written_front : {asked : Asked} (new before : List ℕ) {after : List ℕ} → asked ≡ passed → after ≡ written asked new before → (n : ℕ) → n ≡ length new → take n after ≡ new
written_front new before e h n l = ap (take n) (h ∙ ap (λ (a : Asked). written a new before) e) ∙ take_overwritten new before n l
