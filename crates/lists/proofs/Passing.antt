-- What it says that a list and a target have passed questions 7 to 10. Assumes nothing.
use Rattle.refusals.specs.Questions.{Asked, passed, asks, first_no, first_other, question8, question10, of_letters}
use mathlib.Core.Path.{◌≡◌, sym, subst, ◌∙◌}
use mathlib.Core.List.{List, [], ◌∷◌, ◌++◌, append-nil}
use Prim.Native.Nat.{ℕ, ◌≤◌}
use native.Mathlib.Omega.{arith}
use lib.Dec.{leb, eqb}
use lib.ListN.{length}
use borrow.Author.Tests.{leb-true, le-leb, eqb-true}
use Rattle.limits.specs.Limits.{most_generators, most_letters}
use Rattle.refusals.specs.declared.Refusal.TheVariants.{TooManyGenerators, TooManyLetters, EndsWrong, NotALetter}
use Rattle.refusals.proofs.Asking.{asks_yes, asks_passed, yes_first, first_no_head, first_no_tail, first_no_one}
use Rattle.lists.specs.Questions.{question7, first_fall, last_end, question9, of_list}
use Rattle.lists.specs.Reducing.{AllLetters, Checked}
use Rattle.lists.proofs.FirstOthers.{all_letters_front, all_letters_behind}
use Rattle.lists.proofs.Refusing.{ends_right, by_letters}

pub record ListPassed (bytes ends target : List ℕ) : Type 0 where
  pub few : length ends ≤ most_generators
  pub short : length bytes ≤ most_letters
  pub target_short : length target ≤ most_letters
  pub none_falls : length ends ≤ first_fall 0 ends
  pub last : last_end 0 ends ≡ length bytes
  pub letters : AllLetters (bytes ++ target)

pub list_passed : (bytes ends target : List ℕ) → of_list bytes ends target ≡ passed → ListPassed bytes ends target
list_passed bytes ends target e =
    let from10 : List Asked = question10 (bytes ++ target) ∷ [] in
    let from9 : List Asked = question9 ends (length bytes) ∷ from10 in
    let from8 : List Asked = question8 (length target) ∷ from9 in
    let e8 : first_no (question8 (length bytes) ∷ from8) ≡ passed = first_no_tail (question7 (length ends)) (question8 (length bytes) ∷ from8) e in
    let e8t : first_no from8 ≡ passed = first_no_tail (question8 (length bytes)) from8 e8 in
    let e9 : first_no from9 ≡ passed = first_no_tail (question8 (length target)) from9 e8t in
    let e10 : first_no from10 ≡ passed = first_no_tail (question9 ends (length bytes)) from10 e9 in
    let right : question9 ends (length bytes) ≡ passed = first_no_head (question9 ends (length bytes)) from10 e9 in
    let fall : Asked = asks (leb (length ends) (first_fall 0 ends)) (EndsWrong (first_fall 0 ends)) in
    let ending : Asked = asks (eqb (last_end 0 ends) (length bytes)) (EndsWrong (length ends)) in
    record {
      few = leb-true (length ends) most_generators (asks_passed (leb (length ends) most_generators) TooManyGenerators (first_no_head (question7 (length ends)) (question8 (length bytes) ∷ from8) e));
      short = leb-true (length bytes) most_letters (asks_passed (leb (length bytes) most_letters) TooManyLetters (first_no_head (question8 (length bytes)) from8 e8));
      target_short = leb-true (length target) most_letters (asks_passed (leb (length target) most_letters) TooManyLetters (first_no_head (question8 (length target)) from9 e8t));
      none_falls = leb-true (length ends) (first_fall 0 ends) (asks_passed (leb (length ends) (first_fall 0 ends)) (EndsWrong (first_fall 0 ends)) (first_no_head fall (ending ∷ []) right));
      last =
          eqb-true (last_end 0 ends) (length bytes)
          (asks_passed (eqb (last_end 0 ends) (length bytes)) (EndsWrong (length ends)) (sym (first_no_one ending) ∙ first_no_tail fall (ending ∷ []) right));
      letters =
          leb-true (length (bytes ++ target)) (first_other (bytes ++ target))
          (asks_passed (leb (length (bytes ++ target)) (first_other (bytes ++ target))) (NotALetter (first_other (bytes ++ target))) (sym (first_no_one (question10 (bytes ++ target))) ∙ e10));
    }

-- what has passed together has passed alone
module _ (bytes ends target : List ℕ) (pass : of_list bytes ends target ≡ passed) where
  pub list_alone : Checked bytes ends
  list_alone =
      let p = list_passed bytes ends target pass in
      let letters = subst AllLetters (sym (append-nil bytes)) (all_letters_front bytes target p.letters) in
      by_letters bytes ends [] p.few p.short (omega arith) (ends_right ends (length bytes) p.none_falls p.last)
      ∙ asks_yes (leb (length (bytes ++ [])) (first_other (bytes ++ []))) (NotALetter (first_other (bytes ++ []))) (le-leb _ _ letters)

  pub target_alone : of_letters target ≡ passed
  target_alone =
      let p = list_passed bytes ends target pass in
      yes_first (leb (length target) most_letters) TooManyLetters (question10 target ∷ []) (le-leb (length target) most_letters p.target_short)
      ∙ yes_first (leb (length target) (first_other target)) (NotALetter (first_other target)) []
      (le-leb (length target) (first_other target) (all_letters_behind bytes target p.letters))
