-- Letters behind a list's bytes: a target whose bytes are letters changes none of the list's questions. Assumes nothing.
use mathlib.Core.Path.{◌≡◌, sym, ap, ◌∙◌}
use mathlib.Core.List.{List, [], ◌∷◌, ◌++◌, append-nil}
use Prim.Native.Nat.{ℕ, ◌≤◌}
use native.Mathlib.Nat.{lt_of_not-le}
use native.Mathlib.Decide.{dec_le}
use native.Mathlib.Omega.{arith}
use lib.Dec.{leb}
use lib.ListN.{length, length-append}
use borrow.Author.Tests.{le-leb, lt-leb}
use Rattle.limits.specs.Limits.{most_letters}
use Rattle.refusals.specs.Questions.{Asked, passed, first_no, first_other, question8, question10}
use Rattle.refusals.specs.declared.Refusal.TheVariants.{TooManyLetters, NotALetter}
use Rattle.std.specs.Prelude.{Err}
use Rattle.refusals.proofs.Asking.{asks_yes, asks_no}
use Rattle.lists.specs.Questions.{question7, question9, of_list}
use Rattle.lists.specs.Reducing.{AllLetters}
use Rattle.lists.proofs.FirstOthers.{first_other_front, first_other_behind}

letters_pass : (bs : List ℕ) → AllLetters bs → question10 bs ≡ passed
letters_pass bs h = asks_yes (leb (length bs) (first_other bs)) (NotALetter (first_other bs)) (le-leb (length bs) (first_other bs) h)

letters_behind : (bytes target : List ℕ) → AllLetters target → question10 (bytes ++ target) ≡ question10 bytes
letters_behind bytes target h =
    let both = bytes ++ target in
    elim (dec_le (length bytes) (first_other bytes)) [
      | yes k ↦ letters_pass both (omega (arith, h, first_other_behind bytes target k, length-append bytes target)) ∙ sym (letters_pass bytes k)
      | no k ↦
          let place = first_other_front bytes target (lt_of_not-le k) in
          asks_no (leb (length both) (first_other both)) (NotALetter (first_other both))
          (lt-leb (length both) (first_other both) (omega (arith, place, lt_of_not-le k, length-append bytes target)))
          ∙ ap (λ (at : ℕ). Err (NotALetter at)) place
          ∙ sym (asks_no (leb (length bytes) (first_other bytes)) (NotALetter (first_other bytes)) (lt-leb (length bytes) (first_other bytes) (lt_of_not-le k)))
    ]

pub list_before_letters : (bytes ends target : List ℕ) → length target ≤ most_letters → AllLetters target → of_list bytes ends target ≡ of_list bytes ends []
list_before_letters bytes ends target short h =
    let first : Asked → Asked → Asked = λ eighth tenth. first_no (question7 (length ends) ∷ question8 (length bytes) ∷ eighth ∷ question9 ends (length bytes) ∷ tenth ∷ []) in
    ap (λ (a : Asked). first a (question10 (bytes ++ target))) (asks_yes (leb (length target) most_letters) TooManyLetters (le-leb (length target) most_letters short))
    ∙ ap (first passed) (letters_behind bytes target h ∙ ap question10 (sym (append-nil bytes)))
