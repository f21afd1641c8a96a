-- Questions 5 and 6: what a yes says. Question 16 asks the same of the entries as question 5.
-- Assumes nothing.
use mathlib.Core.Path.{◌≡◌, refl, sym, ap, ◌∙◌}
use mathlib.Core.Bool.{Bool, true, false, false≢true}
use mathlib.Core.List.{[], ◌∷◌}
use Prim.Native.Nat.{◌*◌, ◌≤◌}
use native.Mathlib.Nat.{mul-le-mul}
use lib.IntN.{ℤ, pos, negsuc, nat_abs}
use borrow.Author.Tests.{le-leb, leb-true, eqb-true}
use Rattle.unimodular.specs.Matrix.{Matrix, determinant}
use Rattle.refusals.specs.Telling.{pick}
use Rattle.refusals.specs.Questions.{Asked, passed, asks, first_no}
use Rattle.refusals.specs.declared.Refusal.TheVariants.{EntryTooLarge, DeterminantNotOne, MatrixTooLarge}
use Rattle.std.specs.Prelude.{Ok, Err}
use Rattle.refusals.proofs.Asking.{asks_passed, first_no_one, first_no_head}
use Rattle.matrices.specs.Questions.{largest_entry, in_range, question5, is_one, question6, question16, of_entries}

-- ---- four entries

-- question 5 by its four answers
abbrev pub by_answers : Bool → Bool → Bool → Bool → Asked
by_answers s t u v = first_no (asks s (EntryTooLarge 0) ∷ asks t (EntryTooLarge 1) ∷ asks u (EntryTooLarge 2) ∷ asks v (EntryTooLarge 3) ∷ [])

-- each entry is at most that large
pub record Small (m : Matrix) : Type 0 where
  pub a_small : nat_abs m.a ≤ largest_entry
  pub b_small : nat_abs m.b ≤ largest_entry
  pub c_small : nat_abs m.c ≤ largest_entry
  pub d_small : nat_abs m.d ≤ largest_entry

all_yes : (s t u v : Bool) → by_answers s t u v ≡ passed → (s ≡ true) × (t ≡ true) × (u ≡ true) × (v ≡ true)
all_yes true true true true e = (refl, refl, refl, refl)
all_yes true true true false e = absurd (cc)
all_yes true true false v e = absurd (cc)
all_yes true false u v e = absurd (cc)
all_yes false t u v e = absurd (cc)

-- question 16 by what question 5 says of the same entries
abbrev pub sixteen : Asked → Asked
sixteen (Ok _) = passed
sixteen (Err refusal) = Err MatrixTooLarge

same_range : (s t u v : Bool) → asks (pick s (pick t (pick u v false) false) false) MatrixTooLarge ≡ sixteen (by_answers s t u v)
same_range true true true true = refl
same_range true true true false = refl
same_range true true false v = refl
same_range true false u v = refl
same_range false t u v = refl

module _ (m : Matrix) where
  pub question16_by_5 : question16 m ≡ sixteen (question5 m)
  question16_by_5 = same_range (in_range m.a) (in_range m.b) (in_range m.c) (in_range m.d)

  pub small_of_passed : question5 m ≡ passed → Small m
  small_of_passed e =
      let all = all_yes (in_range m.a) (in_range m.b) (in_range m.c) (in_range m.d) e in
      record {
        a_small = leb-true (nat_abs m.a) largest_entry all.0;
        b_small = leb-true (nat_abs m.b) largest_entry all.1;
        c_small = leb-true (nat_abs m.c) largest_entry all.2;
        d_small = leb-true (nat_abs m.d) largest_entry all.3;
      }

  pub passed_of_small : Small m → question5 m ≡ passed
  passed_of_small s =
      λ i. by_answers (in-range m.a s.a_small i) (in-range m.b s.b_small i) (in-range m.c s.c_small i) (in-range m.d s.d_small i)
    where
      in-range : (x : ℤ) → nat_abs x ≤ largest_entry → in_range x ≡ true
      in-range x h = le-leb (nat_abs x) largest_entry h

-- the products that a determinant is the difference of
pub product_small : (x y : ℤ) → nat_abs x ≤ largest_entry → nat_abs y ≤ largest_entry → nat_abs x * nat_abs y ≤ largest_entry * largest_entry
product_small x y h k = mul-le-mul h k

-- ---- questions 5 and 6

module _ (m : Matrix) where
  pub entries_in_range : question5 m ≡ passed → of_entries m ≡ question6 m
  entries_in_range e = ap (λ (q : Asked). first_no (q ∷ question6 m ∷ [])) e ∙ first_no_one (question6 m)

  -- what a yes to both says
  pub passed_in_range : of_entries m ≡ passed → question5 m ≡ passed
  passed_in_range e = first_no_head (question5 m) (question6 m ∷ []) e

  pub passed_determinant : of_entries m ≡ passed → determinant m ≡ pos 1
  passed_determinant e =
      one (determinant m)
      (asks_passed (is_one (determinant m)) DeterminantNotOne (sym (entries_in_range (passed_in_range e)) ∙ e))
    where
      one : (x : ℤ) → is_one x ≡ true → x ≡ pos 1
      one (pos n) k = ap pos (eqb-true n 1 k)
      one (negsuc n) k = absurd (false≢true k)

  pub entries_passed : question5 m ≡ passed → determinant m ≡ pos 1 → of_entries m ≡ passed
  entries_passed e k = entries_in_range e ∙ ap (λ (z : ℤ). asks (is_one z) DeterminantNotOne) k
