-- The list behind its first i generators, as a loop over the ends meets it. Assumes nothing.
use mathlib.Core.Bool.{Bool, true, false}
use mathlib.Core.Path.{◌≡◌, refl, sym, ap, subst, ◌∙◌}
use mathlib.Core.List.{List, [], ◌∷◌, append-nil}
use Prim.Native.Nat.{ℕ, suc, ◌+◌, ◌≤◌, ◌<◌}
use native.Mathlib.Numerals.{add-one}
use native.Mathlib.Omega.{arith}
use lib.Dec.{leb}
use lib.ListN.{length, drop, get_or}
use lib.Seq.{slice, drop-cons}
use borrow.Author.Tests.{le-leb, lt-leb}
use Rattle.limits.specs.Limits.{most_of_generator, most_of_list}
use Rattle.words.specs.Word.{Word, nf}
use Rattle.words.specs.Bytes.{word}
use Rattle.refusals.specs.Telling.{pick}
use Rattle.products.specs.Product.{generators_from}
use Rattle.std.specs.Prelude.{Err}
use Rattle.refusals.specs.Questions.{passed}
use Rattle.refusals.specs.declared.Refusal.TheVariants.{GeneratorTooLong}
use Rattle.refusals.proofs.Asking.{asks_yes, asks_no}
use Rattle.lists.specs.Questions.{last_end, first_long, question11}
use Rattle.lists.specs.Reducing.{AllLetters, Checked}
use Rattle.lists.proofs.Rising.{Rising, next, rising_of, rising_last}
use Rattle.lists.proofs.Passing.{list_passed}

-- `from` is the end before generator i
pub record Behind (bytes ends : List ℕ) (from i : ℕ) : Type 0 where
  pub rising : Rising from (drop i ends)
  pub last : last_end from (drop i ends) ≡ length bytes

pub behind_begins : (bytes ends : List ℕ) → Checked bytes ends → Behind bytes ends 0 0
behind_begins bytes ends checked = let p = list_passed bytes ends [] checked in record { rising = rising_of 0 ends p.none_falls; last = p.last }

pub checked_letters : (bytes ends : List ℕ) → Checked bytes ends → AllLetters bytes
checked_letters bytes ends checked = subst AllLetters (append-nil bytes) (list_passed bytes ends [] checked).letters

head_rises : {from end : ℕ} {ends : List ℕ} → Rising from (end ∷ ends) → from ≤ end
head_rises (next h r) = h

tail_rises : {from end : ℕ} {ends : List ℕ} → Rising from (end ∷ ends) → Rising end ends
tail_rises (next h r) = r

-- generator i runs from `from` up to `end`
module _ (bytes ends : List ℕ) (from i : ℕ) (h : i < length ends) {end : ℕ} (e : end ≡ get_or ends i 0) where
  next_end : drop i ends ≡ end ∷ drop (i + 1) ends
  next_end = rw (add-one i, e) (drop-cons ends i 0 h)

  pub generators_next : generators_from bytes from (drop i ends) ≡ word (slice from end bytes) ∷ generators_from bytes end (drop (i + 1) ends)
  generators_next = ap (generators_from bytes from) next_end

  module _ (b : Behind bytes ends from i) where
    split : Rising from (end ∷ drop (i + 1) ends)
    split = subst (Rising from) next_end b.rising

    pub behind_from : from ≤ end
    behind_from = head_rises split

    pub behind_next : Behind bytes ends end (i + 1)
    behind_next = record { rising = tail_rises split; last = sym (ap (last_end from) next_end) ∙ b.last }

    pub behind_within : end ≤ length bytes
    behind_within = let n = behind_next in omega (arith, rising_last n.rising, n.last)

-- ---- the search for the first generator that is too long

either_way : (b : Bool) (n : ℕ) → pick b n n ≡ n
either_way true n = refl
either_way false n = refl

-- the next generator is g, whose normal form has `len` letters
module _ (sum : ℕ) {all : List Word} (g : Word) (rest : List Word) (splits : all ≡ g ∷ rest) {len : ℕ} (l : len ≡ length (nf g)) where
  pub long_form : most_of_generator < len → first_long sum all ≡ 0
  long_form h = ap (first_long sum) splits ∙ simp (lt-leb (length (nf g)) most_of_generator (omega arith))

  pub long_sum : most_of_list < sum + len → first_long sum all ≡ 0
  long_sum k = ap (first_long sum) splits ∙ simp (lt-leb (sum + length (nf g)) most_of_list (omega arith)) (either_way (leb (length (nf g)) most_of_generator) 0)

  pub long_later : len ≤ most_of_generator → sum + len ≤ most_of_list → first_long sum all ≡ suc (first_long (sum + len) rest)
  long_later h k = ap (first_long sum) splits ∙ rw l (simp (le-leb (length (nf g)) most_of_generator (omega arith), le-leb (sum + length (nf g)) most_of_list (omega arith)))

-- question 11, by that search
pub question11_no : (gens : List Word) (i : ℕ) → first_long 0 gens ≡ i → i < length gens → question11 gens ≡ Err (GeneratorTooLong i)
question11_no gens i e h = rw e (asks_no (leb (length gens) i) (GeneratorTooLong i) (lt-leb (length gens) i h))

pub question11_yes : (gens : List Word) → length gens ≤ first_long 0 gens → question11 gens ≡ passed
question11_yes gens h = asks_yes (leb (length gens) (first_long 0 gens)) (GeneratorTooLong (first_long 0 gens)) (le-leb (length gens) (first_long 0 gens) h)
