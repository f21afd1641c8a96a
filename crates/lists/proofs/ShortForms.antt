-- How long the normal forms are of generators that pass question 11, and those of their inverses.
--     form_short        each generator's has at most 80 letters
--     total_short       all the generators' together have at most 320
--     signed_short      these and the inverses' together have at most 832, where the generators are at most 64
-- Assumes nothing.
use Rattle.refusals.specs.Questions.{passed}
use mathlib.Core.Bool.{Bool, true, false}
use mathlib.Core.Path.{◌≡◌, refl}
use mathlib.Core.List.{List, [], ◌∷◌}
use Prim.Native.Nat.{ℕ, zero, suc, ◌+◌, ◌*◌, ◌≤◌, ◌<◌}
use native.Mathlib.Nat.{not-suc-le-zero, le_of_suc-le-suc}
use native.Mathlib.Omega.{arith}
use lib.Dec.{leb}
use lib.ListN.{length, get_or}
use borrow.Author.Tests.{leb-true}
use Rattle.limits.specs.Limits.{most_generators, most_of_generator, most_of_list, most_of_signed_list}
use Rattle.refusals.specs.Telling.{pick}
use Rattle.refusals.specs.declared.Refusal.TheVariants.{GeneratorTooLong}
use Rattle.refusals.proofs.Asking.{asks_passed}
use Rattle.words.specs.Word.{Word, nf}
use Rattle.words.proofs.Inverse.{inverse_form_short}
use Rattle.products.specs.Product.{inverses, with_inverses}
use Rattle.lists.specs.Questions.{first_long, question11}
use Rattle.lists.specs.NormalList.{total}
use Rattle.lists.proofs.NormalList.{total_append}

-- no generator is too long, nor is the sum up to it; `sum` is that of the generators before
data Short : ℕ → List Word → Type 0 where
  none : {sum : ℕ} → Short sum []
  next : {sum : ℕ} {g : Word} {gens : List Word} → length (nf g) ≤ most_of_generator → sum + length (nf g) ≤ most_of_list → Short (sum + length (nf g)) gens → Short sum (g ∷ gens)

short_by : (sum : ℕ) (g : Word) (gens : List Word) (a b : Bool) → leb (length (nf g)) most_of_generator ≡ a → leb (sum + length (nf g)) most_of_list ≡ b
    → (length gens ≤ first_long (sum + length (nf g)) gens → Short (sum + length (nf g)) gens)
    → suc (length gens) ≤ pick a (pick b (suc (first_long (sum + length (nf g)) gens)) 0) 0 → Short sum (g ∷ gens)
short_by sum g gens true true e f later h = next (leb-true (length (nf g)) most_of_generator e) (leb-true (sum + length (nf g)) most_of_list f) (later (le_of_suc-le-suc h))
short_by sum g gens true false e f later h = absurd (not-suc-le-zero h)
short_by sum g gens false b e f later h = absurd (not-suc-le-zero h)

short_of : (sum : ℕ) (gens : List Word) → length gens ≤ first_long sum gens → Short sum gens
short_of sum [] h = none
short_of sum (g ∷ gens) h =
    short_by sum g gens (leb (length (nf g)) most_of_generator) (leb (sum + length (nf g)) most_of_list) refl refl (short_of (sum + length (nf g)) gens) h

passed_short : (gens : List Word) → question11 gens ≡ passed → Short 0 gens
passed_short gens e = short_of 0 gens (leb-true (length gens) (first_long 0 gens) (asks_passed (leb (length gens) (first_long 0 gens)) (GeneratorTooLong (first_long 0 gens)) e))

each_short : {sum : ℕ} {gens : List Word} → Short sum gens → (i : ℕ) → i < length gens → length (nf (get_or gens i [])) ≤ most_of_generator
each_short none i h = absurd (not-suc-le-zero h)
each_short (next short sum rest) zero h = short
each_short (next short sum rest) (suc i) h = each_short rest i (le_of_suc-le-suc h)

sum_short : {sum : ℕ} {gens : List Word} → Short sum gens → sum ≤ most_of_list → sum + total gens ≤ most_of_list
sum_short none low = omega arith
sum_short (next short sum rest) low = omega (arith, sum_short rest sum)

pub form_short : (gens : List Word) → question11 gens ≡ passed → (i : ℕ) → i < length gens → length (nf (get_or gens i [])) ≤ most_of_generator
form_short gens e i h = each_short (passed_short gens e) i h

pub total_short : (gens : List Word) → question11 gens ≡ passed → total gens ≤ most_of_list
total_short gens e = omega (arith, sum_short (passed_short gens e) (omega arith))

-- half as many letters again, and half a letter more for each generator
pub inverses_short : (gens : List Word) → 2 * total (inverses gens) ≤ 3 * total gens + length gens
inverses_short [] = omega arith
inverses_short (g ∷ gens) = omega (arith, inverse_form_short g, inverses_short gens)

pub signed_short : (gens : List Word) → length gens ≤ most_generators → question11 gens ≡ passed → total (with_inverses gens) ≤ most_of_signed_list
signed_short gens few e = omega (arith, total_append gens (inverses gens), inverses_short gens, total_short gens e)
