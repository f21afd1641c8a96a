-- Series of generators, what they reach, and what makes a verdict right. Document 01, "Lists and products", "The verdict" and demand 3.
-- Numbers without limit: nothing here knows of tables or of how large a list may be. Assumes nothing: these are definitions.
use Rattle.std.specs.Prelude.{◌≡◌, List, [], ◌∷◌, ◌++◌, map, ℕ, ◌-◌, ◌≤◌, ◌<◌, ltb, length, get_or}
use Rattle.std.proofs.Math.Seq.{slice}
use Rattle.refusals.specs.Telling.{pick}
use Rattle.words.specs.Word.{Word, Equal, inverse}
use Rattle.words.specs.Bytes.{word}

-- 01: "A list is a slice of letters with a slice of 16-bit ends. Generator i, counted from 0, runs from the end before it (0 for the
-- first) up to its own end." Here `from` is the end before the next generator.
abbrev pub generators_from : List ℕ → ℕ → List ℕ → List Word
generators_from bytes from [] = []
generators_from bytes from (end ∷ ends) = word (slice from end bytes) ∷ generators_from bytes end ends

abbrev pub generators : List ℕ → List ℕ → List Word
generators bytes ends = generators_from bytes 0 ends

-- The generators of a list, as words; generator i is counted from 0.
abbrev pub generator : List Word → ℕ → Word
generator gens i = get_or gens i []

-- A generator of a list by its number.
abbrev pub Factor : List Word → ℕ → Type 0
Factor gens i = i < length gens

-- each number of a list is such a one
abbrev pub Each : (ℕ → Type 0) → List ℕ → Type 0
Each P [] = Unit {0}
Each P (i ∷ r) = P i × Each P r

-- The words of some numbers, written one behind the other.
abbrev pub spelled : (ℕ → Word) → List ℕ → Word
spelled word_of [] = []
spelled word_of (i ∷ r) = word_of i ++ spelled word_of r

-- Which factors there are, by their numbers, and what word each one is. What makes a verdict right is said for any such family, so the plain and the signed
-- use of a list differ in nothing else.
pub record Family : Type 1 where
  pub Number : ℕ → Type 0
  pub word_of : ℕ → Word

-- 01: "A product is a series of generator numbers, each below the number of generators".
abbrev pub plain : List Word → Family
plain gens = record { Number = λ i. Factor gens i; word_of = λ i. generator gens i }

-- 02, M-103: "Inverse factors are written as 128 plus the generator number."
abbrev pub inverse_mark : ℕ
inverse_mark = 128

-- which generator a signed number is about
abbrev pub unsigned : ℕ → ℕ
unsigned k = pick (ltb k inverse_mark) k (k - inverse_mark)

-- 02, M-103: "a factor may be a generator or its inverse, each costing one factor".
abbrev pub signed : List Word → Family
signed gens =
    record {
      Number = λ k. Factor gens (unsigned k);
      word_of = λ k. pick (ltb k inverse_mark) (generator gens (unsigned k)) (inverse (generator gens (unsigned k)));
    }

-- The inverses of a list's generators, and the list with them behind it. 02, M-103: "m counts the inverses as well".
abbrev pub inverses : List Word → List Word
inverses gens = map inverse gens

abbrev pub with_inverses : List Word → List Word
with_inverses gens = gens ++ inverses gens

-- A series of generator numbers, and the letters of its factors, written one behind the other.
abbrev pub Series : List Word → List ℕ → Type 0
Series gens r = Each (Factor gens) r

abbrev pub letters : List Word → List ℕ → Word
letters gens r = spelled (generator gens) r

-- 01: "A series reaches the target .. when its factors' letters, written one behind the other, and the target are equal words by the rules".
abbrev pub Reaches : Family → List ℕ → Word → Type 0
Reaches family r target = Equal (spelled family.word_of r) target

-- What the bound counts. 01: "The bound n counts factors, not letters."
abbrev pub measure : List ℕ → ℕ
measure r = length r

-- Which series count as products. 02, M-105: "a product has one factor or more".
abbrev pub Counted : List ℕ → Type 0
Counted r = 1 ≤ length r

-- A rival for a bound: a series that a verdict is judged against. 02, M-103: "A rival here is a series of signed generators"; M-105: "A rival is a non-empty
-- series from now on, and both members and nones are judged by that."
pub record Rival (family : Family) (n : ℕ) (r : List ℕ) : Type 0 where
  pub series : Each family.Number r
  pub counted : Counted r
  pub within : measure r ≤ n

-- `none` is right exactly when no rival reaches the target.
abbrev pub NoneRight : Family → Word → ℕ → Type 0
NoneRight family target n = (r : List ℕ) → Rival family n r → Reaches family r target → ⊥

-- The unbounded verdict. 02, M-101: "Yes holds exactly when some series of generator numbers, of any length, multiplies to the target."
abbrev pub YesRight : Family → Word → Type 0
YesRight family target = (r : List ℕ) × Each family.Number r × Counted r × Reaches family r target

abbrev pub NoRight : Family → Word → Type 0
NoRight family target = (r : List ℕ) → Each family.Number r → Counted r → Reaches family r target → ⊥

-- Which of two series stands before the other: at the first place where they differ it has the smaller number. 02, M-100: "first when generator
-- numbers are compared from left to right"; M-103: "M-100's order compares the numbers as written".
pub data Before : List ℕ → List ℕ → Type 0 where
  smaller : {i j : ℕ} {r s : List ℕ} → i < j → Before (i ∷ r) (j ∷ s)
  further : {i : ℕ} {r s : List ℕ} → Before r s → Before (i ∷ r) (i ∷ s)

-- `member` is right: its factors are a rival that reaches the target, its count is how many they are, and no rival that reaches it has fewer. 02, M-100:
-- "A rival that reaches the target with equal count therefore never stands before it."
pub record MemberRight (family : Family) (target : Word) (n : ℕ) (factors : List ℕ) (count : ℕ) : Type 0 where
  pub rival : Rival family n factors
  pub reaches : Reaches family factors target
  pub counts : count ≡ length factors
  pub least : (r : List ℕ) → Rival family n r → Reaches family r target → measure factors ≤ measure r
  pub first : (r : List ℕ) → Rival family n r → Reaches family r target → measure r ≡ measure factors → Before r factors → ⊥
