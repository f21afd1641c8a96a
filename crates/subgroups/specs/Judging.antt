-- The steps from a reduced list with its inverses to the signed verdict: inner contracts. Assumes nothing: these are definitions.
use Rattle.std.specs.Prelude.{◌≡◌, List, [], ◌∷◌, ℕ, ◌-◌, ◌≤◌, length, take, drop}
use Rattle.limits.specs.Limits.{most_generators, inverses_slice}
use Rattle.words.specs.Word.{Word, nf}
use Rattle.refusals.specs.Questions.{Asked, first_no}
use Rattle.products.specs.Product.{inverses, with_inverses}
use Rattle.lists.specs.Questions.{question11}
use Rattle.lists.specs.NormalList.{total, normal_bytes, normal_ends}
use Rattle.engine.specs.Calls.{Verdict, Lent}
use Rattle.subgroups.specs.Questions.{of_signed_sizes}
use Rattle.subgroups.specs.Calls.{SignedJudged}

-- The inverses' normal forms of few generators, for which the inverse slice has room, and how many they are.
pub record InverseForms (gens : List Word) (forms : List ℕ) (count : ℕ) : Type 0 where
  pub written : forms ≡ normal_bytes (inverses gens)
  pub counts : count ≡ length gens
  pub few : length gens ≤ most_generators
  pub short : length forms ≤ inverses_slice

-- The reduced list with its inverses behind it, whose forms begin at the place `given`.
pub record Doubled (gens : List Word) (letters ends : List ℕ) (given count : ℕ) : Type 0 where
  pub letters_are : letters ≡ normal_bytes (with_inverses gens)
  pub ends_are : ends ≡ normal_ends 0 (with_inverses gens)
  pub inverse_forms : InverseForms gens (take (length letters - given) (drop given letters)) count

-- what is asked of the sizes that are lent
abbrev pub sizes_asked : List Word → Word → ℕ → Lent → List ℕ → Asked
sizes_asked gens target n lent slice =
    of_signed_sizes (total (with_inverses gens)) (length (nf target)) n (length lent.first) (length lent.second) (length lent.witness) (length slice)

-- the verdict after questions 12 to 15, and after question 11 and these
abbrev pub JudgesSizes : List Word → Word → ℕ → Verdict → Lent → Lent → List ℕ → List ℕ → Type 0
JudgesSizes gens target n r before after slice slice' = SignedJudged (sizes_asked gens target n before slice) gens target n r before after slice slice'

abbrev pub JudgesList : List Word → Word → ℕ → Verdict → Lent → Lent → List ℕ → List ℕ → Type 0
JudgesList gens target n r before after slice slice' =
    SignedJudged (first_no (question11 gens ∷ sizes_asked gens target n before slice ∷ [])) gens target n r before after slice slice'
