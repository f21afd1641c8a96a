-- The questions at the door that concern lists. Document 01, "The questions at the door". Assumes nothing: these are definitions.
use Rattle.std.specs.Prelude.{List, [], ◌∷◌, ◌++◌, ℕ, suc, ◌+◌, leb, eqb, length}
use Rattle.limits.specs.Limits.{most_generators, most_of_generator, most_of_list}
use Rattle.words.specs.Word.{Word, nf}
use Rattle.refusals.specs.Telling.{pick}
use Rattle.refusals.specs.Questions.{Asked, asks, first_no, question8, question10}
use Rattle.refusals.specs.declared.Refusal.TheVariants.{TooManyGenerators, EndsWrong, GeneratorTooLong}

-- 7: "Are there at most 64 generators?"
abbrev pub question7 : ℕ → Asked
question7 count = asks (leb count most_generators) TooManyGenerators

-- the index of the first end that is below the one before it, or the number of ends; `from` is the end before
abbrev pub first_fall : ℕ → List ℕ → ℕ
first_fall from [] = 0
first_fall from (end ∷ ends) = pick (leb from end) (suc (first_fall end ends)) 0

-- the last end, `from` if there is none
abbrev pub last_end : ℕ → List ℕ → ℕ
last_end from [] = from
last_end from (end ∷ ends) = last_end end ends

-- 9: "Do the ends never fall, and is the last (0 if there is none) the number of letters? Place: the first end that falls, else the
-- number of generators."
abbrev pub question9 : List ℕ → ℕ → Asked
question9 ends letters =
    first_no (asks (leb (length ends) (first_fall 0 ends)) (EndsWrong (first_fall 0 ends)) ∷ asks (eqb (last_end 0 ends) letters) (EndsWrong (length ends)) ∷ [])

-- the index of the first generator whose normal form is too long, or with which the sum is too large, or the number of
-- generators; `sum` is that of the generators before
abbrev pub first_long : ℕ → List Word → ℕ
first_long sum [] = 0
first_long sum (g ∷ gens) =
    pick (leb (length (nf g)) most_of_generator) (pick (leb (sum + length (nf g)) most_of_list) (suc (first_long (sum + length (nf g)) gens)) 0) 0

-- 11: "Has each generator's normal form at most 80 letters, and the sum up to it at most 320? Place: the first generator where it fails."
abbrev pub question11 : List Word → Asked
question11 gens = asks (leb (length gens) (first_long 0 gens)) (GeneratorTooLong (first_long 0 gens))

-- what is asked of a list's slices and a target's together, before anything is reduced. 01: in question 10 "the target's letters count on
-- from the list's".
abbrev pub of_list : List ℕ → List ℕ → List ℕ → Asked
of_list bytes ends target =
    first_no (question7 (length ends) ∷ question8 (length bytes) ∷ question8 (length target) ∷ question9 ends (length bytes) ∷ question10 (bytes ++ target) ∷ [])
