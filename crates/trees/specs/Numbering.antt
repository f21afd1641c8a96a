-- How the nodes of a tree of suffixes are numbered: node 0 is the empty word; then the generators are read in their order, each one's suffixes
-- from the shortest on, and a suffix that has no number yet gets the next one. Assumes nothing: these are definitions.
use Rattle.std.specs.Prelude.{Bool, true, false, List, [], ◌∷◌, ◌++◌}
use Rattle.words.specs.Word.{Letter, R, S, Word}
use Rattle.refusals.specs.Telling.{pick}

abbrev pub same_letter : Letter → Letter → Bool
same_letter R R = true
same_letter R S = false
same_letter S R = false
same_letter S S = true

abbrev pub same_word : Word → Word → Bool
same_word [] [] = true
same_word [] (b ∷ v) = false
same_word (a ∷ u) [] = false
same_word (a ∷ u) (b ∷ v) = pick (same_letter a b) (same_word u v) false

-- whether q is among the words
abbrev pub has_word : List Word → Word → Bool
has_word [] q = false
has_word (w ∷ words) q = pick (same_word w q) true (has_word words q)

-- q is put behind the words, where it is not among them
abbrev pub with_word : List Word → Word → List Word
with_word words q = pick (has_word words q) words (words ++ q ∷ [])

-- so are the suffixes of a word, from the shortest on, but the empty one, which is among the words from the beginning
abbrev pub with_suffixes : List Word → Word → List Word
with_suffixes words [] = words
with_suffixes words (a ∷ w) = with_word (with_suffixes words w) (a ∷ w)

-- so are the suffixes of each of a list's generators
abbrev pub with_all : List Word → List Word → List Word
with_all words [] = words
with_all words (g ∷ gens) = with_all (with_suffixes words g) gens

-- the words of the nodes, in the order of their numbers
abbrev pub numbered : List Word → List Word
numbered gens = with_all ([] ∷ []) gens
