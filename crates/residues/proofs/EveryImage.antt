-- Each of the 168 matrices modulo 7, up to sign, is the image of a word.
-- Assumes nothing.
use mathlib.Core.Bool.{Bool}
use mathlib.Core.Path.{◌≡◌}
use mathlib.Core.List.{List, [], ◌∷◌, map, flat_map}
use Prim.Native.Nat.{ℕ, zero, suc, ◌<◌, ◌/◌, ◌%◌}
use lib.Dec.{T, eqb, eqb→eq}
use lib.ListN.{get_or}
use Rattle.refusals.specs.Telling.{pick}
use Rattle.words.specs.Word.{R, S, Word}
use Rattle.unimodular.specs.Matrix.{matrix_of}
use Rattle.residues.specs.Residues.{quadruples, numbering, number_of, image}
use Rattle.residues.proofs.Every.{every, at}

-- The word of a number's binary digits, its lowest first: 0 is R and 1 is S, and the highest digit ends the word. The first argument is more than it has.
spelled_by : ℕ → ℕ → Word
spelled_by zero code = []
spelled_by (suc most) code = pick (eqb code 1) [] (pick (eqb (code % 2) 0) R S ∷ spelled_by most (code / 2))

-- a shortest word for each matrix, in the order of their numbers; the longest has 15 letters
shortest : List ℕ
shortest =
    2 ∷ 7 ∷ 59 ∷ 475 ∷ 170 ∷ 42 ∷ 10 ∷ 22189 ∷ 1709 ∷ 23222 ∷ 14038 ∷ 5805 ∷ 3509 ∷ 6838 ∷ 27994 ∷ 5845 ∷ 3437 ∷ 6998 ∷ 15061 ∷ 23382 ∷ 1749 ∷
    1 ∷ 11 ∷ 91 ∷ 426 ∷ 106 ∷ 26 ∷ 6 ∷ 5 ∷ 43 ∷ 347 ∷ 1450 ∷ 362 ∷ 90 ∷ 22 ∷ 21 ∷ 171 ∷ 1371 ∷ 5546 ∷ 1386 ∷ 346 ∷ 86 ∷
    85 ∷ 683 ∷ 5467 ∷ 15029 ∷ 5482 ∷ 1370 ∷ 342 ∷ 341 ∷ 237 ∷ 1899 ∷ 1717 ∷ 13739 ∷ 5466 ∷ 1366 ∷ 118 ∷ 29 ∷ 235 ∷ 1883 ∷ 7594 ∷ 1898 ∷ 474 ∷
    14 ∷ 3 ∷ 27 ∷ 219 ∷ 938 ∷ 234 ∷ 58 ∷ 13997 ∷ 2733 ∷ 15030 ∷ 22230 ∷ 3757 ∷ 5557 ∷ 10934 ∷ 11690 ∷ 45 ∷ 2922 ∷ 363 ∷ 730 ∷ 3765 ∷ 182 ∷
    6874 ∷ 949 ∷ 1718 ∷ 7595 ∷ 429 ∷ 27498 ∷ 3798 ∷ 3499 ∷ 173 ∷ 11114 ∷ 1750 ∷ 2778 ∷ 437 ∷ 694 ∷ 30122 ∷ 117 ∷ 7530 ∷ 939 ∷ 1882 ∷ 7515 ∷ 470 ∷
    11691 ∷ 685 ∷ 13749 ∷ 5846 ∷ 10970 ∷ 1461 ∷ 2742 ∷ 3498 ∷ 13 ∷ 874 ∷ 107 ∷ 218 ∷ 859 ∷ 54 ∷ 44378 ∷ 3797 ∷ 5485 ∷ 11094 ∷ 7533 ∷ 15190 ∷ 2773 ∷
    3418 ∷ 2741 ∷ 365 ∷ 854 ∷ 13674 ∷ 2923 ∷ 213 ∷ 11611 ∷ 181 ∷ 941 ∷ 15066 ∷ 1451 ∷ 726 ∷ 3766 ∷ 7019 ∷ 469 ∷ 7514 ∷ 6837 ∷ 877 ∷ 1878 ∷ 10965 ∷
    11610 ∷ 10933 ∷ 1389 ∷ 2902 ∷ 6869 ∷ 11115 ∷ 725 ∷ 7018 ∷ 693 ∷ 109 ∷ 1754 ∷ 5547 ∷ 875 ∷ 438 ∷ 3419 ∷ 53 ∷ 858 ∷ 13738 ∷ 427 ∷ 214 ∷ 3434 ∷ []

words : List Word
words = map (spelled_by 16) shortest

has_image : ℕ → Word → Bool
has_image k w = eqb (number_of (matrix_of w)) k

all_have : T (every has_image 0 words)
unfolding has_image words shortest spelled_by number_of numbering quadruples flat_map
all_have = tt

pub every_image : (k : ℕ) → k < 168 → (w : Word) × (image w ≡ k)
unfolding has_image words shortest image
every_image k small = (get_or words k [], eqb→eq (number_of (matrix_of (get_or words k []))) k (at has_image words all_have k small []))
