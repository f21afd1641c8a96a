-- T to the 41st, which stands for every matrix whose normal form is too long. Assumes nothing.
use mathlib.Core.List.{List, [], ◌∷◌}
use Prim.Native.Nat.{ℕ, zero, suc, ◌≤◌, ◌<◌}
use native.Mathlib.Omega.{arith}
use lib.ListN.{length}
use Rattle.limits.specs.Limits.{most_letters, most_of_form}
use Rattle.words.specs.Word.{nf}
use Rattle.words.specs.Bytes.{word}
use Rattle.lists.specs.Reducing.{AllLetters}

-- T is SR
abbrev power : ℕ → List ℕ
power zero = []
power (suc k) = 83 ∷ 82 ∷ power k

abbrev pub t41 : List ℕ
t41 = power 41

pub t41_short : length t41 ≤ most_letters
t41_short = omega arith

pub t41_letters : AllLetters t41
t41_letters = omega arith

pub t41_too_long : most_of_form < length (nf (word t41))
unfolding nf
t41_too_long = omega arith
