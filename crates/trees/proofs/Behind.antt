-- A list with one number stored, and a list of words with one more behind it. Assumes nothing.
use mathlib.Core.Path.{◌≡◌}
use mathlib.Core.List.{List, [], ◌∷◌, ◌++◌}
use Prim.Native.Nat.{ℕ, ◌+◌, ◌<◌}
use native.Mathlib.Omega.{arith}
use lib.ListN.{length, set, length-append, get_or-append}
use lib.Seq.{get_or-set_same, get_or-set_other, get_or-append_seam}
use borrow.Author.Count.{below_more}
use Rattle.words.specs.Word.{Word}
use Rattle.trees.specs.Tree.{at, word_at}

pub at_same : (l : List ℕ) (i v : ℕ) → i < length l → at (set l i v) i ≡ v
at_same l i v h = get_or-set_same l i v 0 h

pub at_other : (l : List ℕ) (i j v : ℕ) → (j ≡ i → ⊥) → at (set l i v) j ≡ at l j
at_other l i j v h = get_or-set_other l i j v 0 h

pub at_below : (l : List ℕ) (i j v : ℕ) → j < i → at (set l i v) j ≡ at l j
at_below l i j v h = at_other l i j v (omega arith)

module _ (words : List Word) (w : Word) where
  abbrev pub behind : List Word
  behind = words ++ w ∷ []

  pub behind_length : length behind ≡ length words + 1
  behind_length = length-append words (w ∷ [])

  pub behind_old : (q : ℕ) → q < length words → word_at behind q ≡ word_at words q
  behind_old q h = get_or-append words (w ∷ []) [] q h

  pub behind_new : word_at behind (length words) ≡ w
  behind_new = get_or-append_seam words w [] []

  -- what holds of each old place, and of the new one, holds of all
  pub behind_each : (P : ℕ → Type 0) → ((q : ℕ) → q < length words → P q) → P (length words) → (q : ℕ) → q < length behind → P q
  behind_each P old new q h = below_more P (length words) old new q (omega (arith, behind_length))
