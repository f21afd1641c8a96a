-- A stack of letters that arrive. Assumes nothing: these are definitions.
use Rattle.std.specs.Prelude.{◌≡◌, List, [], ◌∷◌, reverse, ℕ, ◌+◌, ◌*◌, ◌≤◌, length, take}
use Rattle.words.specs.Word.{R, S, Word, arrived}
use Rattle.words.specs.Bytes.{word, bytes}
use Rattle.words.specs.Account.{rs}
use Rattle.words.specs.declared.Ending.{Ending}
use Rattle.words.specs.declared.Ending.TheVariants.{Nothing, R as One-R, S as One-S, SS as Two-S}
use Rattle.words.specs.declared.arrival.Top.{Top}

-- the ending of a word that stands back to front
abbrev pub ending_of : Word → Ending
ending_of [] = Nothing
ending_of (R ∷ w) = One-R
ending_of (S ∷ []) = One-S
ending_of (S ∷ R ∷ w) = One-S
ending_of (S ∷ S ∷ w) = Two-S

-- the word that the first `len` bytes of the stack spell, back to front
abbrev pub below : List ℕ → ℕ → Word
below stack len = reverse (word (take len stack))

-- The first `len` bytes of the stack spell a word, `w` back to front, which has that ending.
pub record Held (stack : List ℕ) (len : ℕ) (ending : Ending) (w : Word) : Type 0 where
  pub within : len ≤ length stack
  pub spelled : take len stack ≡ bytes (reverse w)
  pub ends : ending ≡ ending_of w

abbrev pub SomeHeld : List ℕ → ℕ → Ending → Type 0
SomeHeld stack len ending = (w : Word) × Held stack len ending w

-- how many letters have come in all: those on the stack, and those that went
abbrev pub came : Top → ℕ
came top = top.len + 2 * top.pairs + 3 * top.triples

-- Where a stack held a word, it now holds that word after x has arrived at it. Each letter of x, and each R of it, is on the stack or is counted as gone.
pub record Arrives (x : Word) (before : List ℕ) (top : Top) (after : List ℕ) (top' : Top) : Type 0 where
  pub held : (w : Word) → Held before top.len top.ending w → Held after top'.len top'.ending (arrived w x)
  pub letters : came top' ≡ came top + length x
  pub rs_gone : (w : Word) → Held before top.len top.ending w → rs (arrived w x) + 2 * top'.pairs ≡ rs w + 2 * top.pairs + rs x
