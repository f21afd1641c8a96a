-- The three cases of writing a line, and what the answer tells of the line and of the room for it. Assumes nothing.
use mathlib.Core.Bool.{Bool, true, false}
use mathlib.Core.Path.{◌≡◌, refl}
use mathlib.Core.List.{List}
use Prim.Native.Nat.{ℕ, ◌≤◌, ◌<◌}
use lib.Dec.{leb}
use lib.ListN.{length}
use borrow.Author.Tests.{leb-true, leb-false}
use Rattle.std.specs.Prelude.{Result, Ok, Err}
use Rattle.refusals.specs.Telling.{pick}
use Rattle.refusals.specs.declared.Refusal.{Refusal}
use Rattle.answers.specs.Line.{line}
use Rattle.answers.specs.Calls.{witnessed, WritesLine}
use Rattle.answers.specs.declared.Answer.{Answer}
use Rattle.answers.specs.declared.LineError.{LineError}
use Rattle.answers.specs.declared.LineError.TheVariants.{TooShort, FactorsMissing}

-- the answer for a line of `long` bytes, by whether the factors are there and whether the line fits
abbrev told : Bool → Bool → ℕ → Result ℕ LineError
told there fits long = pick there (pick fits (Ok long) (Err TooShort)) (Err FactorsMissing)

-- the answer tells: the length of a line for which there is room, that there is none, or that factors are missing
abbrev pub Told : Result ℕ LineError → Bool → ℕ → ℕ → Type 0
Told (Ok len) there long room = (there ≡ true) × (len ≡ long) × (long ≤ room)
Told (Err TooShort) there long room = (there ≡ true) × (room < long)
Told (Err FactorsMissing) there long room = there ≡ false

told_by : (long room : ℕ) (there fits : Bool) → leb long room ≡ fits → Told (told there fits long) there long room
told_by long room false fits e = refl
told_by long room true true e = (refl, refl, leb-true long room e)
told_by long room true false e = (refl, leb-false long room e)

pub line_told : {answer : Result Answer Refusal} {witness before after : List ℕ} {r : Result ℕ LineError}
    → WritesLine answer witness before r after → Told r (witnessed answer witness) (length (line answer witness)) (length before)
line_told {answer} {witness} {before} writes =
    rw writes.answer_is
    (told_by (length (line answer witness)) (length before) (witnessed answer witness) (leb (length (line answer witness)) (length before)) refl)
