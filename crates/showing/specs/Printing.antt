-- What printing an answer's line promises. Assumes nothing: these are definitions.
use Rattle.std.specs.Prelude.{Result, Ok, Err, true, false, ◌≡◌, List, ℕ, ◌≤◌, ◌<◌, length}
use Rattle.std.specs.Io.KnownBytes.{Keeps, Appends}
use Rattle.std.specs.Prelude.{Option}
use Rattle.answers.specs.Line.{line as line_of}
use Rattle.answers.specs.Calls.{witnessed, longest}
use Rattle.answers.specs.declared.Answer.{Answer}
use Rattle.refusals.specs.declared.Refusal.{Refusal}
use Rattle.showing.specs.declared.PrintError.{PrintError}
use Rattle.showing.specs.declared.PrintError.TheVariants.{FactorsMissing, TooLong, Failed}

-- Factors are said to be missing exactly where they are, and else a line is said to be too long exactly where it is. Whether the
-- writer took all of the line, which tells `Ok` from `Failed`, is the writer's.
abbrev pub Prints : Result Answer Refusal → List ℕ → Result (Unit {0}) PrintError → Type 0
Prints answer witness (Ok _) = (witnessed answer witness ≡ true) × (length (line_of answer witness) ≤ longest)
Prints answer witness (Err FactorsMissing) = witnessed answer witness ≡ false
Prints answer witness (Err TooLong) = (witnessed answer witness ≡ true) × (longest < length (line_of answer witness))
Prints answer witness (Err (Failed error)) = (witnessed answer witness ≡ true) × (length (line_of answer witness) ≤ longest)

-- What is left in a writer whose bytes are known: the line behind what it held, or what it held where no line was written. Of a write that failed nothing is
-- said.
abbrev pub Leaves : Option (List ℕ) → Option (List ℕ) → Result Answer Refusal → List ℕ → Result (Unit {0}) PrintError → Type 0
Leaves old new answer witness (Ok _) = Appends old new (line_of answer witness)
Leaves old new answer witness (Err FactorsMissing) = Keeps old new
Leaves old new answer witness (Err TooLong) = Keeps old new
Leaves old new answer witness (Err (Failed error)) = Unit {0}
