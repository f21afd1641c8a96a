-- What reading a card promises: how many bytes there can be, and that each turn comes closer to the end; and that what is there
-- is what the reader gave, where its bytes are known. Assumes nothing: these are definitions.
use Rattle.std.specs.Prelude.{Option, Some, None, Result, Ok, Err, ◌≡◌, List, [], ℕ, zero, suc, ◌-◌, ◌≤◌, ◌<◌, length, take, drop}
use Rattle.std.specs.Io.KnownBytes.{Keeps, Consumes, IsAtEnd}
use Rattle.std.specs.declared.io.Error.{Error}
use Rattle.std.specs.declared.ops.ControlFlow.{ControlFlow}
use Rattle.std.specs.declared.ops.ControlFlow.TheVariants.{Continue, Break}
use Rattle.verdict.specs.declared.reading.ReadError.{ReadError}

-- one read gives no more bytes than there is room for
abbrev pub Reads : ℕ → Result (Option ℕ) Error → Type 0
Reads room (Ok (Some count)) = count ≤ room
Reads room (Ok None) = Unit {0}
Reads room (Err error) = Unit {0}

-- a card has no more bytes than there is room for
abbrev pub Ends : ℕ → Result ℕ ReadError → Type 0
Ends room (Ok used) = used ≤ room
Ends room (Err why) = Unit {0}

-- a turn that is not the last has read a byte or more
abbrev pub Turns : ℕ → ℕ → ControlFlow (Result ℕ ReadError) ℕ → Type 0
Turns room used (Continue more) = (used < more) × (more ≤ room)
Turns room used (Break card) = Ends room card

-- What a read takes from a reader whose bytes are known, where it reads into `room`: the bytes that it gives, or none; and at the end none are left.
abbrev pub Takes : Option (List ℕ) → Option (List ℕ) → List ℕ → Result (Option ℕ) Error → Type 0
Takes old new room (Ok (Some zero)) = Consumes old new [] × (0 < length room → IsAtEnd new)
Takes old new room (Ok (Some (suc count))) = Consumes old new (take (suc count) room)
Takes old new room (Ok None) = Keeps old new
Takes old new room (Err error) = Keeps old new

-- What a turn takes, behind the bytes that are there: those up to the next place, or none.
abbrev pub Adds : Option (List ℕ) → Option (List ℕ) → ℕ → List ℕ → ControlFlow (Result ℕ ReadError) ℕ → Type 0
Adds old new used card (Continue more) = Consumes old new (take (more - used) (drop used card))
Adds old new used card (Break (Ok end)) = (end ≡ used) × Consumes old new [] × (used < length card → IsAtEnd new)
Adds old new used card (Break (Err why)) = Unit {0}

-- The card is what the reader had, to its end or to the end of the room.
abbrev pub IsRead : Option (List ℕ) → Option (List ℕ) → List ℕ → Result ℕ ReadError → Type 0
IsRead old new card (Ok used) = Consumes old new (take used card) × (used < length card → IsAtEnd new)
IsRead old new card (Err why) = Unit {0}
