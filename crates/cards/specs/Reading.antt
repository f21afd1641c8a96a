-- Inner contracts of a card's reading: what a field is answered to say, and what stands behind it. Assumes nothing: these are definitions.
use Rattle.std.specs.Prelude.{Option, None, Some, ◌≡◌, List, [], ℕ, length, ℤ}
use Rattle.std.specs.Borrow.{Bor}
use Rattle.words.specs.declared.Factors.{Factors}
use Rattle.unimodular.specs.Matrix.{Matrix}
use Rattle.matrices.specs.Entries.{matrix}
use Rattle.matrices.specs.declared.Matrix.{Matrix as Quadruple}
use Rattle.fields.specs.Field.{Read, Whole, Cut}
use Rattle.cards.specs.Card.{Target, Letters, Entries, generator_fields}
use Rattle.cards.specs.declared.reading.Goal.{Goal}
use Rattle.cards.specs.declared.reading.Goal.TheVariants.{Letters as Goal-as-Letters, Entries as Goal-as-Entries}
use Rattle.cards.specs.declared.reading.Generators.{Generators}

-- a field that is cut off is answered by nothing, and a whole one by what it says and the bytes behind it
abbrev pub Answered : {A B : Type 0} → (A → List ℕ → B → Type 0) → Read A → Option (B × Bor (List ℕ)) → Type 0
Answered Says field None = field ≡ Cut
Answered {A} Says field (Some r) = (a : A) × (field ≡ Whole a r.1.now) × Says a r.1.now r.0

abbrev pub NumberIs : Read ℤ → Option (ℤ × Bor (List ℕ)) → Type 0
NumberIs = Answered (λ z rest r. r ≡ z)

abbrev pub LettersAre : Read (List ℕ) → Option (Bor (List ℕ) × Bor (List ℕ)) → Type 0
LettersAre = Answered (λ letters rest r. r.now ≡ letters)

abbrev pub BoundIs : Read ℕ → Option (Factors × Bor (List ℕ)) → Type 0
BoundIs = Answered (λ n rest r. r.0 ≡ n)

abbrev pub MatrixIs : Read Matrix → Option (Quadruple × Bor (List ℕ)) → Type 0
MatrixIs = Answered (λ m rest r. matrix r ≡ m)

-- a target by its letters, or by its entries
abbrev pub GoalIs : Target → Goal → Type 0
GoalIs target (Goal-as-Letters letters) = target ≡ Letters letters.now
GoalIs target (Goal-as-Entries m) = target ≡ Entries (matrix m)

abbrev pub TargetIs : Read Target → Option (Goal × Bor (List ℕ)) → Type 0
TargetIs = Answered (λ target rest r. GoalIs target r)

-- what stands behind so many generators
abbrev pub Skips : Read (List (List ℕ)) → Option (Bor (List ℕ)) → Type 0
Skips field None = field ≡ Cut
Skips field (Some r) = (list : List (List ℕ)) × (field ≡ Whole list r.now)

-- how many generators there are, and the bytes that they are read from
abbrev pub ListIs : Read (List (List ℕ)) → Option (Generators × Bor (List ℕ)) → Type 0
ListIs = Answered (λ list rest r. (length list ≡ r.count) × (generator_fields r.count r.bytes.now ≡ Whole list rest))

-- the list of so many generators that fills some bytes
abbrev pub Listed : List ℕ → ℕ → List (List ℕ) → Type 0
Listed bytes count list = generator_fields count bytes ≡ Whole list []

abbrev pub SomeListed : List ℕ → ℕ → Type 0
SomeListed bytes count = (list : List (List ℕ)) × Listed bytes count list
