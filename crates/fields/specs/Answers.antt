-- What the functions that read one field answer. Assumes nothing: these are definitions.
use Rattle.std.specs.Prelude.{Option, None, Some, ◌≡◌, List, ℕ, ◌≤◌, length, drop}
use Rattle.std.proofs.Math.Seq.{slice}
use Rattle.fields.specs.Field.{Read, Whole, Cut}
use Rattle.fields.specs.declared.Span.{Span}

-- the field where it is whole
abbrev pub whole_of : {A : Type 0} → Read A → Option A
whole_of (Whole field rest) = Some field
whole_of Cut = None

-- where a field of letters starts and ends in the card: the letters stand between, and the rest behind
abbrev pub SpanOf : List ℕ → Read (List ℕ) → Option Span → Type 0
SpanOf card (Whole letters rest) r =
    (start : ℕ) × (end : ℕ) × (r ≡ Some (record { start = start; end = end })) × (start ≤ end) × (end ≤ length card) × (slice start end card ≡ letters) × (drop end card ≡ rest)
SpanOf card Cut r = r ≡ None
