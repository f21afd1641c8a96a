-- What writing an answer's line promises. Assumes nothing: these are definitions.
use Rattle.std.specs.Prelude.{Result, Ok, Err, Bool, true, false, ◌≡◌, List, ℕ, ◌^◌, ◌≤◌, ◌<◌, leb, ltb, length, get_or}
use Rattle.limits.specs.Limits.{most_factors}
use Rattle.refusals.specs.Telling.{pick}
use Rattle.refusals.specs.Questions.{place}
use Rattle.refusals.specs.declared.Refusal.{Refusal}
use Rattle.slices.specs.Slices.{overwritten}
use Rattle.answers.specs.Line.{line}
use Rattle.answers.specs.declared.Answer.{Answer}
use Rattle.answers.specs.declared.Answer.TheVariants.{Member, None}
use Rattle.answers.specs.declared.LineError.{LineError}
use Rattle.answers.specs.declared.LineError.TheVariants.{TooShort, FactorsMissing}

-- Has the answer its factors? 01: "For a member the first k witness bytes are the factors"; 02, M-105: "a product has one factor or more". So a member counts
-- one or more, and the witness has as many bytes.
abbrev pub witnessed : Result Answer Refusal → List ℕ → Bool
witnessed (Ok (Member count)) witness = pick (ltb 0 count.0) (leb count.0 (length witness)) false
witnessed (Ok (None n)) witness = true
witnessed (Err refusal) witness = true

-- Three cases: the answer lacks its factors; the line is longer than the slice; or the line is written, and the answer is its length.
abbrev pub lined : Result Answer Refusal → List ℕ → ℕ → Result ℕ LineError
lined answer witness room =
    let long = length (line answer witness) in
    pick (witnessed answer witness) (pick (leb long room) (Ok long) (Err TooShort)) (Err FactorsMissing)

-- what becomes of a lent slice: the line goes to its front, or nothing changes
abbrev pub left : Result ℕ LineError → List ℕ → List ℕ → List ℕ
left (Ok len) text before = overwritten text before
left (Err reason) text before = before

pub record WritesLine (answer : Result Answer Refusal) (witness before : List ℕ) (r : Result ℕ LineError) (after : List ℕ) : Type 0 where
  pub answer_is : r ≡ lined answer witness (length before)
  pub slice_is : after ≡ left (lined answer witness (length before)) (line answer witness) before

-- the bytes of the longest line of an answer that the engine gives: `line_short` of proofs/LineLength.antt
abbrev pub longest : ℕ
longest = 4096

-- What the engine gives: a member of no more factors than the largest bound that question 13 lets pass, over a witness of bytes; a bound of 16 bits; or a
-- place of 64 bits.
abbrev pub Shown : Result Answer Refusal → List ℕ → Type 0
Shown (Ok (Member count)) witness = (count.0 ≤ most_factors) × ((i : ℕ) → get_or witness i 0 < 256)
Shown (Ok (None n)) witness = n.0 ≤ 65535
Shown (Err refusal) witness = place refusal < 2 ^ 64
