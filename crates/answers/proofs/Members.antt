-- A member that is written has a factor or more: 02, M-105.
--     witnessed_some, witnessed_bytes    a witnessed member counts one factor or more, and the witness has as many bytes
--     member_witnessed                   and every such member is witnessed
--     member_0_missing                   a member of no factors is refused, and nothing is written
--     no_member_0                        so no line that is written is `member 0`
-- Assumes nothing.
use mathlib.Core.Bool.{Bool, true, false}
use mathlib.Core.Path.{◌≡◌, refl, sym, ap, ◌∙◌}
use mathlib.Core.List.{List, [], ◌∷◌, ◌++◌}
use Prim.Native.Nat.{ℕ, zero, suc, ◌≤◌}
use native.Mathlib.Omega.{arith}
use lib.Dec.{leb, ltb}
use lib.ListN.{length, take, drop, length-append}
use lib.Seq.{take-append_seam}
use borrow.Author.Tests.{le-leb, leb-true, lt-ltb, ltb-true}
use Rattle.std.specs.Prelude.{Result, Ok, Err}
use Rattle.refusals.specs.Telling.{pick}
use Rattle.refusals.specs.declared.Refusal.{Refusal}
use Rattle.slices.specs.Slices.{overwritten}
use Rattle.words.specs.declared.Factors.{Factors}
use Rattle.answers.specs.Line.{decimal, field, fields_of, member_name, line}
use Rattle.answers.specs.Calls.{witnessed, left, WritesLine}
use Rattle.answers.specs.declared.Answer.{Answer}
use Rattle.answers.specs.declared.Answer.TheVariants.{Member, None}
use Rattle.answers.specs.declared.LineError.{LineError}
use Rattle.answers.specs.declared.LineError.TheVariants.{FactorsMissing}
use Rattle.answers.proofs.Room.{line_told}

both_true : (a b : Bool) → pick a b false ≡ true → (a ≡ true) × (b ≡ true)
both_true true b e = (refl, e)
both_true false b e = absurd (let z : ◌≡◌ {A = ℕ} 0 1 = cc in omega arith)

module _ (count : Factors) (witness : List ℕ) where
  module _ (there : witnessed (Ok (Member count)) witness ≡ true) where
    pub witnessed_some : 1 ≤ count.0
    witnessed_some = ltb-true 0 count.0 (both_true (ltb 0 count.0) (leb count.0 (length witness)) there).0

    pub witnessed_bytes : count.0 ≤ length witness
    witnessed_bytes = leb-true count.0 (length witness) (both_true (ltb 0 count.0) (leb count.0 (length witness)) there).1

  pub member_witnessed : 1 ≤ count.0 → count.0 ≤ length witness → witnessed (Ok (Member count)) witness ≡ true
  member_witnessed some bytes = rw (lt-ltb 0 count.0 some) (le-leb count.0 (length witness) bytes)

pub member_0_missing : (witness before after : List ℕ) (r : Result ℕ LineError) → WritesLine (Ok (Member (record { 0 = 0 }))) witness before r after
    → (r ≡ Err FactorsMissing) × (after ≡ before)
member_0_missing witness before after r writes = (writes.answer_is, writes.slice_is)

-- ---- no line is `member 0`

decimal_some : (n : ℕ) → 1 ≤ length (decimal n)
decimal_some n = rw length-append (omega arith)

-- a number or more take two bytes or more
fields_some : (count : ℕ) (witness : List ℕ) → 1 ≤ count → count ≤ length witness → 2 ≤ length (fields_of (take count witness))
fields_some zero witness some bytes = absurd (omega arith)
fields_some (suc count) [] some bytes = absurd (omega arith)
fields_some (suc count) (b ∷ witness) some bytes = rw length-append (omega (arith, decimal_some b))

-- `member 0` with the byte that ends it has 9 bytes, and with a factor a line has more
abbrev pub member0 : List ℕ
member0 = member_name ++ (field 0 ++ (10 ∷ []))

line_not_member_0 : (answer : Result Answer Refusal) (witness : List ℕ) → witnessed answer witness ≡ true → line answer witness ≡ member0 → ⊥
line_not_member_0 (Ok (Member count)) witness there e =
    let factors = fields_of (take count.0 witness) in
    omega (
      arith,
      ap length e,
      length-append (field count.0 ++ factors) (10 ∷ []),
      length-append (field count.0) factors,
      decimal_some count.0,
      fields_some count.0 witness (witnessed_some count witness there) (witnessed_bytes count witness there),
    )
line_not_member_0 (Ok (None n)) witness there e = let z : ◌≡◌ {A = ℕ} 110 109 = cc in omega arith
line_not_member_0 (Err refusal) witness there e = let z : ◌≡◌ {A = ℕ} 114 109 = cc in omega arith

pub no_member_0 : (answer : Result Answer Refusal) (witness before after : List ℕ) (len : ℕ) → WritesLine answer witness before (Ok len) after → take len after ≡ member0 → ⊥
no_member_0 answer witness before after len writes e =
    let text = line answer witness in
    let (there, len_is, room) = line_told writes in
    let slice : after ≡ overwritten text before = writes.slice_is ∙ ap (λ (l : Result ℕ LineError). left l text before) (sym writes.answer_is) in
    let front : take len after ≡ text =
    ap (take len) slice ∙ ap (λ (k : ℕ). take k (overwritten text before)) len_is ∙ take-append_seam text (drop (length text) before) in
    line_not_member_0 answer witness there (sym front ∙ e)
