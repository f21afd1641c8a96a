-- The questions at the door that concern sizes. Document 01, "The questions at the door". Assumes nothing: these are definitions.
use Rattle.std.specs.Prelude.{[], ◌∷◌, ℕ, ◌+◌, ◌*◌, leb}
use Rattle.limits.specs.Limits.{most_factors}
use Rattle.refusals.specs.Questions.{Asked, asks, first_no, question12, question14}
use Rattle.refusals.specs.declared.Refusal.TheVariants.{BoundTooLarge, TableTooShort}

-- 01: "m is the sum of the generators' normal form lengths, t the target's normal form length, and q = m + 2t + 1."
abbrev pub side : ℕ → ℕ → ℕ
side m t = m + 2 * t + 1

-- 13: "Is n at most 1,000?"
abbrev pub question13 : ℕ → Asked
question13 n = asks (leb n most_factors) BoundTooLarge

-- 15: "Has each table at least q × q entries?" Of one table.
abbrev pub question15 : ℕ → ℕ → Asked
question15 q table = asks (leb (q * q) table) TableTooShort

-- 13, and 14 for a witness
abbrev pub of_bound : ℕ → ℕ → Asked
of_bound n witness = first_no (question13 n ∷ question14 n witness ∷ [])

-- 15 of both tables
abbrev pub of_tables : ℕ → ℕ → ℕ → Asked
of_tables q first second = first_no (question15 q first ∷ question15 q second ∷ [])

-- what is asked once m and t are known: 12; 13; 14 for the witness; 15
abbrev pub of_sizes : ℕ → ℕ → ℕ → ℕ → ℕ → ℕ → Asked
of_sizes m t n first second witness = first_no (question12 t ∷ of_bound n witness ∷ of_tables (side m t) first second ∷ [])
