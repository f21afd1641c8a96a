-- How the calls' answers are told to a caller in another language: by two numbers, and a reduction's by four. Assumes nothing: these are definitions.
use Rattle.std.specs.Prelude.{Bool, true, false, Some, None, Result, Ok, Err, List, [], ◌∷◌, ℕ, ℤ}
use Rattle.refusals.specs.Telling.{pick}
use Rattle.refusals.specs.Questions.{number, place}
use Rattle.words.specs.declared.Factors.{Factors}
use Rattle.refusals.specs.declared.Refusal.{Refusal}
use Rattle.words.specs.declared.Account.{Account}
use Rattle.words.specs.declared.Letters.{Letters}
use Rattle.matrices.specs.declared.Matrix.{Matrix}
use Rattle.engine.specs.Calls.{Verdict}
use Rattle.subgroups.specs.declared.Part.{Part as subgroups·Part}
use Rattle.reach.specs.Calls.{Reached}
use Rattle.quick.specs.declared.Quick.{Quick}
use Rattle.quick.specs.declared.Quick.TheVariants.{No, Open}
use Rattle.answers.specs.declared.Answer.{Answer}
use Rattle.answers.specs.declared.Answer.TheVariants.{Member, None as Answer-as-None}
use Rattle.kernelhop.specs.declared.Outcome.{Outcome}
use Rattle.kernelhop.specs.declared.Part.{Part}
use Rattle.kernelhop.specs.declared.Reduction.{Reduction}

-- a refusal by document 01's number, from 1 to 16, and its place
abbrev pub of_refusal : Refusal → Outcome
of_refusal refusal = record { number = number refusal; value = place refusal }

-- an answer: 0 and its value
abbrev pub yes : ℕ → Outcome
yes value = record { number = 0; value = value }

-- none: 255 and n
abbrev pub no : ℕ → Outcome
no n = record { number = 255; value = n }

-- what was kept, and how many pairs and triples went; a refusal has 0 for both
abbrev pub of_reduction : Result Account Refusal → Reduction
of_reduction (Ok account) = record { number = 0; pairs = account.pairs; triples = account.triples; value = account.kept.0 }
of_reduction (Err refusal) = record { number = number refusal; pairs = 0; triples = 0; value = place refusal }

abbrev pub of_written : Result Letters Refusal → Outcome
of_written (Ok letters) = yes letters.0
of_written (Err refusal) = of_refusal refusal

-- normal: 1; not normal: 0
abbrev pub of_tested : Result Bool Refusal → Outcome
of_tested (Ok true) = yes 1
of_tested (Ok false) = yes 0
of_tested (Err refusal) = of_refusal refusal

abbrev pub of_turned : Result Matrix Refusal → Outcome
of_turned (Ok m) = yes 0
of_turned (Err refusal) = of_refusal refusal

-- the four entries of the matrix, or what stood there
abbrev pub entries_or : Result Matrix Refusal → List ℤ → List ℤ
entries_or (Ok m) before = m.a ∷ m.b ∷ m.c ∷ m.d ∷ []
entries_or (Err refusal) before = before

abbrev pub of_verdict : Factors → Verdict → Outcome
of_verdict n (Ok (Some count)) = yes count.0
of_verdict n (Ok None) = no n.0
of_verdict n (Err refusal) = of_refusal refusal

-- a part of the given slice: 0; of the inverse slice: 1
abbrev pub of_part : subgroups·Part → Part
of_part part = record { inverse = pick part.inverse 1 0; start = part.start; end = part.end }

-- reachable: 1; not reachable: as none, with no n
abbrev pub of_reached : Reached → Outcome
of_reached (Ok true) = yes 1
of_reached (Ok false) = no 0
of_reached (Err refusal) = of_refusal refusal

-- the quick no: as none, with no n; open: 254, which is neither an answer's number nor that of none
abbrev pub of_quick : Result Quick Refusal → Outcome
of_quick (Ok No) = no 0
of_quick (Ok Open) = record { number = 254; value = 0 }
of_quick (Err refusal) = of_refusal refusal

abbrev pub of_answer : Result Answer Refusal → Outcome
of_answer (Ok (Member count)) = yes count.0
of_answer (Ok (Answer-as-None n)) = no n.0
of_answer (Err refusal) = of_refusal refusal
