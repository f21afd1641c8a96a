-- What the signed verdict promises. Document 02, M-103. Assumes nothing: these are definitions.
use Rattle.std.specs.Prelude.{◌≡◌, List, ℕ, length}
use Rattle.words.specs.Word.{Word, nf}
use Rattle.words.specs.Bytes.{word}
use Rattle.words.specs.Calls.{written}
use Rattle.refusals.specs.Questions.{Asked}
use Rattle.products.specs.Product.{generators, signed, inverses, with_inverses}
use Rattle.lists.specs.NormalList.{total, normal_bytes}
use Rattle.sizes.specs.Questions.{side}
use Rattle.engine.specs.Calls.{Verdict, Lent, Judged}
use Rattle.subgroups.specs.Questions.{of_signed}

-- By what the questions say: the verdict is right for the generators and their inverses as the plain one is for the generators. 02: "The caller lends a second
-- letter slice, in which the engine writes the inverses' normal forms one behind the other and leaves the rest." A refusal leaves all of it.
pub record SignedJudged (asked : Asked) (gens : List Word) (target : Word) (n : ℕ) (r : Verdict) (before after : Lent) (slice slice' : List ℕ) : Type 0 where
  pub judged : Judged asked (side (total (with_inverses gens)) (length (nf target))) (signed gens) target n r before after
  pub inverses_written : slice' ≡ written asked (normal_bytes (inverses gens)) slice

-- The signed verdict, where `slice` and `slice'` are what the inverse slice holds before and after.
abbrev pub JudgesSigned : List ℕ → List ℕ → List ℕ → ℕ → Verdict → Lent → Lent → List ℕ → List ℕ → Type 0
JudgesSigned bytes ends target n r before after slice slice' =
    SignedJudged (of_signed bytes ends target n (length before.first) (length before.second) (length before.witness) (length slice))
    (generators bytes ends) (word target) n r before after slice slice'
