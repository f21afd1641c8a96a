-- What the bounded verdict promises. Document 01, "The verdict", and demand 3. Assumes nothing: these are definitions.
use Rattle.std.specs.Prelude.{Option, Some, None, Result, Ok, Err, ◌≡◌, List, ℕ, length, take, drop}
use Rattle.words.specs.Word.{Word, nf}
use Rattle.words.specs.Bytes.{word}
use Rattle.words.specs.declared.Factors.{Factors}
use Rattle.refusals.specs.declared.Refusal.{Refusal}
use Rattle.refusals.specs.Questions.{Asked}
use Rattle.products.specs.Product.{generators, Family, plain, NoneRight, MemberRight}
use Rattle.lists.specs.NormalList.{total}
use Rattle.sizes.specs.Questions.{side}
use Rattle.sizes.specs.Zeroing.{zeroed}
pub use Rattle.search.specs.Search.{Lent}
use Rattle.engine.specs.Questions.{of_product}

-- A member with the count of its factors, or none; or why the call refuses.
abbrev pub Verdict : Type 0
Verdict = Result (Option Factors) Refusal

-- A verdict on the target, by a family of factors and the bound, with what the witness holds before and after. There is but one: a right member is the
-- only one (`member_unique` of Rattle.products).
abbrev pub VerdictRight : Family → Word → ℕ → Verdict → List ℕ → List ℕ → Type 0
VerdictRight family target n (Ok (Some count)) before after =
    MemberRight family target n (take count.0 after) count.0 × (drop count.0 after ≡ drop count.0 before)
VerdictRight family target n (Ok None) before after = NoneRight family target n × (after ≡ before)
VerdictRight family target n (Err refusal) before after = ⊥

-- By what the questions say: a refusal changes nothing lent; a verdict is right, and leaves both tables zeroed for the side q.
abbrev pub Judged : Asked → ℕ → Family → Word → ℕ → Verdict → Lent → Lent → Type 0
Judged (Err refusal) q family target n r before after = (r ≡ Err refusal) × (after ≡ before)
Judged (Ok _) q family target n r before after =
    VerdictRight family target n r before.witness after.witness
    × (after.first ≡ zeroed q before.first)
    × (after.second ≡ zeroed q before.second)

-- The verdict on a target, whose letters are asked for where it is given by letters.
abbrev pub JudgesProduct : List ℕ → List ℕ → List ℕ → Word → ℕ → Verdict → Lent → Lent → Type 0
JudgesProduct bytes ends letters target n r before after =
    Judged (of_product bytes ends letters target n (length before.first) (length before.second) (length before.witness))
    (side (total (generators bytes ends)) (length (nf target)))
    (plain (generators bytes ends)) target n r before after

-- The verdict on a target that is given by its letters.
abbrev pub Judges : List ℕ → List ℕ → List ℕ → ℕ → Verdict → Lent → Lent → Type 0
Judges bytes ends target n r before after = JudgesProduct bytes ends target (word target) n r before after
