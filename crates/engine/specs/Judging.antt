-- The steps from what is ready to a verdict: inner contracts of the engine. Assumes nothing: these are definitions.
use Rattle.std.specs.Prelude.{Ok, Err, ◌≡◌, List, ℕ, ◌*◌, length, drop}
use Rattle.words.specs.Word.{Word}
use Rattle.products.specs.Product.{Family, plain}
use Rattle.refusals.specs.declared.Refusal.TheVariants.{TableTooShort}
use Rattle.refusals.specs.Questions.{passed}
use Rattle.search.specs.Search.{Found}
use Rattle.sizes.specs.Questions.{side, of_sizes}
use Rattle.engine.specs.Calls.{Verdict, Lent, VerdictRight, Judged}

-- what a search finds, as a verdict
abbrev pub of_found : Found → Verdict
of_found (Ok series) = Ok series
of_found (Err unfit) = Err TableTooShort

-- A verdict before the tables are zeroed: beyond q × q they remain.
pub record Settled (q : ℕ) (family : Family) (target : Word) (n : ℕ) (r : Verdict) (before after : Lent) : Type 0 where
  pub right : VerdictRight family target n r before.witness after.witness
  pub first : drop (q * q) after.first ≡ drop (q * q) before.first
  pub second : drop (q * q) after.second ≡ drop (q * q) before.second

-- The verdict on a form by reduced generators of m letters together: where questions 12 to 15 have passed, and after they are asked.
abbrev pub SettlesForm : ℕ → List Word → Word → ℕ → Verdict → Lent → Lent → Type 0
SettlesForm m gens form n r before after =
    of_sizes m (length form) n (length before.first) (length before.second) (length before.witness) ≡ passed
    → Judged passed (side m (length form)) (plain gens) form n r before after

abbrev pub JudgesForm : ℕ → List Word → Word → ℕ → Verdict → Lent → Lent → Type 0
JudgesForm m gens form n r before after =
    Judged (of_sizes m (length form) n (length before.first) (length before.second) (length before.witness))
    (side m (length form)) (plain gens) form n r before after
