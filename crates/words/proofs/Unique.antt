-- The contract of reduction leaves no choice: two outcomes that meet it for the same word and slice are one, the counts too. Assumes nothing.
use mathlib.Core.Path.{◌≡◌, refl, sym, ◌∙◌}
use mathlib.Core.List.{List}
use Prim.Native.Nat.{ℕ}
use native.Mathlib.Omega.{arith}
use Rattle.std.specs.Prelude.{Result, Ok, Err}
use Rattle.words.specs.Calls.{length_of, Reduces}
use Rattle.words.specs.declared.Account.{Account}
use Rattle.refusals.specs.declared.Refusal.{Refusal}
use Rattle.words.proofs.Accounting.{accounts_unique}

-- answers with the same length are one where their counts are
answers_alike : (r r' : Result Account Refusal) → length_of r ≡ length_of r'
    → ((a b : Account) → r ≡ Ok a → r' ≡ Ok b → (a.pairs ≡ b.pairs) × (a.triples ≡ b.triples)) → r ≡ r'
answers_alike (Ok a) (Ok b) e counts =
    let same = counts a b refl refl in
    let kept : a.kept ≡ b.kept = cc in
    let pairs = same.0 in
    let triples = same.1 in
    rw (kept, pairs, triples) refl
answers_alike (Ok a) (Err q) e counts = let z : ◌≡◌ {A = ℕ} 0 1 = cc in absurd (omega arith)
answers_alike (Err q) (Ok b) e counts = let z : ◌≡◌ {A = ℕ} 0 1 = cc in absurd (omega arith)
answers_alike (Err q) (Err p) e counts = cc

pub reduces_unique : {w before : List ℕ} {r r' : Result Account Refusal} {after after' : List ℕ} → Reduces w before r after → Reduces w before r' after' → (r ≡ r') × (after ≡ after')
reduces_unique {w} {r = r} {r'} h k = (
  answers_alike r r' (h.writes.answer ∙ sym k.writes.answer) (λ a b e f. accounts_unique (h.accounts a e) (k.accounts b f)),
  h.writes.slice ∙ sym k.writes.slice,
)
