-- The rows of a target. Row i is about the word that undoes the target's first i letters, and the last row's entry at nothing is the verdict.
-- Here is what makes rows closed and what makes their entries attained, and
--     read_sound, chain_sound   what the two rules of the rows promise of a series, said without inverses
-- Assumes nothing.
use mathlib.Core.Path.{◌≡◌}
use mathlib.Core.Logic.{◌⊎◌}
use mathlib.Core.List.{List, [], ◌∷◌, ◌++◌, append_assoc}
use Prim.Native.Nat.{ℕ, suc, ◌+◌, ◌≤◌, ◌<◌}
use lib.ListN.{length, take, get_or}
use lib.Seq.{take-suc}
use Rattle.words.specs.Word.{Letter, R, Word, Equal, then}
use Rattle.words.proofs.NormalForm.{equal_path, equal_behind, equal_before}
use Rattle.products.specs.Product.{letters}
use Rattle.products.proofs.States.{State, Leads, letters_append}

-- The entry of row i + 1 at q is row i's where the letter a is read, or such an entry and the table's together.
abbrev pub FromRow : List Word → (Word → Word → ℕ) → (ℕ → Word → ℕ) → ℕ → Letter → Word → Type 0
FromRow gens T Row i a q =
    (State gens (a ∷ q) × (Row (suc i) q ≡ Row i (a ∷ q))) ⊎ ((v : Word) × State gens (a ∷ v) × (Row (suc i) q ≡ Row i (a ∷ v) + T v q))

module _ (gens : List Word) (n : ℕ) (T : Word → Word → ℕ) (x : Word) (Row : ℕ → Word → ℕ) where
  -- Row i q is the entry of row i at state q. Row 0 is the table's row of nothing; a letter is read from each row to the next, and rule F
  -- holds within each row. Each wherever the sum is no more than n.
  pub record RowsClosed : Type 0 where
    pub first : (q : Word) → State gens q → Row 0 q ≡ T [] q
    pub read : (i : ℕ) (a : Letter) (q : Word) → i < length x → get_or x i R ≡ a → State gens (a ∷ q) → Row i (a ∷ q) ≤ n → Row (suc i) q ≤ Row i (a ∷ q)
    pub F : (i : ℕ) (v q : Word) → 1 ≤ i → i ≤ length x → State gens v → State gens q → Row i v + T v q ≤ n → Row i q ≤ Row i v + T v q

  -- Each entry up to n comes from the row before. That rows are closed and sound does not give this, and a witness cannot be found without it.
  pub record RowsAttained : Type 0 where
    pub first : (q : Word) → State gens q → Row 0 q ≡ T [] q
    pub attained : (i : ℕ) (a : Letter) (q : Word) → i < length x → get_or x i R ≡ a → State gens q → Row (suc i) q ≤ n → FromRow gens T Row i a q

module _ (gens : List Word) (x : Word) where
  pub read_sound : (i : ℕ) (a : Letter) (q : Word) (r : List ℕ) → i < length x → get_or x i R ≡ a
      → Equal (letters gens r) (take i x ++ a ∷ q) → Equal (letters gens r) (take (suc i) x ++ q)
  read_sound i a q r h e f = rw (take-suc x i R h, e, append_assoc (take i x) (a ∷ []) q) f

  pub chain_sound : (i : ℕ) (v q : Word) (r₁ r₂ : List ℕ)
      → Equal (letters gens r₁) (take i x ++ v) → Leads gens v r₂ q → Equal (letters gens (r₁ ++ r₂)) (take i x ++ q)
  chain_sound i v q r₁ r₂ e l =
      rw (letters_append gens r₁ r₂)
      (then (equal_before (letters gens r₂) e) (then (equal_path (append_assoc (take i x) v (letters gens r₂))) (equal_behind (take i x) l.equal)))
