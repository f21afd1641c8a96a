-- What the public calls on words promise. Assumes nothing: these are definitions.
use Rattle.std.specs.Prelude.{Result, Ok, Err, Bool, ◌≡◌, List, ℕ, ◌*◌, length}
use Rattle.words.specs.Word.{Word, Normal, nf}
use Rattle.words.specs.Bytes.{word, bytes}
use Rattle.words.specs.Account.{Accounts}
use Rattle.refusals.specs.Telling.{Tells}
use Rattle.refusals.specs.Questions.{Asked, of_letters, of_word}
use Rattle.slices.specs.Slices.{overwritten}
use Rattle.refusals.specs.declared.Refusal.{Refusal}
use Rattle.words.specs.declared.Letters.{Letters}
use Rattle.words.specs.declared.Account.{Account}

-- the length written, or the refusal
abbrev pub length_or : Asked → ℕ → Result Letters Refusal
length_or (Ok _) n = Ok (record { 0 = n })
length_or (Err refusal) n = Err refusal

-- 01: "every lent slice remains" after a no; else the new front, "and the bytes behind the written word remain"
abbrev pub written : Asked → List ℕ → List ℕ → List ℕ
written (Ok _) new old = overwritten new old
written (Err refusal) new old = old

-- A call that writes f of the word w, with room for k times w's length asked for, and answers with its length: inversion (f is the normal form of the
-- inverse, k is 2), and reduction but for its counts (f is the normal form, k is 1). `before` and `after` are what the lent slice holds.
pub record Writes (f : Word → Word) (k : ℕ) (w before : List ℕ) (r : Result Letters Refusal) (after : List ℕ) : Type 0 where
  pub answer : r ≡ length_or (of_word w (k * length w) (length before)) (length (f (word w)))
  pub slice : after ≡ written (of_word w (k * length w) (length before)) (bytes (f (word w))) before

-- the length in reduction's answer, or its refusal
abbrev pub length_of : Result Account Refusal → Result Letters Refusal
length_of (Ok account) = Ok account.kept
length_of (Err refusal) = Err refusal

-- 02, M-104: "Reduction returns, beside the length, how many RR pairs and how many SSS triples went."
pub record Reduces (w before : List ℕ) (r : Result Account Refusal) (after : List ℕ) : Type 0 where
  pub writes : Writes nf 1 w before (length_of r) after
  pub accounts : (account : Account) → r ≡ Ok account → Accounts (word w) (nf (word w)) account.pairs account.triples

-- The test of normality answers for a word that passes questions 8 and 10, and else refuses.
abbrev pub TestedRight : Asked → Word → Result Bool Refusal → Type 0
TestedRight (Ok _) w (Ok normal) = Tells normal (Normal w)
TestedRight (Ok _) w (Err refusal) = ⊥
TestedRight (Err q) w r = r ≡ Err q

abbrev pub Tests : List ℕ → Result Bool Refusal → Type 0
Tests w r = TestedRight (of_letters w) (word w) r
