-- What reduction tells of the letters that went. Document 02, M-104: "how many RR pairs and how many SSS triples went". Assumes nothing: these are definitions.
-- That both numbers are fixed by the two words, and are those of every way to erase one pair or triple after the other, is in `proofs/Accounting.antt`.
use Rattle.std.specs.Prelude.{◌≡◌, [], ◌∷◌, ◌++◌, ℕ, suc, ◌+◌, ◌*◌, length}
use Rattle.words.specs.Word.{R, S, Word}

-- the R's of a word
abbrev pub rs : Word → ℕ
rs [] = 0
rs (R ∷ w) = suc (rs w)
rs (S ∷ w) = rs w

-- 02: "The input's length equals the kept letters plus 2 times the pairs plus 3 times the triples. The R's of the input, less those kept, are 2 times the
-- pairs".
pub record Accounts (w kept : Word) (pairs triples : ℕ) : Type 0 where
  pub letters : length w ≡ length kept + 2 * pairs + 3 * triples
  pub rs_gone : rs w ≡ rs kept + 2 * pairs

-- One pair RR, or one triple SSS, is erased after the other, anywhere in the word: so many of each lead from the first word to the second.
pub data Erases : Word → Word → ℕ → ℕ → Type 0 where
  nothing : {w : Word} → Erases w w 0 0
  pair : (x y : Word) {v : Word} {pairs triples : ℕ} → Erases (x ++ y) v pairs triples → Erases (x ++ R ∷ R ∷ y) v (suc pairs) triples
  triple : (x y : Word) {v : Word} {pairs triples : ℕ} → Erases (x ++ y) v pairs triples → Erases (x ++ S ∷ S ∷ S ∷ y) v pairs (suc triples)
