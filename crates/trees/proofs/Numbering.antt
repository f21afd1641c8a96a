-- A list of words with one more, or with the suffixes of a word: what is among them already, what stays, and what is new. Assumes nothing.
use mathlib.Core.Bool.{Bool, true, false, false≢true}
use mathlib.Core.Path.{◌≡◌, refl, sym, ap, ◌∙◌}
use mathlib.Core.List.{List, [], ◌∷◌, ◌++◌}
use Prim.Native.Nat.{ℕ, zero, suc, ◌≤◌, ◌<◌, zero-le, suc-le-suc}
use native.Mathlib.Nat.{le_refl, not-suc-le-zero, le_of_suc-le-suc}
use native.Mathlib.Decide.{dec_lt}
use native.Mathlib.Omega.{arith}
use lib.ListN.{length}
use Rattle.words.specs.Word.{R, S, Word}
use Rattle.refusals.specs.Telling.{pick}
use Rattle.trees.specs.Tree.{word_at}
use Rattle.trees.specs.Numbering.{same_word, has_word, with_word, with_suffixes}
use Rattle.trees.proofs.Behind.{behind, behind_length, behind_old, behind_new}

-- ---- the tests

pub same_word_self : (u : Word) → same_word u u ≡ true
same_word_self [] = refl
same_word_self (R ∷ u) = same_word_self u
same_word_self (S ∷ u) = same_word_self u

pub same_word_true : (u v : Word) → same_word u v ≡ true → u ≡ v
same_word_true [] [] e = refl
same_word_true [] (b ∷ v) e = absurd (false≢true e)
same_word_true (a ∷ u) [] e = absurd (false≢true e)
same_word_true (R ∷ u) (R ∷ v) e = ap (λ (w : Word). R ∷ w) (same_word_true u v e)
same_word_true (R ∷ u) (S ∷ v) e = absurd (false≢true e)
same_word_true (S ∷ u) (R ∷ v) e = absurd (false≢true e)
same_word_true (S ∷ u) (S ∷ v) e = ap (λ (w : Word). S ∷ w) (same_word_true u v e)

has_word_lem : (words : List Word) (q : Word) (p : ℕ) → p < length words → word_at words p ≡ q → has_word words q ≡ true
has_word_lem [] q p h e = absurd (not-suc-le-zero h)
has_word_lem (w ∷ words) q zero h e = rw (← e, same_word_self w)
has_word_lem (w ∷ words) q (suc p) h e = by (same_word w q) (has_word_lem words q p (le_of_suc-le-suc h) e)
  where
    by : (t : Bool) → has_word words q ≡ true → pick t true (has_word words q) ≡ true
    by true f = refl
    by false f = f

has_not : (words : List Word) (q : Word) → ((p : ℕ) → p < length words → word_at words p ≡ q → ⊥) → has_word words q ≡ false
has_not [] q none = refl
has_not (w ∷ words) q none = by (same_word w q) refl (has_not words q (λ p h. none (suc p) (suc-le-suc h)))
  where
    by : (t : Bool) → same_word w q ≡ t → has_word words q ≡ false → pick t true (has_word words q) ≡ false
    by true s f = absurd (none 0 (suc-le-suc zero-le) (same_word_true w q s))
    by false s f = f

-- ---- one word more

module _ (words : List Word) (q : Word) where
  pub with_there : (p : ℕ) → p < length words → word_at words p ≡ q → with_word words q ≡ words
  with_there p h e = ap (λ (t : Bool). pick t words (behind words q)) (has_word_lem words q p h e)

  pub with_new : ((p : ℕ) → p < length words → word_at words p ≡ q → ⊥) → with_word words q ≡ behind words q
  with_new none = ap (λ (t : Bool). pick t words (behind words q)) (has_not words q none)

  word_more : (t : Bool) → length words ≤ length (pick t words (behind words q))
  word_more true = le_refl (length words)
  word_more false = omega (arith, behind_length words q)

  word_kept : (t : Bool) (p : ℕ) → p < length words → word_at (pick t words (behind words q)) p ≡ word_at words p
  word_kept true p h = refl
  word_kept false p h = behind_old words q p h

  word_new : (t : Bool) (p : ℕ) → length words ≤ p → p < length (pick t words (behind words q)) → word_at (pick t words (behind words q)) p ≡ q
  word_new true p h k = absurd (omega arith)
  word_new false p h k =
      let last : p ≡ length words = omega (arith, behind_length words q) in
      ap (word_at (behind words q)) last ∙ behind_new words q

-- ---- the suffixes of a word

module _ (words : List Word) where
  pub suffixes_more : (w : Word) → length words ≤ length (with_suffixes words w)
  suffixes_more [] = le_refl (length words)
  suffixes_more (a ∷ w) =
      omega (arith, suffixes_more w, word_more (with_suffixes words w) (a ∷ w) (has_word (with_suffixes words w) (a ∷ w)))

  pub suffixes_kept : (w : Word) (p : ℕ) → p < length words → word_at (with_suffixes words w) p ≡ word_at words p
  suffixes_kept [] p h = refl
  suffixes_kept (a ∷ w) p h =
      word_kept (with_suffixes words w) (a ∷ w) (has_word (with_suffixes words w) (a ∷ w)) p (omega (arith, suffixes_more w)) ∙ suffixes_kept w p h

  -- what is new is a suffix
  pub suffixes_new : (w : Word) (p : ℕ) → length words ≤ p → p < length (with_suffixes words w) → (x : Word) × (w ≡ x ++ word_at (with_suffixes words w) p)
  suffixes_new [] p h k = absurd (omega arith)
  suffixes_new (a ∷ w) p h k =
      let shorter = with_suffixes words w in
      let there = has_word shorter (a ∷ w) in
      elim (dec_lt p (length shorter)) [
        | yes old ↦
            let (x, is) = suffixes_new w p h old in
            (a ∷ x, ap (λ (v : Word). a ∷ v) (is ∙ ap (λ (v : Word). x ++ v) (sym (word_kept shorter (a ∷ w) there p old))))
        | no new ↦ ([], sym (word_new shorter (a ∷ w) there p (omega arith) k))
      ]
