-- Words and the bytes that spell them. Assumes nothing.
use mathlib.Core.Path.{◌≡◌, refl, ap, ap₂}
use mathlib.Core.List.{[], ◌∷◌}
use Prim.Native.Nat.{ℕ, suc}
use borrow.Author.Tests.{ne_eqb}
use lib.ListN.{length, length-map}
use Rattle.words.specs.Word.{Letter, R, S, Word}
use Rattle.refusals.specs.Questions.{first_other}
use Rattle.words.specs.Bytes.{byte, bytes, letter, word}

pub letter_byte : (a : Letter) → letter (byte a) ≡ a
letter_byte R = refl
letter_byte S = refl

pub letter_r : (b : ℕ) → b ≡ 82 → letter b ≡ R
letter_r b e = ap letter e

pub letter_s : (b : ℕ) → (b ≡ 82 → ⊥) → letter b ≡ S
letter_s b other = simp (ne_eqb b 82 other)

pub word_bytes : (w : Word) → word (bytes w) ≡ w
word_bytes [] = refl
word_bytes (a ∷ w) = ap₂ (λ (x : Letter) (y : Word). x ∷ y) (letter_byte a) (word_bytes w)

pub length_bytes : (w : Word) → length (bytes w) ≡ length w
length_bytes w = length-map w byte

-- every byte of a word is a letter
pub first_other_bytes : (w : Word) → first_other (bytes w) ≡ length (bytes w)
first_other_bytes [] = refl
first_other_bytes (R ∷ w) = ap suc (first_other_bytes w)
first_other_bytes (S ∷ w) = ap suc (first_other_bytes w)
