-- A signed list is a plain list of twice as many generators: its own, and their inverses behind them. The numbers by which the second half is written keep the
-- order of the places, so a verdict on the one is a verdict on the other.
--     signed_none_of, signed_member_of     a right verdict on the doubled list is one on the signed list, its factors written as signed numbers
-- Assumes at most 128 generators, so that no number is that of a generator and of an inverse.
use mathlib.Core.Path.{◌≡◌, refl, ap, ◌∙◌}
use mathlib.Core.List.{List, [], ◌∷◌, map}
use Prim.Native.Nat.{ℕ, ◌+◌, ◌-◌, ◌≤◌, ◌<◌}
use native.Mathlib.Decide.{dec_lt}
use native.Mathlib.Omega.{arith}
use borrow.Author.Tests.{lt-ltb, le-ltb}
use lib.Dec.{ltb}
use lib.ListN.{length, length-append, length-map, get_or-append, get_or-map}
use lib.Seq.{get_or-append-add}
use Rattle.refusals.specs.Telling.{pick}
use Rattle.words.specs.Word.{Word, inverse}
use Rattle.products.specs.Product.{generator, Factor, Each, spelled, letters, plain, signed, inverse_mark, inverses, with_inverses, NoneRight, MemberRight, Before, smaller, further}
use Rattle.products.specs.Doubled.{signed_number}
use Rattle.products.proofs.Series.{each_on, each_map, spelled_on, spelled_map}
use Rattle.products.proofs.Order.{before_nothing}
use Rattle.products.proofs.Alike.{Alike, none_alike, member_alike}

-- Place i of the doubled list is the factor that is written as k: a generator at its own number, or an inverse, `count` places behind it.
pub data Twin (count : ℕ) (i k : ℕ) : Type 0 where
  given : i < count → k ≡ i → Twin count i k
  inverted : (j : ℕ) → j < count → i ≡ count + j → k ≡ inverse_mark + j → Twin count i k

-- the place of the factor that is written as k
abbrev pub place : ℕ → ℕ → ℕ
place count k = pick (ltb k inverse_mark) k (count + (k - inverse_mark))

pub doubled_length : (gens : List Word) → length (with_inverses gens) ≡ length gens + length gens
doubled_length gens = length-append gens (inverses gens) ∙ ap (λ (n : ℕ). length gens + n) (length-map gens inverse)

-- a generator's inverse, `length gens` places behind it
doubled_behind : (gens : List Word) (j : ℕ) → generator (with_inverses gens) (length gens + j) ≡ inverse (generator gens j)
doubled_behind gens j = get_or-append-add gens (inverses gens) j [] ∙ get_or-map inverse gens j []

-- each signed number is that of a place
pub twin_of_number : (gens : List Word) (k : ℕ) → (signed gens).Number k → Twin (length gens) (place (length gens) k) k
twin_of_number gens k h =
    elim (dec_lt k inverse_mark) [
      | yes l ↦ rw (lt-ltb k inverse_mark l) (given (rw (lt-ltb k inverse_mark l) at h) refl)
      | no l ↦
          let above : inverse_mark ≤ k = omega arith in
          rw (le-ltb k inverse_mark above) (inverted (k - inverse_mark) (rw (le-ltb k inverse_mark above) at h) refl (omega arith))
    ]

-- the number without its mark
unmarked : (j : ℕ) → inverse_mark + j - inverse_mark ≡ j
unmarked j = omega arith

module _ (gens : List Word) (few : length gens ≤ inverse_mark) where
  -- a generator's number names the generator, and 128 more its inverse
  pub number_given : (i : ℕ) → Factor gens i → (signed gens).Number i
  number_given i h = rw (lt-ltb i inverse_mark (omega arith)) h

  pub word_given : (i : ℕ) → Factor gens i → (signed gens).word_of i ≡ generator gens i
  word_given i h = rw (lt-ltb i inverse_mark (omega arith))

  pub number_inverted : (j : ℕ) → Factor gens j → (signed gens).Number (inverse_mark + j)
  number_inverted j h = rw (le-ltb (inverse_mark + j) inverse_mark (omega arith), unmarked) h

  pub word_inverted : (j : ℕ) → (signed gens).word_of (inverse_mark + j) ≡ inverse (generator gens j)
  word_inverted j = rw (le-ltb (inverse_mark + j) inverse_mark (omega arith), unmarked)

  twin_of_place : (i : ℕ) → Factor (with_inverses gens) i → Twin (length gens) i (signed_number (length gens) i)
  twin_of_place i h =
      let size = doubled_length gens in
      elim (dec_lt i (length gens)) [
        | yes l ↦ given l (rw (lt-ltb i (length gens) l))
        | no l ↦ inverted (i - length gens) (omega arith) (omega arith) (rw (le-ltb i (length gens) (omega arith)))
      ]

  twin_number : {i k : ℕ} → Twin (length gens) i k → (signed gens).Number k
  twin_number {i} (given h e) = rw e (number_given i h)
  twin_number (inverted j h d e) = rw e (number_inverted j h)

  twin_place : {i k : ℕ} → Twin (length gens) i k → Factor (with_inverses gens) i
  twin_place (given h e) = omega (arith, doubled_length gens)
  twin_place (inverted j h d e) = omega (arith, doubled_length gens)

  twin_word : {i k : ℕ} → Twin (length gens) i k → generator (with_inverses gens) i ≡ (signed gens).word_of k
  twin_word {i} (given h e) = rw (e, word_given i h) (get_or-append gens (inverses gens) [] i h)
  twin_word (inverted j h d e) = rw (d, e, word_inverted j) (doubled_behind gens j)

  -- The order of the numbers is that of the places, and no number stands for two of them.
  twin_order : {i j k l : ℕ} → Twin (length gens) i k → Twin (length gens) j l → k < l → i < j
  twin_order (given h e) (given h' e') less = omega arith
  twin_order (given h e) (inverted j h' d' e') less = omega arith
  twin_order (inverted j h d e) (given h' e') less = absurd (omega arith)
  twin_order (inverted j h d e) (inverted j' h' d' e') less = omega arith

  twin_same : {i j k : ℕ} → Twin (length gens) i k → Twin (length gens) j k → i ≡ j
  twin_same (given h e) (given h' e') = omega arith
  twin_same (given h e) (inverted j h' d' e') = omega arith
  twin_same (inverted j h d e) (given h' e') = omega arith
  twin_same (inverted j h d e) (inverted j' h' d' e') = omega arith

  before_places : (s r : List ℕ) → Each (signed gens).Number s → Each (Factor (with_inverses gens)) r
      → Before s (map (signed_number (length gens)) r) → Before (map (place (length gens)) s) r
  before_places s [] f g b = absurd (before_nothing b)
  before_places [] (i ∷ r) f g b = elim b [ ]
  before_places (k ∷ s) (i ∷ r) f g (smaller h) = smaller (twin_order (twin_of_number gens k f.0) (twin_of_place i g.0) h)
  before_places (k ∷ s) (i ∷ r) f g (further b) =
      rw (twin_same (twin_of_number gens k f.0) (twin_of_place i g.0)) (further (before_places s r f.1 g.1 b))

  signed_alike : (target : Word)
      → Alike (plain (with_inverses gens)) (signed gens) target target (map (signed_number (length gens))) (map (place (length gens)))
  signed_alike target =
      record {
        series_there = λ r h. each_map (signed gens).Number number r (each_on (Factor (with_inverses gens)) (λ i f. twin_number (twin_of_place i f)) r h);
        series_back = λ s h. each_map (Factor (with_inverses gens)) placed s (each_on (signed gens).Number (λ k f. twin_place (twin_of_number gens k f)) s h);
        reaches_there = λ r h e. rw (letters_there r h) at e;
        reaches_back = λ s h e. rw (letters_back s h) e;
        length_there = λ r. length-map r number;
        length_back = λ s. length-map s placed;
        before_back = before_places;
      }
    where
      number : ℕ → ℕ
      number = signed_number (length gens)

      placed : ℕ → ℕ
      placed = place (length gens)

      letters_there : (r : List ℕ) → Each (Factor (with_inverses gens)) r → letters (with_inverses gens) r ≡ spelled (signed gens).word_of (map number r)
      letters_there r h =
          rw (spelled_map (signed gens).word_of number r) (spelled_on (Factor (with_inverses gens)) (λ i f. twin_word (twin_of_place i f)) r h)

      letters_back : (s : List ℕ) → Each (signed gens).Number s → letters (with_inverses gens) (map placed s) ≡ spelled (signed gens).word_of s
      letters_back s h =
          rw (spelled_map (generator (with_inverses gens)) placed s) (spelled_on (signed gens).Number (λ k f. twin_word (twin_of_number gens k f)) s h)

  pub signed_none_of : (target : Word) (n : ℕ) → NoneRight (plain (with_inverses gens)) target n → NoneRight (signed gens) target n
  signed_none_of target n right = none_alike (signed_alike target) n right

  pub signed_member_of : (target : Word) (n : ℕ) (factors : List ℕ) (count : ℕ)
      → MemberRight (plain (with_inverses gens)) target n factors count → MemberRight (signed gens) target n (map (signed_number (length gens)) factors) count
  signed_member_of target n factors count right = member_alike (signed_alike target) n factors count right
