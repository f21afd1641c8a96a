-- A stack that holds a word: what a letter that is pushed, and letters that are popped, make of it. Assumes nothing.
use mathlib.Core.Path.{◌≡◌, refl, sym, ap, ◌∙◌}
use mathlib.Core.List.{List, [], ◌∷◌, ◌++◌, reverse, reverse-cons, reverse-append, reverse-reverse, map-append}
use Prim.Native.Nat.{ℕ, suc, ◌+◌, ◌-◌, ◌≤◌, ◌<◌}
use native.Mathlib.Numerals.{add-one}
use native.Mathlib.Omega.{arith}
use lib.ListN.{length, take, set, get_or, length-append, length-reverse, length-set}
use lib.Seq.{take-suc, take-suc-set, take-take, take_at, length-take-le}
use Rattle.words.specs.Word.{Letter, R, S, Word, arrive}
use Rattle.words.specs.Bytes.{byte, bytes, letter, word}
use Rattle.words.specs.Arrival.{ending_of, below, Held, SomeHeld, Arrives}
use Rattle.words.specs.declared.Ending.{Ending}
use Rattle.words.specs.declared.Ending.TheVariants.{Nothing, R as One-R, S as One-S, SS as Two-S}
use Rattle.words.specs.declared.arrival.Top.{Top}
use Rattle.words.proofs.Bytes.{letter_r, letter_s, word_bytes, length_bytes}
use Rattle.words.proofs.Accounting.{rs_cancel, rs_of_s}

-- the word one letter higher
pub below_suc : (s : List ℕ) (k : ℕ) → k < length s → below s (suc k) ≡ letter (get_or s k 0) ∷ below s k
below_suc s k h =
    ap (λ (l : List ℕ). reverse (word l)) (take-suc s k 0 h) ∙ ap reverse (map-append letter (take k s) (get_or s k 0 ∷ [])) ∙ reverse-append (word (take k s)) (letter (get_or s k 0) ∷ [])

-- ---- a stack that holds a word

spells_below : (s : List ℕ) (len : ℕ) (w : Word) → take len s ≡ bytes (reverse w) → below s len ≡ w
spells_below s len w e = ap (λ (l : List ℕ). reverse (word l)) e ∙ ap reverse (word_bytes (reverse w)) ∙ reverse-reverse w

pub held_below : (s : List ℕ) (len : ℕ) (ending : Ending) (w : Word) → Held s len ending w → below s len ≡ w
held_below s len ending w h = spells_below s len w h.spelled

pub held_length : (s : List ℕ) (len : ℕ) (ending : Ending) (w : Word) → Held s len ending w → len ≡ length w
held_length s len ending w h = sym (length-take-le len s h.within) ∙ ap length h.spelled ∙ length_bytes (reverse w) ∙ length-reverse w

pub held_push : (s : List ℕ) (len : ℕ) (ending : Ending) (w : Word) (a : Letter) → Held s len ending w → len < length s → Held (set s len (byte a)) (len + 1) (ending_of (a ∷ w)) (a ∷ w)
held_push s len ending w a h k =
    record {
      within = rw length-set (omega arith);
      spelled =
          rw (add-one len)
          (take-suc-set s len (byte a) k ∙ ap (λ (l : List ℕ). l ++ (byte a ∷ [])) h.spelled ∙ sym (map-append byte (reverse w) (a ∷ [])) ∙ ap bytes (sym (reverse-cons a w)));
      ends = refl;
    }

pub held_pop : (s : List ℕ) (len : ℕ) (ending : Ending) (x w : Word) → Held s len ending (x ++ w) → Held s (len - length x) (ending_of (below s (len - length x))) w
held_pop s len ending x w h =
    record { within = omega (arith, h.within); spelled = spelled; ends = ap ending_of (spells_below s (len - length x) w spelled) }
  where
    height : length (bytes (reverse w)) ≡ len - length x
    height = omega (arith, held_length s len ending (x ++ w) h, length-append x w, length_bytes (reverse w), length-reverse w)

    spelled : take (len - length x) s ≡ bytes (reverse w)
    spelled =
        sym (take-take (len - length x) len s (omega arith)) ∙ ap (take (len - length x)) (h.spelled ∙ ap bytes (reverse-append x w) ∙ map-append byte (reverse w) (reverse x)) ∙ take_at (bytes (reverse w)) (bytes (reverse x)) (len - length x) height

-- ---- what a letter that goes makes of the stack, by the ending that it meets

cancels_r : (s : List ℕ) (len : ℕ) (w : Word) → Held s len One-R w → Held s (len - 1) (ending_of (below s (len - 1))) (arrive R w)
cancels_r s len [] h = absurd (cc (h.ends))
cancels_r s len (R ∷ w) h = held_pop s len One-R (R ∷ []) w h
cancels_r s len (S ∷ []) h = absurd (cc (h.ends))
cancels_r s len (S ∷ R ∷ w) h = absurd (cc (h.ends))
cancels_r s len (S ∷ S ∷ w) h = absurd (cc (h.ends))

cancels_ss : (s : List ℕ) (len : ℕ) (w : Word) → Held s len Two-S w → Held s (len - 2) (ending_of (below s (len - 2))) (arrive S w)
cancels_ss s len [] h = absurd (cc (h.ends))
cancels_ss s len (R ∷ w) h = absurd (cc (h.ends))
cancels_ss s len (S ∷ []) h = absurd (cc (h.ends))
cancels_ss s len (S ∷ R ∷ w) h = absurd (cc (h.ends))
cancels_ss s len (S ∷ S ∷ w) h = held_pop s len Two-S (S ∷ S ∷ []) w h

-- The two ways in which a letter goes, each by what the code then knows: b is the letter's byte, and `Pops` says what the letters that are popped leave of
-- the stack's top.
module _ (s : List ℕ) (top : Top) (b : ℕ) (top' : Top) where
  abbrev Pops : ℕ → ℕ → ℕ → Type 0
  Pops count pairs triples =
      (top'.len ≡ top.len - count) × (top'.ending ≡ ending_of (below s (top.len - count))) × (top'.pairs ≡ pairs) × (top'.triples ≡ triples)

  pub r_cancels : b ≡ 82 → top.ending ≡ One-R → 1 ≤ top.len → Pops 1 (top.pairs + 1) top.triples → Arrives (letter b ∷ []) s top s top'
  r_cancels is meets some pop =
      record {
        held = λ w h. rw (letter_r b is, pop.0, pop.1) (cancels_r s top.len w (rw meets at h));
        letters = omega arith;
        rs_gone = λ w h. rw (letter_r b is) (omega (arith, rs_cancel w (sym meets ∙ h.ends)));
      }

  pub s_cancels : (b ≡ 82 → ⊥) → top.ending ≡ Two-S → 2 ≤ top.len → Pops 2 top.pairs (top.triples + 1) → Arrives (letter b ∷ []) s top s top'
  s_cancels is meets some pop =
      record {
        held = λ w h. rw (letter_s b is, pop.0, pop.1) (cancels_ss s top.len w (rw meets at h));
        letters = omega arith;
        rs_gone = λ w h. rw (letter_s b is) (omega (arith, rs_of_s w));
      }

-- there are four endings, so one that is none of the first three is the last
pub ending_3 : (s : List ℕ) (len : ℕ) (ending : Ending) → SomeHeld s len ending → (ending ≡ Nothing → ⊥) → (ending ≡ One-R → ⊥) → (ending ≡ One-S → ⊥) → ending ≡ Two-S
ending_3 s len ending (w, h) not_nothing not_r not_s = at w h.ends
  where
    at : (w : Word) → ending ≡ ending_of w → ending ≡ Two-S
    at [] e = absurd (not_nothing e)
    at (R ∷ w) e = absurd (not_r e)
    at (S ∷ []) e = absurd (not_s e)
    at (S ∷ R ∷ w) e = absurd (not_s e)
    at (S ∷ S ∷ w) e = e

-- a word whose ending is R has a letter, and one whose ending is SS has two
pub height_r : (s : List ℕ) (len : ℕ) (ending : Ending) → SomeHeld s len ending → ending ≡ One-R → 1 ≤ len
height_r s len ending (w, h) e = at w (held_length s len ending w h) (sym e ∙ h.ends)
  where
    at : (w : Word) → len ≡ length w → One-R ≡ ending_of w → 1 ≤ len
    at [] l n = absurd (cc)
    at (a ∷ w) l n = omega arith

pub height_ss : (s : List ℕ) (len : ℕ) (ending : Ending) → SomeHeld s len ending → ending ≡ Two-S → 2 ≤ len
height_ss s len ending (w, h) e = at w (held_length s len ending w h) (sym e ∙ h.ends)
  where
    at : (w : Word) → len ≡ length w → Two-S ≡ ending_of w → 2 ≤ len
    at [] l n = absurd (cc)
    at (R ∷ w) l n = absurd (cc)
    at (S ∷ []) l n = absurd (cc)
    at (S ∷ R ∷ w) l n = absurd (cc)
    at (S ∷ S ∷ w) l n = omega arith
