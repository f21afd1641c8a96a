-- The first byte that is no letter, in two slices one behind the other. Assumes nothing.
use mathlib.Core.Bool.{Bool, true, false}
use mathlib.Core.Path.{◌≡◌, refl, sym, ap, subst, ◌∙◌}
use mathlib.Core.List.{List, [], ◌∷◌, ◌++◌}
use Prim.Native.Nat.{ℕ, zero, suc, ◌+◌, ◌-◌, ◌≤◌, ◌<◌}
use native.Mathlib.Nat.{lt_of_not-le}
use native.Mathlib.Decide.{dec_le}
use native.Mathlib.Omega.{arith}
use lib.ListN.{length, take, drop, take-append-drop, length-append}
use lib.Seq.{slice, take-nil}
use Rattle.refusals.specs.Telling.{pick}
use Rattle.refusals.specs.Questions.{is_letter, first_other}
use Rattle.lists.specs.Reducing.{AllLetters}

pub first_other_front : (u v : List ℕ) → first_other u < length u → first_other (u ++ v) ≡ first_other u
first_other_front [] v h = absurd (omega arith)
first_other_front (b ∷ u) v h = at (is_letter b) h (first_other_front u v)
  where
    at : (t : Bool) → pick t (suc (first_other u)) 0 < suc (length u) → (first_other u < length u → first_other (u ++ v) ≡ first_other u)
        → pick t (suc (first_other (u ++ v))) 0 ≡ pick t (suc (first_other u)) 0
    at true h later = ap suc (later (omega arith))
    at false h later = refl

pub first_other_behind : (u v : List ℕ) → length u ≤ first_other u → first_other (u ++ v) ≡ length u + first_other v
first_other_behind [] v h = omega arith
first_other_behind (b ∷ u) v h = at (is_letter b) h (first_other_behind u v)
  where
    at : (t : Bool) → suc (length u) ≤ pick t (suc (first_other u)) 0 → (length u ≤ first_other u → first_other (u ++ v) ≡ length u + first_other v)
        → pick t (suc (first_other (u ++ v))) 0 ≡ suc (length u) + first_other v
    at true h later = omega (arith, later (omega arith))
    at false h later = absurd (omega arith)

-- where every byte of two slices is a letter, every byte of each is
pub all_letters_front : (u v : List ℕ) → AllLetters (u ++ v) → AllLetters u
all_letters_front u v h =
    elim (dec_le (length u) (first_other u)) [
      | yes k ↦ k
      | no k ↦ absurd (omega (arith, lt_of_not-le k, first_other_front u v (lt_of_not-le k), length-append u v))
    ]

pub all_letters_behind : (u v : List ℕ) → AllLetters (u ++ v) → AllLetters v
all_letters_behind u v h = omega (arith, first_other_behind u v (all_letters_front u v h), length-append u v)

pub all_letters_slice : (bytes : List ℕ) (from end : ℕ) → AllLetters bytes → AllLetters (slice from end bytes)
all_letters_slice bytes from end h =
    let front = all_letters_front (take end bytes) (drop end bytes) (subst AllLetters (sym (take-append-drop end bytes)) h) in
    all_letters_behind (take from (take end bytes)) (slice from end bytes) (subst AllLetters (sym (take-append-drop from (take end bytes))) front)

-- a part of a slice, as the language has it and as document 01 speaks of it
pub part_slice : (bytes : List ℕ) (from end : ℕ) → from ≤ end → take (end - from) (drop from bytes) ≡ slice from end bytes
part_slice bytes zero end h =
    let all : end - 0 ≡ end = omega arith in
    ap (λ (n : ℕ). take n bytes) all
part_slice bytes (suc from) zero h = absurd (omega arith)
part_slice [] (suc from) (suc end) h = take-nil (suc end - suc from)
part_slice (b ∷ bytes) (suc from) (suc end) h =
    let fewer : suc end - suc from ≡ end - from = omega arith in
    ap (λ (n : ℕ). take n (drop from bytes)) fewer ∙ part_slice bytes from end (omega arith)
