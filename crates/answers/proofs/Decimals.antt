-- Decimal numbers: a number has the digits of a tenth of it and then its last one; they spell the number, and they are few. Assumes nothing.
use mathlib.Core.Bool.{Bool}
use mathlib.Core.Path.{◌≡◌, refl, sym, ap, ◌∙◌}
use mathlib.Core.List.{List, [], ◌∷◌, ◌++◌}
use Prim.Native.Nat.{ℕ, zero, suc, ◌+◌, ◌-◌, ◌*◌, ◌/◌, ◌%◌, ◌^◌, ◌≤◌, ◌<◌}
use native.Mathlib.Nat.{not-suc-le-zero, pow-suc}
use native.Mathlib.Omega.{arith}
use native.Mathlib.Decide.{dec_lt}
use lib.ListN.{length, length-append}
use borrow.Author.Tests.{le-leb, lt-leb}
use Rattle.refusals.specs.Telling.{pick}
use Rattle.answers.specs.Line.{last_digits, decimal}

-- of a number below 10, and of any other
last_digits_one : (most n : ℕ) → n < 10 → last_digits (suc most) n ≡ (48 + n % 10) ∷ []
last_digits_one most n h = ap (λ (t : Bool). pick t (last_digits most (n / 10)) [] ++ ((48 + n % 10) ∷ [])) (lt-leb 10 n h)

last_digits_more : (most n : ℕ) → 10 ≤ n → last_digits (suc most) n ≡ last_digits most (n / 10) ++ ((48 + n % 10) ∷ [])
last_digits_more most n h = ap (λ (t : Bool). pick t (last_digits most (n / 10)) [] ++ ((48 + n % 10) ∷ [])) (le-leb 10 n h)

-- more room than there are digits changes nothing
last_digits_same : (more most n : ℕ) → n < more → n < most → last_digits more n ≡ last_digits most n
last_digits_same zero most n h k = absurd (not-suc-le-zero h)
last_digits_same (suc more) zero n h k = absurd (not-suc-le-zero k)
last_digits_same (suc more) (suc most) n h k =
    elim (dec_lt n 10) [
      | yes below ↦ last_digits_one more n below ∙ sym (last_digits_one most n below)
      | no above ↦
          let many : 10 ≤ n = omega arith in
          last_digits_more more n many
          ∙ ap (λ (ds : List ℕ). ds ++ ((48 + n % 10) ∷ [])) (last_digits_same more most (n / 10) (omega arith) (omega arith))
          ∙ sym (last_digits_more most n many)
    ]

-- a number below 10 has one digit, and any other the digits of a tenth of it and then its last
pub decimal_one : (n : ℕ) → n < 10 → decimal n ≡ (48 + n % 10) ∷ []
decimal_one n h = last_digits_one n n h

pub decimal_more : (n : ℕ) → 10 ≤ n → decimal n ≡ decimal (n / 10) ++ ((48 + n % 10) ∷ [])
decimal_more n h =
    last_digits_more n n h
    ∙ ap (λ (ds : List ℕ). ds ++ ((48 + n % 10) ∷ [])) (last_digits_same n (suc (n / 10)) (n / 10) (omega arith) (omega arith))

last_digits_few : (most k n : ℕ) → n < 10 ^ suc k → length (last_digits most n) ≤ suc k
last_digits_few zero k n h = omega arith
last_digits_few (suc most) zero n h = rw (last_digits_one most n h) (omega arith)
last_digits_few (suc most) (suc k) n h =
    elim (dec_lt n 10) [
      | yes below ↦ rw (last_digits_one most n below) (omega arith)
      | no above ↦
          let more : 10 ≤ n = omega arith in
          rw (last_digits_more most n more, length-append) (omega (arith, last_digits_few most k (n / 10) (omega (arith, pow-suc 10 (suc k)))))
    ]

-- a number below 10 ^ k has at most k digits, where k is at least 1: 0 has one too
pub decimal_few : (k n : ℕ) → n < 10 ^ suc k → length (decimal n) ≤ suc k
decimal_few k n h = last_digits_few (suc n) k n h

-- the number that ASCII digits spell behind those of `before`
abbrev pub value_behind : ℕ → List ℕ → ℕ
value_behind before [] = before
value_behind before (d ∷ ds) = value_behind (before * 10 + (d - 48)) ds

abbrev pub value : List ℕ → ℕ
value ds = value_behind 0 ds

value_last : (before : ℕ) (ds : List ℕ) (d : ℕ) → value_behind before (ds ++ (d ∷ [])) ≡ value_behind before ds * 10 + (d - 48)
value_last before [] d = refl
value_last before (e ∷ ds) d = value_last (before * 10 + (e - 48)) ds d

value_last_digits : (most n : ℕ) → n < most → value (last_digits most n) ≡ n
value_last_digits zero n h = absurd (not-suc-le-zero h)
value_last_digits (suc most) n h =
    elim (dec_lt n 10) [
      | yes below ↦ ap value (last_digits_one most n below) ∙ omega arith
      | no above ↦
          let more : 10 ≤ n = omega arith in
          ap value (last_digits_more most n more) ∙ value_last 0 (last_digits most (n / 10)) (48 + n % 10) ∙ ap (λ (m : ℕ). m * 10 + ((48 + n % 10) - 48)) (value_last_digits most (n / 10) (omega arith)) ∙ omega arith
    ]

-- a line's decimal number spells the number
pub value_decimal : (n : ℕ) → value (decimal n) ≡ n
value_decimal n = value_last_digits (suc n) n (omega arith)
