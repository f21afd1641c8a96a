-- The fields of a query card, as bytes. Document 01, "The query card and its program". Assumes nothing: these are definitions.
use Rattle.std.specs.Prelude.{List, [], ◌∷◌, ℕ, zero, suc, ◌+◌, ◌-◌, ◌*◌, ◌/◌, ◌%◌, leb, length, take, drop, ℤ, pos, negsuc}
use Rattle.refusals.specs.Telling.{pick}

-- What stands at the front of some bytes: a whole field with the bytes behind it, or one that is cut off.
pub data Read (A : Type 0) : Type 0 where
  Whole : A → List ℕ → Read A
  Cut : Read A

-- what stands behind a whole field
abbrev pub next : {A B : Type 0} → Read A → (A → List ℕ → Read B) → Read B
next (Whole field rest) read = read field rest
next Cut read = Cut

-- so many bytes
abbrev pub bytes_field : ℕ → List ℕ → Read (List ℕ)
bytes_field count bs = pick (leb count (length bs)) (Whole (take count bs) (drop count bs)) Cut

-- 01: "Numbers have the low byte first."
abbrev pub number : List ℕ → ℕ
number [] = 0
number (b ∷ bs) = b + 256 * number bs

-- the same the other way: so many bytes of a number
abbrev pub spelled : ℕ → ℕ → List ℕ
spelled zero n = []
spelled (suc k) n = n % 256 ∷ spelled k (n / 256)

-- a number of so many bytes
abbrev pub number_field : ℕ → List ℕ → Read ℕ
number_field count bs = next (bytes_field count bs) (λ (field rest : List ℕ). Whole (number field) rest)

-- 01: "a signed 64-bit number in two's complement"
abbrev pub twos_complement : ℕ → ℤ
twos_complement u = pick (leb u 9223372036854775807) (pos u) (negsuc (18446744073709551615 - u))

-- the same the other way
abbrev pub complement : ℤ → ℕ
complement (pos n) = n
complement (negsuc n) = 18446744073709551615 - n

abbrev pub signed_field : List ℕ → Read ℤ
signed_field bs = next (number_field 8 bs) (λ (u : ℕ) (rest : List ℕ). Whole (twos_complement u) rest)

-- 01: "the target's length, 16 bits, and its letters"; the same of a generator.
abbrev pub letters_field : List ℕ → Read (List ℕ)
letters_field bs = next (number_field 2 bs) bytes_field
