-- The places of pairs in a table with count rows and count columns: the only arithmetic with products. Assumes nothing.
use mathlib.Core.Path.{◌≡◌, refl, sym, ap, ap₂, subst, ◌∙◌}
use Prim.Native.Nat.{ℕ, ◌+◌, ◌-◌, ◌*◌, ◌/◌, ◌%◌, ◌≤◌, ◌<◌}
use native.Mathlib.Nat.{mul-le-mul, mul-le-mul_right}
use native.Mathlib.Decide.{dec_lt}
use native.Mathlib.Omega.{arith}
use lib.Arith.{digits_lt, digits_div, digits_mod}
use borrow.Author.Tests.{lt-ltb, le-ltb}
use Rattle.trees.specs.Tree.{most_of_entry}
use Rattle.tables.specs.Rules.{place, next_pair}

pub place_inside : {count x y : ℕ} → x < count → y < count → place count x y < count * count
place_inside row column = digits_lt row column

-- a row ends inside
pub row_inside : {count x : ℕ} → x < count → x * count + count ≤ count * count
row_inside {count} {x} row = let last : place count x (count - 1) < count * count = place_inside row (omega arith) in omega arith

-- each node's number is an entry, so a table has at most so many rows and columns
pub square_bounded : {count : ℕ} → count ≤ most_of_entry → count * count ≤ most_of_entry * most_of_entry
square_bounded few = mul-le-mul few few

-- a pair in an earlier row stands earlier
pub place_earlier : {count x y a : ℕ} (b : ℕ) → x < a → y < count → place count x y < place count a b
place_earlier {count} {x} {y} {a} b row column = let before : x * count + y < a * count = digits_lt row column in omega arith

-- equal places have equal rows and equal columns
pub same_row : {count y q : ℕ} (x p : ℕ) → y < count → q < count → place count x y ≡ place count p q → x ≡ p
same_row {count} x p column column' same = sym (digits_div x column) ∙ ap (λ (z : ℕ). z / count) same ∙ digits_div p column'

pub same_column : {count y q : ℕ} (x p : ℕ) → y < count → q < count → place count x y ≡ place count p q → y ≡ q
same_column {count} x p column column' same = sym (digits_mod x column) ∙ ap (λ (z : ℕ). z % count) same ∙ digits_mod p column'

-- a pair behind the last row stands behind the last place
pub place_past : {count x : ℕ} (y : ℕ) → count ≤ x → count * count ≤ place count x y
place_past {count} {x} y past = let rows : count * count ≤ x * count = mul-le-mul_right count past in omega arith

-- j columns on from the first place of a row
pub along : (count x j r : ℕ) → r ≡ place count x 0 → r + j ≡ place count x j
along count x j r first = omega arith

pub along_inside : {count x j r : ℕ} → x < count → j < count → r ≡ place count x 0 → r + j < count * count
along_inside {count} {x} {j} {r} row column first = let inside : place count x j < count * count = place_inside row column in omega arith

-- ---- the pair after a pair, for every width of 1 or more

module _ (width row column : ℕ) where
  -- a column that has another behind it, and the last
  pub next_inside : column + 1 < width → next_pair width row column ≡ (row, column + 1)
  next_inside inside = rw (lt-ltb (column + 1) width inside) refl

  pub next_carried : width ≤ column + 1 → next_pair width row column ≡ (row + 1, 0)
  next_carried last = rw (le-ltb (column + 1) width last) refl

  -- its column is below the width
  pub next_column : 1 ≤ width → (next_pair width row column).1 < width
  next_column some =
      elim (dec_lt (column + 1) width) [ yes inside ↦ rw (next_inside inside) inside | no last ↦ rw (next_carried (omega arith)) some ]

  -- its place is the next
  pub next_place : column < width → place width (next_pair width row column).0 (next_pair width row column).1 ≡ place width row column + 1
  next_place below =
      elim (dec_lt (column + 1) width) [
        | yes inside ↦ rw (next_inside inside) (omega arith)
        | no last ↦ rw (next_carried (omega arith)) (omega arith)
      ]

  -- both of a pair that is the next; and what they hold of is the next
  pub next_stands : {p q : ℕ} → column < width → (p, q) ≡ next_pair width row column → (q < width) × (place width p q ≡ place width row column + 1)
  next_stands below is = (
    subst (λ (pair : ℕ × ℕ). pair.1 < width) (sym is) (next_column (omega arith)),
    ap (λ (pair : ℕ × ℕ). place width pair.0 pair.1) is ∙ next_place below,
  )

  pub next_only : (p q : ℕ) → column < width → q < width → place width p q ≡ place width row column + 1 → (p, q) ≡ next_pair width row column
  next_only p q below inside next =
      let same = next ∙ sym (next_place below) in
      let below_too = next_column (omega arith) in
      ap₂ (λ (a b : ℕ). (a, b)) (same_row p (next_pair width row column).0 inside below_too same)
      (same_column p (next_pair width row column).0 inside below_too same)

-- behind the last pair of a table
pub next_last : {width : ℕ} → 1 ≤ width → next_pair width (width - 1) (width - 1) ≡ (width, 0)
next_last {width} some = next_carried width (width - 1) (width - 1) (omega arith) ∙ ap (λ (m : ℕ). (m, 0)) (omega arith)
