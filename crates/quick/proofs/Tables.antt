-- The constant tables.
--     products_right                                 the products have 02's rule, at all entries
--     parent_small, last_letter_small, parent_before   the tree: each is the product of one that comes before it with a letter
--     child_of_rank, root_of_rank, rank_small          and every matrix is in it
-- What is computed are three tests, one over each table. Assumes nothing.
use mathlib.Core.Bool.{Bool}
use mathlib.Core.Path.{◌≡◌, refl, sym, ap, subst, ◌∙◌}
use mathlib.Core.List.{List, [], ◌∷◌, flat_map}
use Prim.Native.Nat.{ℕ, zero, suc, ◌+◌, ◌*◌, ◌-◌, ◌≤◌, ◌<◌, ◌/◌, ◌%◌}
use native.Mathlib.Omega.{arith}
use lib.Arith.{digits_div, digits_mod}
use lib.Dec.{T, ltb, leb, eqb, eqb-suc-zero, ltb→lt, leb→le, eqb→eq, lit<}
use lib.ListN.{length, get_or}
use Rattle.refusals.specs.Telling.{pick}
use Rattle.words.specs.Word.{Letter, R, S}
use Rattle.unimodular.specs.Matrix.{unit}
use Rattle.residues.specs.Residues.{quadruples, numbering, numbered, number_of, times_letter}
use Rattle.residues.proofs.Every.{both, both_left, both_right, every, at}
use Rattle.quick.specs.Table.{column, letter_of, products, Right, parents, last_letters, parent_of, column_of}

-- ---- the products

pub letter_of_column : (x : Letter) → letter_of (column x) ≡ x
letter_of_column R = refl
letter_of_column S = refl

pub column_small : (x : Letter) → column x < 2
column_small R = lit< tt
column_small S = lit< tt

is_right : ℕ → ℕ → Bool
is_right i entry = eqb entry (times_letter (i / 2) (letter_of (i % 2)))

-- "one computed test over all entries"
all_right : T (every is_right 0 products)
unfolding is_right products times_letter numbered number_of numbering quadruples flat_map
all_right = tt

products_336 : length products ≡ 336
unfolding products
products_336 = refl

-- "one lemma carrying it to each"
entry_right : (i k : ℕ) (x : Letter) → i < 336 → i / 2 ≡ k → i % 2 ≡ column x → get_or products i 0 ≡ times_letter k x
unfolding is_right
entry_right i k x small row of =
    eqb→eq (get_or products i 0) (times_letter (i / 2) (letter_of (i % 2))) (at is_right products all_right i (rw products_336 small) 0)
    ∙ rw (row, of, letter_of_column x) refl

pub products_right : Right products
products_right k x small =
    let two : k * 2 + column x ≡ 2 * k + column x = omega arith in
    entry_right (2 * k + column x) k x (omega (arith, column_small x)) (ap (λ (i : ℕ). i / 2) (sym two) ∙ digits_div k (column_small x))
    (ap (λ (i : ℕ). i % 2) (sym two) ∙ digits_mod k (column_small x))

column_of_letter : (column' : ℕ) → column' < 2 → column (letter_of column') ≡ column'
column_of_letter zero h = refl
column_of_letter (suc zero) h = refl
column_of_letter (suc (suc n)) h = absurd (omega arith)

pub products_at : (k column' : ℕ) → k < 168 → column' < 2 → get_or products (2 * k + column') 0 ≡ times_letter k (letter_of column')
products_at k column' small h =
    ap (λ (j : ℕ). get_or products (2 * k + j) 0) (sym (column_of_letter column' h)) ∙ products_right k (letter_of column') small

pub unit_21 : number_of unit ≡ 21
unfolding number_of numbering quadruples flat_map
unit_21 = refl

-- ---- the tree

-- which one each matrix is in the order of the tree: the unit comes first
ranks : List ℕ
ranks =
    1 ∷ 5 ∷ 21 ∷ 58 ∷ 31 ∷ 15 ∷ 6 ∷ 166 ∷ 89 ∷ 165 ∷ 147 ∷ 130 ∷ 108 ∷ 125 ∷ 162 ∷ 127 ∷ 111 ∷ 123 ∷ 151 ∷ 163 ∷ 86 ∷ 0 ∷ 9 ∷ 30 ∷
    43 ∷ 22 ∷ 10 ∷ 3 ∷ 4 ∷ 20 ∷ 57 ∷ 76 ∷ 44 ∷ 23 ∷ 11 ∷ 12 ∷ 40 ∷ 93 ∷ 115 ∷ 77 ∷ 45 ∷ 24 ∷ 26 ∷ 72 ∷ 136 ∷ 153 ∷ 117 ∷ 79 ∷
    47 ∷ 50 ∷ 39 ∷ 92 ∷ 87 ∷ 156 ∷ 120 ∷ 82 ∷ 25 ∷ 13 ∷ 41 ∷ 94 ∷ 116 ∷ 78 ∷ 46 ∷ 7 ∷ 2 ∷ 14 ∷ 42 ∷ 59 ∷ 32 ∷ 16 ∷ 155 ∷ 109 ∷
    149 ∷ 164 ∷ 110 ∷ 129 ∷ 148 ∷ 139 ∷ 19 ∷ 97 ∷ 56 ∷ 62 ∷ 107 ∷ 35 ∷ 122 ∷ 68 ∷ 85 ∷ 134 ∷ 53 ∷ 161 ∷ 101 ∷ 112 ∷ 38 ∷ 141 ∷ 84 ∷ 99 ∷
    52 ∷ 65 ∷ 160 ∷ 27 ∷ 118 ∷ 73 ∷ 80 ∷ 137 ∷ 48 ∷ 157 ∷ 69 ∷ 154 ∷ 124 ∷ 143 ∷ 88 ∷ 102 ∷ 95 ∷ 8 ∷ 60 ∷ 29 ∷ 33 ∷ 75 ∷ 17 ∷ 167 ∷
    105 ∷ 131 ∷ 145 ∷ 132 ∷ 146 ∷ 104 ∷ 98 ∷ 106 ∷ 54 ∷ 63 ∷ 140 ∷ 113 ∷ 36 ∷ 159 ∷ 37 ∷ 70 ∷ 144 ∷ 91 ∷ 64 ∷ 103 ∷ 135 ∷ 51 ∷ 121 ∷ 128 ∷
    71 ∷ 83 ∷ 150 ∷ 142 ∷ 152 ∷ 90 ∷ 100 ∷ 126 ∷ 158 ∷ 66 ∷ 119 ∷ 67 ∷ 28 ∷ 81 ∷ 133 ∷ 74 ∷ 49 ∷ 114 ∷ 18 ∷ 61 ∷ 138 ∷ 55 ∷ 34 ∷ 96 ∷ []

pub rank : ℕ → ℕ
rank k = get_or ranks k 0

-- its parent comes before
is_before : ℕ → ℕ → Bool
is_before i parent = both (ltb parent 168) (both (ltb (column_of i) 2) (leb (rank parent) i))

all_before : T (every is_before 0 parents)
unfolding is_before parents last_letters rank ranks
all_before = tt

-- it is the root, or what its parent and letter lead to
is_reached : ℕ → ℕ → Bool
is_reached k r =
    both (leb r 167) (pick (eqb r 0) (eqb k 21) (eqb (times_letter (parent_of (r - 1)) (letter_of (column_of (r - 1)))) k))

all_reached : T (every is_reached 0 ranks)
unfolding is_reached ranks parents last_letters times_letter numbered number_of numbering quadruples flat_map
all_reached = tt

parents_167 : length parents ≡ 167
unfolding parents
parents_167 = refl

ranks_168 : length ranks ≡ 168
unfolding ranks
ranks_168 = refl

module _ (i : ℕ) (small : i < 167) where
  before : T (both (ltb (parent_of i) 168) (both (ltb (column_of i) 2) (leb (rank (parent_of i)) i)))
  unfolding is_before
  before = at is_before parents all_before i (rw parents_167 small) 0

  rest : T (both (ltb (column_of i) 2) (leb (rank (parent_of i)) i))
  rest = both_right (ltb (parent_of i) 168) (both (ltb (column_of i) 2) (leb (rank (parent_of i)) i)) before

  pub parent_small : parent_of i < 168
  parent_small = ltb→lt (parent_of i) 168 (both_left (ltb (parent_of i) 168) (both (ltb (column_of i) 2) (leb (rank (parent_of i)) i)) before)

  pub last_letter_small : column_of i < 2
  last_letter_small = ltb→lt (column_of i) 2 (both_left (ltb (column_of i) 2) (leb (rank (parent_of i)) i) rest)

  pub parent_before : rank (parent_of i) ≤ i
  parent_before = leb→le (rank (parent_of i)) i (both_right (ltb (column_of i) 2) (leb (rank (parent_of i)) i) rest)

module _ (k : ℕ) (small : k < 168) where
  led : ℕ → Bool
  led r = pick (eqb r 0) (eqb k 21) (eqb (times_letter (parent_of (r - 1)) (letter_of (column_of (r - 1)))) k)

  reached : T (both (leb (rank k) 167) (led (rank k)))
  unfolding is_reached rank led
  reached = at is_reached ranks all_reached k (rw ranks_168 small) 0

  pub rank_small : rank k ≤ 167
  rank_small = leb→le (rank k) 167 (both_left (leb (rank k) 167) (led (rank k)) reached)

  led_by : T (led (rank k))
  led_by = both_right (leb (rank k) 167) (led (rank k)) reached

  pub root_of_rank : rank k ≡ 0 → k ≡ 21
  unfolding led
  root_of_rank e = eqb→eq k 21 (subst (λ (r : ℕ). T (led r)) e led_by)

  pub child_of_rank : (i : ℕ) → rank k ≡ suc i → times_letter (parent_of i) (letter_of (column_of i)) ≡ k
  unfolding led
  child_of_rank i e =
      let same : suc i - 1 ≡ i = omega arith in
      eqb→eq (times_letter (parent_of i) (letter_of (column_of i))) k (rw (eqb-suc-zero i, same) at (subst (λ (r : ℕ). T (led r)) e led_by))
