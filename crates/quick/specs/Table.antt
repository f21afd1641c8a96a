-- The constant tables, as src/table.rt has them, and what the functions over them promise. That the first has 02's rule is a theorem for all its entries
-- together: `products_right` of proofs/Tables.antt. Assumes nothing: these are definitions.
use Rattle.std.specs.Prelude.{◌≡◌, List, [], ◌∷◌, ℕ, ◌+◌, ◌*◌, ◌<◌, eqb, length, get_or}
use Rattle.refusals.specs.Telling.{pick}
use Rattle.words.specs.Word.{Letter, R, S}
use Rattle.residues.specs.Residues.{multiplied, times_letter}

-- which of a matrix's two entries is a letter's, and back
abbrev pub column : Letter → ℕ
column R = 0
column S = 1

abbrev pub letter_of : ℕ → Letter
letter_of column = pick (eqb column 0) R S

-- 02: "A constant table of 336 numbers gives each one's product on the right with R and with S."
unfoldable pub products : List ℕ
products =
    21 ∷ 27 ∷ 22 ∷ 21 ∷ 23 ∷ 22 ∷ 24 ∷ 23 ∷ 25 ∷ 24 ∷ 26 ∷ 25 ∷ 27 ∷ 26 ∷ 70 ∷ 73 ∷ 71 ∷ 74 ∷ 72 ∷ 75 ∷ 73 ∷ 76 ∷ 74 ∷ 70 ∷
    75 ∷ 71 ∷ 76 ∷ 72 ∷ 119 ∷ 121 ∷ 120 ∷ 122 ∷ 121 ∷ 123 ∷ 122 ∷ 124 ∷ 123 ∷ 125 ∷ 124 ∷ 119 ∷ 125 ∷ 120 ∷ 0 ∷ 64 ∷ 1 ∷ 65 ∷ 2 ∷ 66 ∷
    3 ∷ 67 ∷ 4 ∷ 68 ∷ 5 ∷ 69 ∷ 6 ∷ 63 ∷ 64 ∷ 113 ∷ 65 ∷ 115 ∷ 66 ∷ 117 ∷ 67 ∷ 112 ∷ 68 ∷ 114 ∷ 69 ∷ 116 ∷ 63 ∷ 118 ∷ 113 ∷ 162 ∷
    115 ∷ 165 ∷ 117 ∷ 161 ∷ 112 ∷ 164 ∷ 114 ∷ 167 ∷ 116 ∷ 163 ∷ 118 ∷ 166 ∷ 162 ∷ 132 ∷ 165 ∷ 128 ∷ 161 ∷ 131 ∷ 164 ∷ 127 ∷ 167 ∷ 130 ∷ 163 ∷ 126 ∷
    166 ∷ 129 ∷ 132 ∷ 83 ∷ 128 ∷ 78 ∷ 131 ∷ 80 ∷ 127 ∷ 82 ∷ 130 ∷ 77 ∷ 126 ∷ 79 ∷ 129 ∷ 81 ∷ 83 ∷ 34 ∷ 78 ∷ 28 ∷ 80 ∷ 29 ∷ 82 ∷ 30 ∷
    77 ∷ 31 ∷ 79 ∷ 32 ∷ 81 ∷ 33 ∷ 34 ∷ 0 ∷ 28 ∷ 1 ∷ 29 ∷ 2 ∷ 30 ∷ 3 ∷ 31 ∷ 4 ∷ 32 ∷ 5 ∷ 33 ∷ 6 ∷ 7 ∷ 109 ∷ 8 ∷ 110 ∷
    9 ∷ 111 ∷ 10 ∷ 105 ∷ 11 ∷ 106 ∷ 12 ∷ 107 ∷ 13 ∷ 108 ∷ 60 ∷ 158 ∷ 57 ∷ 156 ∷ 61 ∷ 154 ∷ 58 ∷ 159 ∷ 62 ∷ 157 ∷ 59 ∷ 155 ∷ 56 ∷ 160 ∷
    109 ∷ 136 ∷ 110 ∷ 134 ∷ 111 ∷ 139 ∷ 105 ∷ 137 ∷ 106 ∷ 135 ∷ 107 ∷ 133 ∷ 108 ∷ 138 ∷ 158 ∷ 87 ∷ 156 ∷ 88 ∷ 154 ∷ 89 ∷ 159 ∷ 90 ∷ 157 ∷ 84 ∷
    155 ∷ 85 ∷ 160 ∷ 86 ∷ 136 ∷ 38 ∷ 134 ∷ 35 ∷ 139 ∷ 39 ∷ 137 ∷ 36 ∷ 135 ∷ 40 ∷ 133 ∷ 37 ∷ 138 ∷ 41 ∷ 87 ∷ 7 ∷ 88 ∷ 8 ∷ 89 ∷ 9 ∷
    90 ∷ 10 ∷ 84 ∷ 11 ∷ 85 ∷ 12 ∷ 86 ∷ 13 ∷ 38 ∷ 60 ∷ 35 ∷ 57 ∷ 39 ∷ 61 ∷ 36 ∷ 58 ∷ 40 ∷ 62 ∷ 37 ∷ 59 ∷ 41 ∷ 56 ∷ 14 ∷ 152 ∷
    15 ∷ 153 ∷ 16 ∷ 147 ∷ 17 ∷ 148 ∷ 18 ∷ 149 ∷ 19 ∷ 150 ∷ 20 ∷ 151 ∷ 54 ∷ 142 ∷ 52 ∷ 143 ∷ 50 ∷ 144 ∷ 55 ∷ 145 ∷ 53 ∷ 146 ∷ 51 ∷ 140 ∷
    49 ∷ 141 ∷ 103 ∷ 93 ∷ 99 ∷ 96 ∷ 102 ∷ 92 ∷ 98 ∷ 95 ∷ 101 ∷ 91 ∷ 104 ∷ 94 ∷ 100 ∷ 97 ∷ 152 ∷ 44 ∷ 153 ∷ 42 ∷ 147 ∷ 47 ∷ 148 ∷ 45 ∷
    149 ∷ 43 ∷ 150 ∷ 48 ∷ 151 ∷ 46 ∷ 142 ∷ 14 ∷ 143 ∷ 15 ∷ 144 ∷ 16 ∷ 145 ∷ 17 ∷ 146 ∷ 18 ∷ 140 ∷ 19 ∷ 141 ∷ 20 ∷ 93 ∷ 54 ∷ 96 ∷ 52 ∷
    92 ∷ 50 ∷ 95 ∷ 55 ∷ 91 ∷ 53 ∷ 94 ∷ 51 ∷ 97 ∷ 49 ∷ 44 ∷ 103 ∷ 42 ∷ 99 ∷ 47 ∷ 102 ∷ 45 ∷ 98 ∷ 43 ∷ 101 ∷ 48 ∷ 104 ∷ 46 ∷ 100 ∷ []

-- 02: "The rule of that table is stated for all its entries together."
abbrev pub Right : List ℕ → Type 0
Right table = (k : ℕ) (x : Letter) → k < 168 → get_or table (2 * k + column x) 0 ≡ times_letter k x

-- the tree: the matrix that each is a product of, and the letter's column
unfoldable pub parents : List ℕ
parents =
    21 ∷ 21 ∷ 0 ∷ 64 ∷ 64 ∷ 27 ∷ 27 ∷ 28 ∷ 1 ∷ 6 ∷ 63 ∷ 113 ∷ 113 ∷ 22 ∷ 26 ∷ 26 ∷ 34 ∷ 35 ∷ 57 ∷ 65 ∷ 65 ∷ 5 ∷ 69 ∷ 118 ∷
    118 ∷ 162 ∷ 162 ∷ 78 ∷ 29 ∷ 2 ∷ 25 ∷ 25 ∷ 33 ∷ 41 ∷ 56 ∷ 42 ∷ 99 ∷ 156 ∷ 156 ∷ 115 ∷ 115 ∷ 23 ∷ 4 ∷ 68 ∷ 116 ∷ 116 ∷ 166 ∷ 166 ∷
    83 ∷ 132 ∷ 132 ∷ 134 ∷ 92 ∷ 50 ∷ 36 ∷ 58 ∷ 66 ∷ 66 ∷ 24 ∷ 32 ∷ 40 ∷ 62 ∷ 48 ∷ 104 ∷ 160 ∷ 141 ∷ 96 ∷ 96 ∷ 88 ∷ 88 ∷ 128 ∷ 165 ∷
    165 ∷ 80 ∷ 30 ∷ 67 ∷ 114 ∷ 114 ∷ 163 ∷ 163 ∷ 81 ∷ 129 ∷ 129 ∷ 138 ∷ 97 ∷ 153 ∷ 155 ∷ 85 ∷ 106 ∷ 144 ∷ 101 ∷ 159 ∷ 117 ∷ 117 ∷ 31 ∷ 39 ∷
    61 ∷ 47 ∷ 157 ∷ 145 ∷ 94 ∷ 86 ∷ 86 ∷ 20 ∷ 20 ∷ 52 ∷ 52 ∷ 110 ∷ 8 ∷ 8 ∷ 149 ∷ 137 ∷ 51 ∷ 37 ∷ 112 ∷ 112 ∷ 167 ∷ 167 ∷ 79 ∷ 126 ∷
    126 ∷ 95 ∷ 150 ∷ 90 ∷ 111 ∷ 125 ∷ 120 ∷ 127 ∷ 12 ∷ 74 ∷ 16 ∷ 16 ∷ 91 ∷ 91 ∷ 131 ∷ 161 ∷ 161 ∷ 38 ∷ 60 ∷ 46 ∷ 154 ∷ 142 ∷ 84 ∷ 84 ∷
    17 ∷ 17 ∷ 108 ∷ 13 ∷ 13 ∷ 151 ∷ 151 ∷ 143 ∷ 143 ∷ 75 ∷ 11 ∷ 158 ∷ 87 ∷ 140 ∷ 103 ∷ 164 ∷ 93 ∷ 147 ∷ 124 ∷ 10 ∷ 72 ∷ 70 ∷ 14 ∷ []

unfoldable pub last_letters : List ℕ
last_letters =
    0 ∷ 1 ∷ 1 ∷ 0 ∷ 1 ∷ 0 ∷ 1 ∷ 1 ∷ 0 ∷ 1 ∷ 0 ∷ 0 ∷ 1 ∷ 1 ∷ 0 ∷ 1 ∷ 1 ∷ 1 ∷ 0 ∷ 0 ∷ 1 ∷ 1 ∷ 0 ∷ 0 ∷ 1 ∷ 0 ∷ 1 ∷ 1 ∷ 1 ∷ 0 ∷ 0 ∷ 1 ∷ 1 ∷ 1 ∷ 0 ∷ 1 ∷ 0 ∷ 0 ∷ 1 ∷ 0 ∷ 1 ∷ 1 ∷ 1 ∷ 0 ∷ 0 ∷ 1 ∷ 0 ∷ 1 ∷
    1 ∷ 0 ∷ 1 ∷ 1 ∷ 1 ∷ 0 ∷ 1 ∷ 0 ∷ 0 ∷ 1 ∷ 1 ∷ 1 ∷ 1 ∷ 0 ∷ 1 ∷ 0 ∷ 0 ∷ 0 ∷ 0 ∷ 1 ∷ 0 ∷ 1 ∷ 1 ∷ 0 ∷ 1 ∷ 1 ∷ 1 ∷ 0 ∷ 0 ∷ 1 ∷ 0 ∷ 1 ∷ 1 ∷ 0 ∷ 1 ∷ 1 ∷ 1 ∷ 1 ∷ 1 ∷ 0 ∷ 1 ∷ 0 ∷ 0 ∷ 1 ∷ 0 ∷ 1 ∷ 1 ∷ 1 ∷
    0 ∷ 1 ∷ 0 ∷ 0 ∷ 1 ∷ 0 ∷ 1 ∷ 0 ∷ 1 ∷ 0 ∷ 1 ∷ 1 ∷ 0 ∷ 1 ∷ 1 ∷ 1 ∷ 0 ∷ 1 ∷ 0 ∷ 1 ∷ 0 ∷ 1 ∷ 1 ∷ 0 ∷ 1 ∷ 1 ∷ 1 ∷ 0 ∷ 1 ∷ 1 ∷ 0 ∷ 1 ∷ 0 ∷ 0 ∷ 0 ∷ 1 ∷ 0 ∷ 1 ∷ 1 ∷ 0 ∷ 1 ∷ 1 ∷ 0 ∷ 1 ∷ 0 ∷ 0 ∷ 0 ∷ 1 ∷
    0 ∷ 1 ∷ 1 ∷ 0 ∷ 1 ∷ 0 ∷ 1 ∷ 0 ∷ 1 ∷ 1 ∷ 1 ∷ 1 ∷ 0 ∷ 0 ∷ 0 ∷ 1 ∷ 1 ∷ 1 ∷ 0 ∷ 0 ∷ 0 ∷ 0 ∷ 0 ∷ []

abbrev pub parent_of : ℕ → ℕ
parent_of i = get_or parents i 0

abbrev pub column_of : ℕ → ℕ
column_of i = get_or last_letters i 0

-- the products of an image with all others on its right, from a place on; what stands before that place remains
pub record Fills (image at : ℕ) (before after : List ℕ) : Type 0 where
  pub row : (k : ℕ) → k < 168 → get_or after (at + k) 0 ≡ multiplied image k
  pub kept : (i : ℕ) → i < at → get_or after i 0 ≡ get_or before i 0
  pub size : length after ≡ length before
