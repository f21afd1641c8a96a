-- The limits that document 01's questions set. Assumes nothing: these are definitions.
use Rattle.std.specs.Prelude.{ℕ, ◌+◌, ◌*◌}

-- 1: "Has the card at most 8,326 bytes?"
abbrev pub most_card_bytes : ℕ
most_card_bytes = 8326

-- 7: "Are there at most 64 generators?"
abbrev pub most_generators : ℕ
most_generators = 64

-- 8: "Have the list's letters together at most 4,096, and the target or single word at most 4,096?"
abbrev pub most_letters : ℕ
most_letters = 4096

-- 11: "Has each generator's normal form at most 80 letters, and the sum up to it at most 320?"
abbrev pub most_of_generator : ℕ
most_of_generator = 80

abbrev pub most_of_list : ℕ
most_of_list = 320

-- 12: "Has the target's, the word's (for its matrix) or the matrix's normal form at most 80 letters?"
abbrev pub most_of_form : ℕ
most_of_form = 80

-- 13: "Is n at most 1,000?"
abbrev pub most_factors : ℕ
most_factors = 1000

-- an inverse has two letters for each S
abbrev pub most_of_inverse : ℕ
most_of_inverse = 2 * most_letters

-- a list with the inverses of its generators behind it: as many generators again, and letters as `signed_short` of lists says
abbrev pub most_signed_generators : ℕ
most_signed_generators = 2 * most_generators

abbrev pub most_of_signed_list : ℕ
most_of_signed_list = 832

-- 14, 02, M-103: "The inverse slice must hold 640 bytes, which question 14 now covers."
abbrev pub inverses_slice : ℕ
inverses_slice = 640

-- one state for each letter of the normal forms, and the empty word
abbrev pub most_states : ℕ
most_states = most_of_signed_list + 1
