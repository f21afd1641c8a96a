-- The letters of a signed factor, as a part of the given slice or of the inverse slice. Document 02, M-103. Assumes nothing: these are definitions.
use Rattle.std.specs.Prelude.{Ok, Err, true, false, ◌≡◌, List, ◌∷◌, ℕ, suc, ◌+◌, ◌-◌, ◌≤◌, ◌<◌, ltb, length, take, drop, get_or}
use Rattle.std.specs.Borrow.{Bor}
use Rattle.words.specs.Word.{Word, nf, inverse}
use Rattle.words.specs.Bytes.{word}
use Rattle.refusals.specs.Telling.{pick}
use Rattle.refusals.specs.Questions.{Asked, passed}
use Rattle.products.specs.Product.{generators, generator, Factor, inverse_mark, unsigned, inverses}
use Rattle.lists.specs.NormalList.{total, normal_bytes}
use Rattle.subgroups.specs.Questions.{of_factor}
use Rattle.subgroups.specs.declared.Part.{Part}

-- 02: "the part shown is the empty one at the start of the given slice, without a number"
abbrev pub nothing : Part
nothing = record { inverse = false; start = 0; end = 0 }

-- generator i runs from the end before it, 0 for the first, up to its own
abbrev pub given_part : List ℕ → ℕ → Part
given_part ends i = record { inverse = false; start = get_or (0 ∷ ends) i 0; end = get_or ends i 0 }

-- the inverses' normal forms stand one behind the other
abbrev pub inverse_part : List Word → ℕ → Part
inverse_part gens i = record { inverse = true; start = total (take i (inverses gens)); end = total (take (suc i) (inverses gens)) }

-- the part of the factor that a number names, or nothing
abbrev pub factor_part : List Word → List ℕ → ℕ → Part
factor_part gens ends number =
    pick (ltb (unsigned number) (length ends)) (pick (ltb number inverse_mark) (given_part ends (unsigned number)) (inverse_part gens (unsigned number))) nothing

-- 02: "Which part it is follows from the list alone", and from the number; "If a question is answered no, or the number names no signed factor of the list", it
-- is nothing.
abbrev pub part_by : Asked → List ℕ → List ℕ → ℕ → Part
part_by (Err refusal) bytes ends number = nothing
part_by (Ok _) bytes ends number = factor_part (generators bytes ends) ends number

abbrev pub part_of : List ℕ → List ℕ → ℕ → ℕ → Part
part_of bytes ends inverses number = part_by (of_factor bytes ends inverses) bytes ends number

-- r is s from the place a up to e: it lies there, and holds what s holds there.
pub record IsPart (r s : Bor (List ℕ)) (a e : ℕ) : Type 0 where
  pub rising : a ≤ e
  pub within : e ≤ length s.now
  pub block : r.ref_ptr.0 ≡ s.ref_ptr.0
  pub offset : r.ref_ptr.1 ≡ s.ref_ptr.1 + a
  pub holds : r.now ≡ take (e - a) (drop a s.now)

abbrev pub PartShown : Bor (List ℕ) → Bor (List ℕ) → Bor (List ℕ) → Part → Type 0
PartShown r given slice part = IsPart r (pick part.inverse slice given) part.start part.end

-- What is shown is that part. 02: "The letters of a factor are shown as part of the given slice or of the inverse slice"; "an inverse factor's part spells its
-- normal form as long as the inverse slice holds what the engine wrote".
pub record Shows (given : Bor (List ℕ)) (ends : List ℕ) (slice : Bor (List ℕ)) (number : ℕ) (r : Bor (List ℕ)) : Type 0 where
  pub part : PartShown r given slice (part_of given.now ends (length slice.now) number)
  pub spells_given : of_factor given.now ends (length slice.now) ≡ passed → Factor (generators given.now ends) number → number < inverse_mark
      → word r.now ≡ generator (generators given.now ends) number
  pub spells_inverse : of_factor given.now ends (length slice.now) ≡ passed → (i : ℕ) → Factor (generators given.now ends) i → number ≡ inverse_mark + i
      → take (total (inverses (generators given.now ends))) slice.now ≡ normal_bytes (inverses (generators given.now ends))
      → word r.now ≡ nf (inverse (generator (generators given.now ends) i))
