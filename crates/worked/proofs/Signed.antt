-- Worked values of lists taken with their inverses, 02's M-103, and wrong answers to them, each refused by the definition of a right verdict.
-- Assumes nothing.
use mathlib.Core.Path.{refl}
use mathlib.Core.List.{List, [], ◌∷◌}
use Prim.Native.Nat.{ℕ}
use native.Mathlib.Omega.{arith}
use Rattle.words.specs.Word.{R, S, Word, none, nf}
use Rattle.products.specs.Product.{plain, signed, NoneRight, MemberRight, smaller}
use Rattle.products.proofs.Rivals.{rival_of}
use Rattle.worked.proofs.Trying.{plain_tried, signed_tried, misses, misses_before, none_by_trying, member_by_trying, unequal_by_trying}
use Rattle.worked.proofs.Refused.{once}

abbrev pub turn : List Word
turn = (S ∷ []) ∷ []

abbrev pub flip : List Word
flip = (R ∷ []) ∷ []

-- ---- right answers

-- 01: "The inverse of R is R and of S is SS". So SS is one factor with inverses ..
pub turned_back : MemberRight (signed turn) (S ∷ S ∷ []) 1 (128 ∷ []) 1
unfolding nf misses misses_before
turned_back = member_by_trying (signed_tried turn) (S ∷ S ∷ []) 1 128 [] (rival_of (omega arith, tt) (omega arith) (omega arith)) none refl refl

-- .. where without them there is none of one factor, and one of two
pub turned_twice_none : NoneRight (plain turn) (S ∷ S ∷ []) 1
unfolding nf misses
turned_twice_none = none_by_trying (plain_tried turn) (S ∷ S ∷ []) 1 refl

pub turned_twice : MemberRight (plain turn) (S ∷ S ∷ []) 2 (0 ∷ 0 ∷ []) 2
unfolding nf misses misses_before
turned_twice = member_by_trying (plain_tried turn) (S ∷ S ∷ []) 2 0 (0 ∷ []) (rival_of (omega arith, (omega arith, tt)) (omega arith) (omega arith)) none refl refl

-- P4: "the inverse of SR is RSS."
pub P4_signed : MemberRight (signed once) (R ∷ S ∷ S ∷ []) 1 (128 ∷ []) 1
unfolding nf misses misses_before
P4_signed = member_by_trying (signed_tried once) (R ∷ S ∷ S ∷ []) 1 128 [] (rival_of (omega arith, tt) (omega arith) (omega arith)) none refl refl

-- R is its own inverse, so both its numbers reach it. The generator's own stands first, by M-100's order of the numbers as written.
pub flipped : MemberRight (signed flip) (R ∷ []) 1 (0 ∷ []) 1
unfolding nf misses misses_before
flipped = member_by_trying (signed_tried flip) (R ∷ []) 1 0 [] (rival_of (omega arith, tt) (omega arith) (omega arith)) none refl refl

pub inverse_before_given_refused : MemberRight (signed flip) (R ∷ []) 1 (128 ∷ []) 1 → ⊥
inverse_before_given_refused member = member.first (0 ∷ []) flipped.rival flipped.reaches refl (smaller (omega arith))

-- ---- wrong answers

-- S taken for its own inverse, as R is
pub own_inverse_refused : (n count : ℕ) → MemberRight (signed turn) (S ∷ []) n (128 ∷ []) count → ⊥
unfolding nf
own_inverse_refused n count member = unequal_by_trying (S ∷ S ∷ []) (S ∷ []) refl member.reaches

-- the inverse letters taken in the given order, SSR for the inverse of SR
pub unreversed_refused : (n count : ℕ) → MemberRight (signed once) (S ∷ S ∷ R ∷ []) n (128 ∷ []) count → ⊥
unfolding nf
unreversed_refused n count member = unequal_by_trying (R ∷ S ∷ S ∷ []) (S ∷ S ∷ R ∷ []) refl member.reaches

-- an inverse written as 64 plus the number of its generator: that names no factor here
pub marked_by_64_refused : (n count : ℕ) → MemberRight (signed turn) (S ∷ S ∷ []) n (64 ∷ []) count → ⊥
marked_by_64_refused n count member = omega (arith, member.rival.series.0)

-- none, though an inverse reaches the target
pub overlooked_inverse_refused : NoneRight (signed once) (R ∷ S ∷ S ∷ []) 1 → ⊥
overlooked_inverse_refused nobody = nobody (128 ∷ []) P4_signed.rival P4_signed.reaches

-- a right none of the plain list taken for one of the signed list
pub plain_none_refused : NoneRight (plain turn) (S ∷ S ∷ []) 1 × (NoneRight (signed turn) (S ∷ S ∷ []) 1 → ⊥)
plain_none_refused = (turned_twice_none, λ nobody. nobody (128 ∷ []) turned_back.rival turned_back.reaches)
