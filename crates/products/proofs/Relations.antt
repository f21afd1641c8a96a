-- Relations are products of the identity, and like every product they have a factor or more.
--     no_factors_none, no_factors_no_member    with a bound of 0 none is right and no member is, whatever the factors and the target
--     member_some                              a right member has a factor or more
--     reached_not_none                         where a rival reaches the target, a relation or another product, none is not right
--     vanishing_relation                       a generator that vanishes is a relation of one factor
--     signed_relation                          a generator and its inverse are a relation of two signed factors
-- Assumes, where factors are signed, at most 128 generators.
use mathlib.Core.List.{List, [], ◌∷◌, append-nil}
use Prim.Native.Nat.{ℕ, ◌+◌, ◌≤◌}
use native.Mathlib.Omega.{arith}
use lib.ListN.{length}
use Rattle.words.specs.Word.{Word, Equal}
use Rattle.words.proofs.Inverse.{word_inverse}
use Rattle.products.specs.Product.{generator, Factor, Family, plain, signed, inverse_mark, Reaches, Rival, NoneRight, MemberRight}
use Rattle.products.proofs.Rivals.{rival_of}
use Rattle.products.proofs.Doubled.{number_given, number_inverted, word_given, word_inverted}

-- A relation of at most n factors.
abbrev pub Relation : Family → ℕ → List ℕ → Type 0
Relation family n r = Rival family n r × Reaches family r []

module _ (family : Family) (target : Word) where
  pub no_factors_none : NoneRight family target 0
  no_factors_none r k e =
      let some = k.counted in
      let within = k.within in
      omega arith

  module _ {n : ℕ} where
    pub reached_not_none : (r : List ℕ) → Rival family n r → Reaches family r target → NoneRight family target n → ⊥
    reached_not_none r k e right = right r k e

    pub member_some : {factors : List ℕ} {count : ℕ} → MemberRight family target n factors count → 1 ≤ count
    member_some right = omega (arith, right.rival.counted, right.counts)

  pub no_factors_no_member : (factors : List ℕ) (count : ℕ) → MemberRight family target 0 factors count → ⊥
  no_factors_no_member factors count right = no_factors_none factors right.rival right.reaches

module _ (gens : List Word) (i : ℕ) (inside : Factor gens i) where
  pub vanishing_relation : (n : ℕ) → 1 ≤ n → Equal (generator gens i) [] → Relation (plain gens) n (i ∷ [])
  vanishing_relation n h e = (rival_of (inside, tt) (omega arith) h, rw (append-nil (generator gens i)) e)

  pub signed_relation : length gens ≤ inverse_mark → (n : ℕ) → 2 ≤ n → Relation (signed gens) n (i ∷ (inverse_mark + i) ∷ [])
  signed_relation few n h = (
    rival_of (number_given gens few i inside, (number_inverted gens few i inside, tt)) (omega arith) h,
    rw (word_given gens few i inside, word_inverted gens few i, append-nil) (word_inverse (generator gens i)),
  )
