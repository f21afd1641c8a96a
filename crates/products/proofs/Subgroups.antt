-- What inverse factors change: a list taken as a subgroup.
--     signed_none                              a target out of reach with the inverses is out of reach without them
--     plain_member_not_none, signed_no_more    a plain member is a signed one with no more factors
--     inverse_product, inverse_reached         the inverse of a signed product is a signed product of as many factors
-- Assumes at most 128 generators, so that no number is that of a generator and of an inverse.
use mathlib.Core.Path.{◌≡◌, refl}
use mathlib.Core.List.{List, [], ◌∷◌, ◌++◌}
use Prim.Native.Nat.{ℕ, ◌+◌, ◌≤◌}
use native.Mathlib.Omega.{arith}
use lib.ListN.{length, length-append}
use Rattle.words.specs.Word.{Word, Equal, none, back, then, inverse}
use Rattle.words.proofs.NormalForm.{equal_path, equal_append}
use Rattle.words.proofs.Inverse.{inverse_inverse, inverse_append, inverse_equal}
use Rattle.products.specs.Product.{generator, Factor, Each, spelled, plain, signed, inverse_mark, measure, Reaches, Rival, NoneRight, MemberRight}
use Rattle.products.proofs.Series.{each_on, each_append, spelled_on, spelled_snoc}
use Rattle.products.proofs.Rivals.{rival_of}
use Rattle.products.proofs.Doubled.{Twin, given, inverted, twin_of_number, number_given, number_inverted, word_given, word_inverted}

module _ (gens : List Word) (few : length gens ≤ inverse_mark) where
  -- a rival without inverses is one with them, and reaches the same
  pub plain_rival : {n : ℕ} {r : List ℕ} → Rival (plain gens) n r → Rival (signed gens) n r
  plain_rival {n} {r} k = rival_of (each_on (Factor gens) (number_given gens few) r k.series) k.counted k.within

  pub plain_reaches : (r : List ℕ) (target : Word) → Each (Factor gens) r → Reaches (plain gens) r target → Reaches (signed gens) r target
  plain_reaches r target h e = rw (spelled_on (Factor gens) (word_given gens few) r h) e

  pub signed_none : (target : Word) (n : ℕ) → NoneRight (signed gens) target n → NoneRight (plain gens) target n
  signed_none target n right r k e = right r (plain_rival k) (plain_reaches r target k.series e)

  module _ (target : Word) (n : ℕ) (factors : List ℕ) (count : ℕ) (member : MemberRight (plain gens) target n factors count) where
    pub plain_member_not_none : NoneRight (signed gens) target n → ⊥
    plain_member_not_none right = signed_none target n right factors member.rival member.reaches

    pub signed_no_more : (factors' : List ℕ) (count' : ℕ) → MemberRight (signed gens) target n factors' count' → count' ≤ count
    signed_no_more factors' count' member' =
        let least = member'.least factors (plain_rival member.rival) (plain_reaches factors target member.rival.series member.reaches) in
        omega (arith, member.counts, member'.counts)

  -- a generator's opposite is its inverse, and an inverse's is the generator
  opposite : {i k : ℕ} → Twin (length gens) i k → (l : ℕ) × (signed gens).Number l × Equal ((signed gens).word_of l) (inverse ((signed gens).word_of k))
  opposite {i} (given h e) =
      (inverse_mark + i, number_inverted gens few i h, rw (e, word_given gens few i h) (equal_path (word_inverted gens few i)))
  opposite (inverted j h d e) =
      (j, number_given gens few j h, rw (e, word_given gens few j h, word_inverted gens few j) (back (inverse_inverse (generator gens j))))

  pub inverse_product : (r : List ℕ) → Each (signed gens).Number r
      → (s : List ℕ) × Each (signed gens).Number s × (measure s ≡ measure r)
      × Equal (spelled (signed gens).word_of s) (inverse (spelled (signed gens).word_of r))
  inverse_product [] h = ([], tt, refl, none)
  inverse_product (k ∷ r) h =
      let (s, each, long, equal) = inverse_product r h.1 in
      let (l, number, against) = opposite (twin_of_number gens k h.0) in (
        s ++ l ∷ [],
        each_append (signed gens).Number s (l ∷ []) each (number, tt),
        omega (arith, length-append s (l ∷ [])),
        rw (spelled_snoc (signed gens).word_of s l, inverse_append ((signed gens).word_of k) (spelled (signed gens).word_of r)) (equal_append equal against),
      )

  pub inverse_reached : (n : ℕ) (r : List ℕ) (target : Word) → Rival (signed gens) n r → Reaches (signed gens) r target
      → (s : List ℕ) × Rival (signed gens) n s × Reaches (signed gens) s (inverse target) × (measure s ≡ measure r)
  inverse_reached n r target k e =
      let (s, each, long, equal) = inverse_product r k.series in
      let within = k.within in
      let counted = k.counted in
      (s, rival_of each (omega arith) (omega arith), then equal (inverse_equal e), long)
