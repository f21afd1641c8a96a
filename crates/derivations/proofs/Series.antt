-- Laws of first series, whatever the items' parts and weights are.
--     firsts_length, joins_length    a first series has as many factors as its item weighs, and so have parts that are tight
--     firsts_unique, joins_unique    an item has no other first series, and no more have parts
--     same_length_compare            of two series that are as long one is no later than the other
-- Assumes nothing.
use mathlib.Core.Path.{◌≡◌, refl, sym, ap, ap₂, subst, ◌∙◌}
use mathlib.Core.Logic.{◌⊎◌}
use mathlib.Core.List.{List, [], ◌∷◌, ◌++◌}
use Prim.Native.Nat.{ℕ, ◌+◌, ◌≤◌}
use native.Mathlib.Omega.{arith}
use lib.ListN.{length, length-append}
use Rattle.products.specs.Product.{Each, Before}
use Rattle.products.proofs.Order.{NoLater, no_later_antisym, series_compare}
use Rattle.derivations.specs.declared.Parts.{Parts}
use Rattle.derivations.specs.declared.Parts.TheVariants.{One, Two, Nothing}
use Rattle.derivations.specs.Derivations.{Tight, Firsts, Joins, factor, chosen, one, two}
use Rattle.derivations.proofs.Induction.{PartsSo, Choice, firsts_so, joins_so}

module _ (parts : ℕ → ℕ → ℕ → Parts) (weight : ℕ → ℕ → ℕ) where
  -- ---- how long a series is

  abbrev Long : ℕ → ℕ → List ℕ → Type 0
  Long x y r = length r ≡ weight x y

  long_of_parts : (ps : Parts) (x y : ℕ) (r : List ℕ) → PartsSo Long ps r → Tight weight x y ps → Long x y r
  long_of_parts (One a b) x y r e t = e ∙ t.2
  long_of_parts (Two a b c d) x y r (p, q, split, e, f) t = ap length split ∙ length-append p q ∙ ap₂ (λ (m n : ℕ). m + n) e f ∙ t.2
  long_of_parts Nothing x y r e t = elim e [ ]

  pub firsts_length : {x y : ℕ} {r : List ℕ} → Firsts parts weight x y r → length r ≡ weight x y
  firsts_length f =
      firsts_so parts weight Long (λ j e. sym e) (λ x y r h c. long_of_parts (parts x y c.way) x y r c.so c.candidate.tight) f

  pub joins_length : (ps : Parts) (x y : ℕ) {r : List ℕ} → Joins parts weight ps r → Tight weight x y ps → length r ≡ weight x y
  joins_length ps x y {r} j t = long_of_parts ps x y r (joins_so parts weight Long (λ x y r f. firsts_length f) j) t

  -- ---- that there is no other

  abbrev Only : ℕ → ℕ → List ℕ → Type 0
  Only x y r = (s : List ℕ) → Firsts parts weight x y s → r ≡ s

  only_of_joins : {ps : Parts} {r s : List ℕ} → Joins parts weight ps s → PartsSo Only ps r → r ≡ s
  only_of_joins {s = s} (one f) only = only s f
  only_of_joins (two {r = p'} {s = q'} f g) (p, q, split, only, only') = split ∙ ap₂ (λ (a b : List ℕ). a ++ b) (only p' f) (only' q' g)

  only_of_parts : {ps : Parts} {r s : List ℕ} → PartsSo Only ps r → Joins parts weight ps s → r ≡ s
  only_of_parts only j = only_of_joins j only

  only_factor : (j : ℕ) → Only 0 j (j ∷ [])
  only_factor j s (factor e) = refl
  only_factor j s (chosen d h c i others joined no_later) = absurd (omega arith)

  -- each of two that are chosen is no later than the other
  only_chosen : (x y : ℕ) (r : List ℕ) → 1 ≤ x → Choice parts weight Only x y r → Only x y r
  only_chosen x y r h c s (factor e) = absurd (omega arith)
  only_chosen x y r h c s (chosen e h' c' j others joined no_later) =
      no_later_antisym (subst (NoLater r) (only_of_parts (c.others_so e c') j) (c.no_later e c'))
      (subst (NoLater s) (sym (only_of_parts c.so (joined c.way c.candidate))) (no_later c.way c.candidate))

  pub firsts_unique : {x y : ℕ} {r s : List ℕ} → Firsts parts weight x y r → Firsts parts weight x y s → r ≡ s
  firsts_unique {s = s} f = firsts_so parts weight Only (λ j _. only_factor j) only_chosen f s

  pub joins_unique : {ps : Parts} {r s : List ℕ} → Joins parts weight ps r → Joins parts weight ps s → r ≡ s
  joins_unique j i = only_of_parts (joins_so parts weight Only (λ x y r f s g. firsts_unique f g) j) i

-- nothing is asked of a number
each_unit : (r : List ℕ) → Each (λ _. Unit {0}) r
each_unit [] = tt
each_unit (i ∷ r) = (tt, each_unit r)

pub same_length_compare : (r s : List ℕ) → length r ≡ length s → NoLater r s ⊎ Before s r
same_length_compare r s e = series_compare (λ _. Unit {0}) length length-append (λ j u. omega arith) r s (each_unit r) (each_unit s) e
