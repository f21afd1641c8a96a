-- The induction on first series: what is so of each factor, and of an item where it is so of the parts of its candidates, is so of every item.
--     firsts_so    so it is of every item that has a first series
--     joins_so     and then of parts that have one
-- Assumes nothing: any items, parts and weights.
use mathlib.Core.Path.{◌≡◌, refl}
use mathlib.Core.List.{List, [], ◌∷◌, ◌++◌}
use Prim.Native.Nat.{ℕ, ◌≤◌}
use Rattle.products.proofs.Order.{NoLater}
use Rattle.derivations.specs.declared.Parts.{Parts}
use Rattle.derivations.specs.declared.Parts.TheVariants.{One, Two, Nothing}
use Rattle.derivations.specs.Derivations.{Candidate, Firsts, factor, chosen, Joins, one, two}

-- it is so of the parts, one behind the other
abbrev pub PartsSo : (ℕ → ℕ → List ℕ → Type 0) → Parts → List ℕ → Type 0
PartsSo So (One a b) r = So a b r
PartsSo So (Two a b c d) t = (r : List ℕ) × (s : List ℕ) × (t ≡ r ++ s) × So a b r × So c d s
PartsSo So Nothing r = ⊥

module _ (parts : ℕ → ℕ → ℕ → Parts) (weight : ℕ → ℕ → ℕ) (So : ℕ → ℕ → List ℕ → Type 0) where
  -- the series of an item is of a candidate's parts, no later than that of any candidate's, and it is so of the parts of each
  pub record Choice (x y : ℕ) (r : List ℕ) : Type 0 where
    pub way : ℕ
    pub candidate : Candidate parts weight x y way
    pub so : PartsSo So (parts x y way) r
    pub others : (e : ℕ) → Candidate parts weight x y e → List ℕ
    pub others_so : (e : ℕ) (c : Candidate parts weight x y e) → PartsSo So (parts x y e) (others e c)
    pub no_later : (e : ℕ) (c : Candidate parts weight x y e) → NoLater r (others e c)

  pub firsts_so : ((j : ℕ) → weight 0 j ≡ 1 → So 0 j (j ∷ [])) → ((x y : ℕ) (r : List ℕ) → 1 ≤ x → Choice x y r → So x y r)
      → {x y : ℕ} {r : List ℕ} → Firsts parts weight x y r → So x y r
  firsts_so factor_so choice_so f =
      elim f as (λ x y r _. So x y r) (λ ps r _. PartsSo So ps r) [
        | factor {j} e ↦ factor_so j e
        | chosen {x} {y} {r} d some candidate (joins → so) others (all_joined → others_so) no_later ↦
            choice_so x y r some
            (record {
              way = d;
              candidate = candidate;
              so = so;
              others = others;
              others_so = others_so;
              no_later = no_later;
            })
        | one (f → so) ↦ so
        | two {r = r} {s = s} (f → so) (g → so') ↦ (r, s, refl, so, so')
      ]

  pub joins_so : ((x y : ℕ) (r : List ℕ) → Firsts parts weight x y r → So x y r)
      → {ps : Parts} {r : List ℕ} → Joins parts weight ps r → PartsSo So ps r
  joins_so so (one {a} {b} {r} f) = so a b r f
  joins_so so (two {a} {b} {c} {d} {r} {s} f g) = (r, s, refl, so a b r f, so c d s g)
