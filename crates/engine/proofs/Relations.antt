-- What the bounded verdict says where there is a product, a relation or another one, and where there is none. For any family, so for signed factors too.
--     found             a target that a rival reaches is a member, with the first of the least series
--     relation_found    so is a target that is the identity, where there is a relation
--     member_counts     a member counts one factor or more
--     no_factors        with a bound of 0 the verdict is none
-- Assumes nothing.
use mathlib.Core.Path.{◌≡◌, refl}
use mathlib.Core.List.{List, []}
use Prim.Native.Nat.{ℕ, ◌≤◌}
use lib.ListN.{take}
use Rattle.std.specs.Prelude.{Some, None, Ok, Err}
use Rattle.words.specs.Word.{Word, Equal, back, then}
use Rattle.words.specs.declared.Factors.{Factors}
use Rattle.products.specs.Product.{Family, Reaches, Rival, MemberRight}
use Rattle.products.proofs.Relations.{Relation, member_some, no_factors_no_member}
use Rattle.engine.specs.Calls.{Verdict, VerdictRight}

-- a member of that family, target and bound, with its factors in front of the witness
abbrev pub FoundBy : Family → Word → ℕ → Verdict → List ℕ → Type 0
FoundBy family target n r witness = (count : Factors) × (r ≡ Ok (Some count)) × MemberRight family target n (take count.0 witness) count.0

module _ (family : Family) (target : Word) (before after : List ℕ) where
  module _ (n : ℕ) where
    pub found : (r : Verdict) → VerdictRight family target n r before after
        → (s : List ℕ) → Rival family n s → Reaches family s target → FoundBy family target n r after
    found (Ok (Some count)) (right, kept) s rival reaches = (count, refl, right)
    found (Ok None) (right, kept) s rival reaches = absurd (right s rival reaches)
    found (Err refusal) right s rival reaches = absurd right

    pub relation_found : (r : Verdict) → VerdictRight family target n r before after
        → Equal target [] → (s : List ℕ) → Relation family n s → FoundBy family target n r after
    relation_found r right identity s (rival, reaches) = found r right s rival (then reaches (back identity))

    pub member_counts : (count : Factors) → VerdictRight family target n (Ok (Some count)) before after → 1 ≤ count.0
    member_counts count (right, kept) = member_some family target right

  pub no_factors : (r : Verdict) → VerdictRight family target 0 r before after → r ≡ Ok None
  no_factors (Ok (Some count)) (right, kept) = absurd (no_factors_no_member family target (take count.0 after) count.0 right)
  no_factors (Ok None) right = refl
  no_factors (Err refusal) right = absurd right
