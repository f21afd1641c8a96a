-- A generator and its inverse are a relation, so with a generator and a bound of two factors the signed verdict on the identity is a member. Assumes at most
-- 128 generators.
use mathlib.Core.Path.{◌≡◌}
use mathlib.Core.List.{List, [], ◌∷◌}
use Prim.Native.Nat.{ℕ, ◌+◌, ◌≤◌}
use native.Mathlib.Omega.{arith}
use lib.ListN.{length}
use Rattle.std.specs.Prelude.{Some, Ok}
use Rattle.words.specs.Word.{Word, Equal, back, then}
use Rattle.words.specs.declared.Factors.{Factors}
use Rattle.products.specs.Product.{signed, inverse_mark}
use Rattle.products.proofs.Relations.{signed_relation}
use Rattle.engine.specs.Calls.{Verdict, VerdictRight}
use Rattle.engine.proofs.Relations.{relation_found}

-- of at most two factors: fewer where a generator vanishes
pub signed_relation_found : (gens : List Word) → length gens ≤ inverse_mark → 1 ≤ length gens
    → (target : Word) → Equal target [] → (n : ℕ) → 2 ≤ n → (r : Verdict) (before after : List ℕ) → VerdictRight (signed gens) target n r before after
    → (count : Factors) × (r ≡ Ok (Some count)) × (count.0 ≤ 2)
signed_relation_found gens few some target identity n h r before after right =
    let relation = signed_relation gens 0 some few n h in
    let (count, is, member) = relation_found (signed gens) target before after n r right identity (0 ∷ (inverse_mark + 0) ∷ []) relation in
    (count, is, omega (arith, member.counts, member.least (0 ∷ (inverse_mark + 0) ∷ []) relation.0 (then relation.1 (back identity))))
