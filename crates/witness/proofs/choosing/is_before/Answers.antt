-- Both stacks hold the parts of one way alone, and so spell its series. Assumes nothing.
use mathlib.Core.Path.{◌≡◌, ap, ◌∙◌}
use mathlib.Core.List.{List, [], ◌++◌}
use Prim.Native.Nat.{ℕ}
use native.Mathlib.Omega.{arith}
use lib.ListN.{length}
use Rattle.witness.specs.Stacks.{items_of}
use Rattle.witness.proofs.Candidates.{way_pushable, way_spelled}
use Rattle.witness.proofs.choosing.is_before.Goals.{After-push_parts, After-push_parts-2}
use Rattle.witness.proofs.choosing.is_before.Goals as goal

-- the parts stand alone, since the stacks were cleared
first : (c : After-push_parts) → c.push_parts.new.self ≡ items_of c.parts.result ++ []
first c = c.push_parts.ensures ∙ ap (λ (is : List (ℕ × ℕ)). items_of c.parts.result ++ is) c.clear.ensures

second : (c : After-push_parts-2) → c.push_parts-2.new.self ≡ items_of c.parts-2.result ++ []
second c = c.push_parts-2.ensures ∙ ap (λ (is : List (ℕ × ℕ)). items_of c.parts-2.result ++ is) c.clear-2.ensures

pub push_parts-requires : goal.push_parts-requires
push_parts-requires c =
    let p = c.requires in
    let fits = way_pushable p.choosable _ p.candidate _ c.parts.ensures in
    (omega (arith, fits.0, ap length c.clear.ensures), fits.1)

pub push_parts-requires-2 : goal.push_parts-requires-2
push_parts-requires-2 c =
    let p = c.requires in
    let fits = way_pushable p.choosable _ p.candidate_2 _ c.parts-2.ensures in
    (omega (arith, fits.0, ap length c.clear-2.ensures), fits.1)

pub returns : goal.returns
returns c =
    let p = c.requires in
    λ r s j k. c.before-2.ensures r s
    (way_spelled p.choosable _ p.candidate _ c.parts.ensures _ r (first (goal.at.returns c).After-push_parts) j)
    (way_spelled p.choosable _ p.candidate_2 _ c.parts-2.ensures _ s (second (goal.at.returns c).After-push_parts-2) k)
