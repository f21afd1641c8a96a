-- The ends of the list with its inverses behind it, less the given letters. Assumes nothing.
use mathlib.Core.Bool.{true}
use mathlib.Core.Path.{◌≡◌, ap₂}
use mathlib.Core.List.{List, ◌∷◌}
use Prim.Native.Nat.{ℕ, suc, ◌+◌, ◌≤◌, ◌<◌}
use native.Mathlib.Omega.{arith}
use lib.ListN.{length, take, get_or}
use borrow.Author.Tests.{lt-ltb, le-ltb}
use Rattle.words.specs.Word.{Word}
use Rattle.products.specs.Product.{inverses}
use Rattle.lists.specs.NormalList.{total}
use Rattle.subgroups.specs.declared.Part.{Part}
use Rattle.subgroups.specs.Ends.{DoubledEnds}
use Rattle.subgroups.proofs.FactorParts.{ends_inside, inverse_start, inverse_end}
use Rattle.subgroups.proofs.parts.inverse_part.Goals.{Start}
use Rattle.subgroups.proofs.parts.inverse_part.Goals as goal

-- there are ends for the generators and for the inverses
inside : (s : Start) → s.args.generators + s.args.generators ≤ length s.args.ends.now
inside s = ends_inside s.requires.0 s.args.ends.now s.args.generators s.args.given.0 s.requires.1

-- where the form of the inverse begins and ends
begins : (s : Start) (gens : List Word) → DoubledEnds gens s.args.ends.now s.args.generators s.args.given.0 → s.args.i < s.args.generators
    → get_or (0 ∷ s.args.ends.now) (s.args.generators + s.args.i) 0 ≡ s.args.given.0 + total (take s.args.i (inverses gens))
begins s gens d h = inverse_start gens s.args.ends.now s.args.generators s.args.given.0 d s.args.i (omega arith)

finishes : (s : Start) (gens : List Word) → DoubledEnds gens s.args.ends.now s.args.generators s.args.given.0 → s.args.i < s.args.generators
    → get_or s.args.ends.now (s.args.generators + s.args.i) 0 ≡ s.args.given.0 + total (take (suc s.args.i) (inverses gens))
finishes s gens d h = inverse_end gens s.args.ends.now s.args.generators s.args.given.0 d s.args.i h

pub overflow_add-generators : goal.overflow_add-generators
overflow_add-generators c = omega (arith, inside (goal.at.overflow_add-generators c).Start)

pub end_before-requires : goal.end_before-requires
end_before-requires c = omega (arith, inside (goal.at.end_before-requires c).Start)

pub overflow_sub-result : goal.overflow_sub-result
overflow_sub-result c =
    omega (arith, c.end_before.ensures, begins (goal.at.overflow_sub-result c).Start c.requires.0 c.requires.1 c.if-i-generators.true)

pub overflow_add-result : goal.overflow_add-result
overflow_add-result c = omega (arith, inside (goal.at.overflow_add-result c).Start)

pub offset_bounds-ends-generators : goal.offset_bounds-ends-generators
offset_bounds-ends-generators c = omega (arith, inside (goal.at.offset_bounds-ends-generators c).Start)

pub bounds-ends-generators : goal.bounds-ends-generators
bounds-ends-generators c = omega (arith, inside (goal.at.bounds-ends-generators c).Start)

pub overflow_sub-result-then-i-generators : goal.overflow_sub-result-then-i-generators
overflow_sub-result-then-i-generators c =
    omega (arith, finishes (goal.at.overflow_sub-result-then-i-generators c).Start c.requires.0 c.requires.1 c.if-i-generators.true)

pub returns-then-i-generators : goal.returns-then-i-generators
returns-then-i-generators c =
    let a = c.args in
    let here = c.if-i-generators.true in
    let e = c.end_before.ensures in
    let part : ℕ → ℕ → Part = λ start end. record { inverse = true; start = start; end = end } in
    λ gens d.
    rw (lt-ltb a.i a.generators here) (ap₂ part (omega (arith, e, begins (goal.at.returns-then-i-generators c).Start gens d here)) (omega (arith, finishes (goal.at.returns-then-i-generators c).Start gens d here)))

pub returns : goal.returns
returns c =
    let a = c.args in
    λ gens d. rw (le-ltb a.i a.generators c.if-i-generators.false) c.no_part.ensures
