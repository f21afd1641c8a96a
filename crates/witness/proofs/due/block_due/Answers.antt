-- A block is a part of the choices and a part of the counts, and what is due in it stands at the same places. Assumes nothing.
use mathlib.Core.Path.{◌≡◌, sym, ap, ◌∙◌}
use mathlib.Core.List.{List}
use Prim.Native.Nat.{ℕ, ◌+◌, ◌-◌, ◌≤◌, ◌<◌}
use lib.ListN.{length}
use Rattle.refusals.proofs.Telling.{tells_same}
use Rattle.trees.specs.Tree.{at}
use Rattle.tables.proofs.Parts.{part, part_at, part_length}
use Rattle.witness.specs.Due.{SomeDue}
use native.Mathlib.Omega.{arith}
use Rattle.witness.proofs.due.block_due.Goals as goal

module _ (from end : ℕ) (rising : from ≤ end) where
  abbrev block : List ℕ → List ℕ
  block l = part l from end

  entry-behind : (l : List ℕ) (p : ℕ) → from ≤ p → p < end → at (block l) (p - from) ≡ at l p
  entry-behind l p behind inside = part_at l from end (p - from) (omega arith) ∙ ap (at l) (omega arith)

  module _ (state k : ℕ) (choices counts : List ℕ) (room : end ≤ length choices) where
    long : length (block choices) ≡ end - from
    long = part_length choices from end room

    part-block : SomeDue state k (block choices) (block counts) 0 (length (block choices)) → SomeDue state k choices counts from end
    part-block (q, first, inside, (is, weighs)) =
        let below : from + q < end = omega (arith, long) in
        (from + q, omega arith, below, (sym (part_at choices from end q below) ∙ is, sym (part_at counts from end q below) ∙ weighs))

    block-part : SomeDue state k choices counts from end → SomeDue state k (block choices) (block counts) 0 (length (block choices))
    block-part (p, behind, inside, (is, weighs)) =
        (p - from, omega arith, omega (arith, long), (entry-behind choices p behind inside ∙ is, entry-behind counts p behind inside ∙ weighs))

pub returns : goal.returns
returns c =
    let a = c.args in
    tells_same c.has_due.result
    (part-block a.from a.end c.requires.0 a.state a.k a.choices.now a.counts.now c.requires.1)
    (block-part a.from a.end c.requires.0 a.state a.k a.choices.now a.counts.now c.requires.1)
    c.has_due.ensures
