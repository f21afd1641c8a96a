-- The list is reduced with its inverses, which puts its questions; then room for the inverses is asked for, and the number decides. Assumes nothing.
use mathlib.Core.Path.{◌≡◌, sym, ◌∙◌}
use mathlib.Core.List.{List, []}
use Prim.Native.Nat.{ℕ, ◌≤◌}
use lib.ListN.{length, replicate, length-replicate}
use native.Mathlib.Omega.{arith}
use Rattle.limits.specs.Limits.{most_generators, most_signed_generators, most_of_signed_list, inverses_slice}
use Rattle.words.specs.Word.{Word}
use Rattle.refusals.specs.Questions.{question14}
use Rattle.products.specs.Product.{generators}
use Rattle.lists.specs.Reducing.{Checked}
use Rattle.lists.proofs.Passing.{list_passed}
use Rattle.subgroups.specs.Questions.{of_factor}
use Rattle.subgroups.specs.Ends.{DoubledEnds}
use Rattle.subgroups.proofs.Lists.{list_checked, passes, ends_doubled}
use Rattle.subgroups.proofs.Showing.{nothing_shown, factor_shown, factor_asked, list_refused}
use Rattle.subgroups.proofs.parts.part.Goals.{In-Ok, Start}
use Rattle.subgroups.proofs.parts.part.Goals as goal

abbrev gens : Start → List Word
gens s = generators s.args.bytes.now s.args.ends.now

-- the local arrays have room
room : (most_of_signed_list ≤ length (replicate {A = ℕ} most_of_signed_list 0)) × (most_signed_generators ≤ length (replicate {A = ℕ} most_signed_generators 0))
room = (omega (arith, length-replicate {A = ℕ} most_of_signed_list 0), omega (arith, length-replicate {A = ℕ} most_signed_generators 0))

-- the list has passed its questions
checked : (c : In-Ok) → Checked c.args.bytes.now c.args.ends.now
checked c = list_checked c.args.bytes.now c.args.ends.now c.reduce_signed.ensures c.in-Ok.is

few : (c : In-Ok) → length c.args.ends.now ≤ most_generators
few c = (list_passed c.args.bytes.now c.args.ends.now [] (checked c)).few

asked : (c : In-Ok) → of_factor c.args.bytes.now c.args.ends.now c.args.inverses ≡ question14 inverses_slice c.args.inverses
asked c =
    factor_asked c.args.bytes.now c.args.ends.now c.args.inverses c.args.number (checked c)
    (passes c.args.bytes.now c.args.ends.now _ _ _ (c.reduce_signed.new.out_ends) _ c.reduce_signed.ensures
    (checked c) (few c) room.0 room.1 c.reduce_signed.auto.out c.reduce_signed.auto.out_ends c.in-Ok.is)

doubled : (c : In-Ok) → DoubledEnds ((generators c.args.bytes.now c.args.ends.now)) (c.reduce_signed.new.out_ends) (length c.args.ends.now) c.in-Ok.lengths.given.0
doubled c =
    ends_doubled c.args.bytes.now c.args.ends.now _ _ _ (c.reduce_signed.new.out_ends) _ c.reduce_signed.ensures
    (checked c) (few c) room.0 room.1 c.reduce_signed.auto.out c.reduce_signed.auto.out_ends c.in-Ok.is

pub factor_part-requires : goal.factor_part-requires
factor_part-requires c = (gens (goal.at.factor_part-requires c).Start, doubled (goal.at.factor_part-requires c).In-Ok)

pub returns-in-Err : goal.returns-in-Err
returns-in-Err c =
    c.no_part.ensures
    ∙ sym (list_refused c.args.bytes.now c.args.ends.now c.args.inverses c.args.number c.reduce_signed.ensures room.0 room.1 c.in-Err.is)

pub returns-in-Err-of_inverses : goal.returns-in-Err-of_inverses
returns-in-Err-of_inverses c =
    let a = c.args in
    c.no_part-in-Err-of_inverses.ensures
    ∙ sym (nothing_shown a.bytes.now a.ends.now a.inverses a.number
    (asked (goal.at.returns-in-Err-of_inverses c).In-Ok ∙ sym c.of_inverses.ensures ∙ c.in-Err-of_inverses.is))

pub returns-in-Ok-of_inverses : goal.returns-in-Ok-of_inverses
returns-in-Ok-of_inverses c =
    let a = c.args in
    let here = (goal.at.returns-in-Ok-of_inverses c).In-Ok in
    c.factor_part.ensures (gens (goal.at.returns-in-Ok-of_inverses c).Start) (doubled here)
    ∙ sym (factor_shown a.bytes.now a.ends.now a.inverses a.number (asked here ∙ sym c.of_inverses.ensures ∙ c.in-Ok-of_inverses.is))
