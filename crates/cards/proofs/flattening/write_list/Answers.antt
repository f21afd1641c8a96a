-- The generator that is read next is the list's next, and has room in both slices. Assumes nothing.
use Rattle.std.proofs.Common.{◌≡◌, ◌+◌, ◌≤◌, ◌<◌, length, refl, arith}
use Rattle.limits.specs.Limits.{most_letters}
use Rattle.fields.specs.Field.{Whole, letters_field}
use Rattle.cards.proofs.LettersRead.{letters_some}
use Rattle.cards.proofs.PushingList.{copied, first, pushing_begins, pushing_within, pushing_more, pushing_over}
use Rattle.cards.proofs.flattening.write_list.Goals.{After-unwrap}
use Rattle.cards.proofs.flattening.write_list.Goals as goal

pub loop-i-init : goal.loop-i-init
loop-i-init c =
    let a = c.args in
    λ list listed. pushing_begins a.list.bytes.now a.list.count list a.letters.now a.ends.now listed

pub unwrap-requires : goal.unwrap-requires
unwrap-requires c =
    let (list, listed, few) = c.requires.short_listed in
    letters_some (letters_field c.loop-i.rest.now) c.letters.result c.letters.ensures (first (c.loop-i.invariant list listed) (omega arith)).there

-- the generator that was read
read : (c : After-unwrap) → letters_field c.loop-i.rest.now ≡ Whole c.unwrap.result.0.now c.unwrap.result.1.now
read c = let (g, whole, same) = rw c.unwrap.ensures at c.letters.ensures in rw same whole

more : (c : After-unwrap) → c.loop-i.i < c.args.list.count
more c = omega arith

within : (c : After-unwrap) → c.loop-i.sum + length c.unwrap.result.0.now ≤ most_letters
within c =
    let (list, listed, few) = c.requires.short_listed in
    omega (arith, few, pushing_within (c.loop-i.invariant list listed) (more c) (read c))

pub overflow_add-end : goal.overflow_add-end
overflow_add-end c = record { fits = omega (arith, within (goal.at.overflow_add-end c).After-unwrap) }

pub slice_bounds-copy_from_slice-end : goal.slice_bounds-copy_from_slice-end
slice_bounds-copy_from_slice-end c =
    omega (arith, within (goal.at.slice_bounds-copy_from_slice-end c).After-unwrap, c.requires.room.0, c.loop-i.auto.letters)

pub overflow_cast-ends : goal.overflow_cast-ends
overflow_cast-ends c = record { fits = omega (arith, within (goal.at.overflow_cast-ends c).After-unwrap) }

pub loop-i-preserved : goal.loop-i-preserved
loop-i-preserved c =
    let l = c.loop-i in
    let u = (goal.at.loop-i-preserved c).After-unwrap in
    λ list listed.
    pushing_more (l.invariant list listed) (more u) (read u)
    (rw c.copy_from_slice.ensures.after (copied l.letters c.unwrap.result.0.now l.sum _ (omega arith))) refl (omega (arith, c.requires.room.1))

pub returns : goal.returns
returns c = λ list listed. pushing_over (c.loop-i.invariant list listed) (omega arith)
