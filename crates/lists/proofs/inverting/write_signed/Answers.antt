-- Behind the list the inverses of the first i generators are written, one behind the other, with their ends. Assumes nothing.
use mathlib.Core.Path.{refl, ap, ◌∙◌}
use mathlib.Core.List.{List}
use Prim.Native.Nat.{ℕ, ◌+◌, ◌*◌, ◌≤◌}
use native.Mathlib.Omega.{arith}
use lib.ListN.{length, set, length-set}
use lib.Seq.{paste, slice}
use Rattle.limits.specs.Limits.{most_of_generator, most_of_signed_list}
use Rattle.words.specs.Word.{Word, nf, inverse}
use Rattle.words.specs.Bytes.{word, bytes}
use Rattle.lists.specs.Reducing.{ReducedFrom}
use Rattle.lists.proofs.Behind.{behind_from, behind_within}
use Rattle.lists.proofs.InverseForms.{Inverting, ends_count, letters_short, letters_all, inverting_begins, inverting_sum, inverting_all, inverting_short, inverting_more}
use Rattle.lists.proofs.inverting.write_signed.Goals.{After-inverse_form-len, At-loop-i}
use Rattle.lists.proofs.inverting.write_signed.Goals as goal

-- behind what is written there is room for an inverse
room : (c : At-loop-i) → c.loop-i.sum.0 + 2 * most_of_generator ≤ length c.loop-i.out
room c =
    let gens = c.requires.some_reduced.0 in
    let r = c.requires.some_reduced.1 in
    omega (arith, inverting_sum gens c.copy_list.new.out_ends r (c.loop-i.invariant.inverting gens r), c.requires.most_of_generator_in_bounds, c.loop-i.invariant.room, c.copy_list.auto.out)

pub copy_list-requires : goal.copy_list-requires
copy_list-requires c =
    let gens = c.requires.some_reduced.0 in
    let r = c.requires.some_reduced.1 in
    record { letters_in_bounds = omega (arith, letters_short gens r); ends_in_bounds = omega (arith, ends_count gens r) }

pub overflow_cast-sum : goal.overflow_cast-sum
overflow_cast-sum c =
    omega (arith, letters_short c.requires.some_reduced.0 c.requires.some_reduced.1)

pub loop-i-init : goal.loop-i-init
loop-i-init c =
    record {
      room = refl;
      room_ends = refl;
      inverting = λ gens r. inverting_begins gens c.args.out.now c.args.out_ends.now r c.copy_list.ensures.out_after c.copy_list.ensures.out_ends_after;
    }

pub inverse_form-len-requires : goal.inverse_form-len-requires
inverse_form-len-requires c =
    let l = c.loop-i in
    let letters = c.args.letters.now in
    let ends = c.args.ends.now in
    let here = c.loop-i-test.true in
    let end = c.from-end.ensures in
    let gens = c.requires.some_reduced.0 in
    let r = c.requires.some_reduced.1 in
    let v = l.invariant.inverting gens r in
    let short = inverting_short gens c.copy_list.new.out_ends r v here end in
    record {
      from_le_end = behind_from letters ends l.from l.i here end v.behind;
      end_in_bounds = behind_within letters ends l.from l.i here end v.behind;
      all_letters = letters_all gens r;
      letters_len_bound = omega (arith, letters_short gens r);
      from_in_bounds = omega (arith, short, room (goal.at.inverse_form-len-requires c).At-loop-i, c.from.ensures);
    }

-- ---- once the inverse of the generator at hand is reduced behind the forms that are written

abbrev form : After-inverse_form-len → List ℕ
form c = bytes (nf (inverse (word (slice c.loop-i.from c.from-end.result c.args.letters.now))))

abbrev sum : After-inverse_form-len → ℕ
sum c = c.loop-i.sum.0 + c.inverse_form-len.result.0

more : (c : After-inverse_form-len) (gens : List Word) → ReducedFrom gens c.args.letters.now c.args.ends.now
    → Inverting gens c.args.letters.now c.args.ends.now c.copy_list.new.out_ends (sum c) c.from-end.result (c.loop-i.i + 1) c.inverse_form-len.new.out
    (set c.loop-i.out_ends (length c.args.ends.now + c.loop-i.i) (sum c))
more c gens r =
    let l = c.loop-i in
    let n = c.inverse_form-len in
    let here = c.loop-i-test.true in
    inverting_more gens c.copy_list.new.out_ends r (l.invariant.inverting gens r) here c.from-end.ensures n.result.0 n.ensures.result_value
    (n.ensures.out_after ∙ ap (λ (at : ℕ). paste l.out at (form c) n.result.0) c.from.ensures) (omega (arith, inverting_sum gens c.copy_list.new.out_ends r (l.invariant.inverting gens r), c.requires.most_of_generator_in_bounds, l.invariant.room, c.copy_list.auto.out))
    (omega (arith, here, ends_count gens r, r.few, c.requires.most_signed_generators_in_bounds, c.copy_list.auto.out_ends))

sum_short : (c : After-inverse_form-len) → sum c ≤ most_of_signed_list
sum_short c =
    let gens = c.requires.some_reduced.0 in
    let r = c.requires.some_reduced.1 in
    inverting_sum gens c.copy_list.new.out_ends r (more c gens r)

pub overflow_add-sum : goal.overflow_add-sum
overflow_add-sum c =
    omega (arith, sum_short (goal.at.overflow_add-sum c).After-inverse_form-len)

pub bounds-out_ends-ends : goal.bounds-out_ends-ends
bounds-out_ends-ends c =
    let list = c.requires.some_reduced in
    omega (arith, ends_count list.0 list.1, list.1.few, c.requires.most_signed_generators_in_bounds, c.loop-i.invariant.room_ends, c.copy_list.auto.out_ends)

pub loop-i-preserved : goal.loop-i-preserved
loop-i-preserved c =
    let l = c.loop-i in
    record {
      room = c.inverse_form-len.auto.out ∙ l.invariant.room;
      room_ends = length-set l.out_ends _ _ ∙ l.invariant.room_ends;
      inverting = more (goal.at.loop-i-preserved c).After-inverse_form-len;
    }

pub returns : goal.returns
returns c =
    λ gens r. inverting_all gens c.copy_list.new.out_ends r (c.loop-i.invariant.inverting gens r) (omega arith)
