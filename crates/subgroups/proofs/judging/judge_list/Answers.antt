-- The list is reduced, with its inverses behind it, and what stands in the fronts of the local arrays is judged. Assumes nothing.
use mathlib.Core.Path.{◌≡◌, sym, ◌∙◌}
use mathlib.Core.List.{List, [], ◌∷◌}
use Prim.Native.Nat.{ℕ, ◌*◌, ◌≤◌}
use native.Mathlib.Omega.{arith}
use lib.ListN.{length, take, replicate, length-replicate}
use Rattle.std.proofs.lemmas.Result.{err_from_is_err_and}
use Rattle.limits.specs.Limits.{most_generators, most_signed_generators, most_of_signed_list}
use Rattle.words.specs.Word.{Word}
use Rattle.words.specs.Bytes.{word}
use Rattle.refusals.specs.Questions.{Asked}
use Rattle.refusals.proofs.Asking.{passed_first, refused_first, first_no_one}
use Rattle.products.specs.Product.{generators}
use Rattle.lists.specs.Questions.{question11}
use Rattle.lists.specs.Reducing.{Checked}
use Rattle.lists.proofs.Passing.{list_passed, list_alone, target_alone}
use Rattle.lists.proofs.SignedList.{signed_too_long}
use Rattle.engine.specs.Calls.{Lent}
use Rattle.queries.specs.Posing.{ReducedList}
use Rattle.subgroups.specs.Judging.{Doubled, sizes_asked}
use Rattle.subgroups.proofs.Lists.{passes, all_inside, given_inside, ends_inside, list_doubled, list_reduced}
use Rattle.subgroups.proofs.Verdicts.{signed_judged, signed_refused}
use Rattle.subgroups.proofs.judging.judge_list.Goals.{After-from-2, In_ok-lengths, Start}
use Rattle.subgroups.proofs.judging.judge_list.Goals as goal

abbrev gens : Start → List Word
gens s = generators s.args.bytes.now s.args.ends.now

-- what is lent
abbrev lent : Start → Lent
lent s = record { first = s.args.first.now; second = s.args.second.now; witness = s.args.witness.now }

abbrev sizes : Start → Asked
sizes s = sizes_asked (gens s) (word s.args.target.now) s.args.n.0 (lent s) s.args.inverses.now

-- the local arrays have room
room : (most_of_signed_list ≤ length (replicate {A = ℕ} most_of_signed_list 0)) × (most_signed_generators ≤ length (replicate {A = ℕ} most_signed_generators 0))
room = (omega (arith, length-replicate {A = ℕ} most_of_signed_list 0), omega (arith, length-replicate {A = ℕ} most_signed_generators 0))

-- the list has passed questions 7 to 10
checked : (s : Start) → Checked s.args.bytes.now s.args.ends.now
checked s = list_alone s.args.bytes.now s.args.ends.now s.args.target.now s.requires

few : (s : Start) → length s.args.ends.now ≤ most_generators
few s = (list_passed s.args.bytes.now s.args.ends.now s.args.target.now s.requires).few

-- a law of what the reduction leaves, at this call
reduced : (c : In_ok-lengths) → let a = c.args in let l = c.in_ok-lengths.lengths in let out = c.reduce_signed.new.out in let out_ends = c.reduce_signed.new.out_ends in
    (l.all.0 ≤ length out) × (2 * length a.ends.now ≤ length out_ends) × (l.given.0 ≤ length (take l.all.0 out))
    × ReducedList (take l.all.0 out) (take (2 * length a.ends.now) out_ends)
    × Doubled (generators a.bytes.now a.ends.now) (take l.all.0 out) (take (2 * length a.ends.now) out_ends) l.given.0 (length a.ends.now)
    × (question11 (generators a.bytes.now a.ends.now) ≡ Rattle.refusals.specs.Questions.passed)
reduced c =
    let a = c.args in
    let r = c.reduce_signed in
    let fine : Checked a.bytes.now a.ends.now = list_alone a.bytes.now a.ends.now a.target.now c.requires in
    let many : length a.ends.now ≤ most_generators = (list_passed a.bytes.now a.ends.now a.target.now c.requires).few in
    let e = c.in_ok-lengths.was in (
      all_inside a.bytes.now a.ends.now _ _ r.new.out r.new.out_ends _ r.ensures fine many room.0 room.1 r.auto.out r.auto.out_ends e,
      ends_inside a.bytes.now a.ends.now _ _ r.new.out r.new.out_ends _ r.ensures fine many room.0 room.1 r.auto.out r.auto.out_ends e,
      given_inside a.bytes.now a.ends.now _ _ r.new.out r.new.out_ends _ r.ensures fine many room.0 room.1 r.auto.out r.auto.out_ends e,
      list_reduced a.bytes.now a.ends.now _ _ r.new.out r.new.out_ends _ r.ensures fine many room.0 room.1 r.auto.out r.auto.out_ends e,
      list_doubled a.bytes.now a.ends.now _ _ r.new.out r.new.out_ends _ r.ensures fine many room.0 room.1 r.auto.out r.auto.out_ends e,
      passes a.bytes.now a.ends.now _ _ r.new.out r.new.out_ends _ r.ensures fine many room.0 room.1 r.auto.out r.auto.out_ends e,
    )

pub judge_reduced-requires-clause-reduced_list : goal.judge_reduced-requires-clause-reduced_list
judge_reduced-requires-clause-reduced_list c = rw c.from.ensures (reduced (goal.at.judge_reduced-requires-clause-reduced_list c).In_ok-lengths).3

pub judge_reduced-requires-clause-given_in_bounds : goal.judge_reduced-requires-clause-given_in_bounds
judge_reduced-requires-clause-given_in_bounds c =
    rw (c.from.ensures, c.from-2.ensures) (reduced (goal.at.judge_reduced-requires-clause-given_in_bounds c).In_ok-lengths).2

pub judge_reduced-requires-clause-target_value : goal.judge_reduced-requires-clause-target_value
judge_reduced-requires-clause-target_value c = target_alone c.args.bytes.now c.args.ends.now c.args.target.now c.requires

pub returns-in_err-lengths : goal.returns-in_err-lengths
returns-in_err-lengths c =
    let s = (goal.at.returns-in_err-lengths c).Start in
    let p = err_from_is_err_and c.from_residual.result c.from_residual.ensures.1 in
    rw (p.1, p.2)
    (signed_refused (gens s) (word c.args.target.now) c.args.n.0 (lent s) c.args.inverses.now
    (refused_first (question11 (gens s)) (sizes s ∷ [])
    (signed_too_long c.args.bytes.now c.args.ends.now _ _ _ _ _ c.reduce_signed.ensures (checked s) room.0 room.1 c.in_err-lengths.was)))

pub returns : goal.returns
returns c =
    let s = (goal.at.returns c).Start in
    let all = reduced (goal.at.returns c).In_ok-lengths in
    let j = c.judge_reduced in
    signed_judged (gens s) (word c.args.target.now) c.args.n.0 j.result (lent s)
    (record { first = j.new.first; second = j.new.second; witness = j.new.witness }) c.args.inverses.now j.new.inverses
    (sym (passed_first (question11 (gens s)) (sizes s ∷ []) all.5 ∙ first_no_one (sizes s)))
    (j.ensures (gens s) (rw (c.from.ensures, c.from-2.ensures) all.4))
