-- `count` is the number of generators, and what `count_letters` answers that of letters. Assumes nothing.
use Rattle.std.proofs.Common.{arith}
use Rattle.std.proofs.lemmas.Result.{err_from_is_err_and}
use Rattle.cards.proofs.FlatAnswers.{too_many_generators, letters_short, letters_refused, flattened}
use Rattle.cards.proofs.GeneratorFields.{listed_count}
use Rattle.cards.proofs.flattening.flatten.Goals as goal

pub returns-then-list-gt-GENERATORS : goal.returns-then-list-gt-GENERATORS
returns-then-list-gt-GENERATORS c =
    let a = c.args in
    λ list listed. too_many_generators list a.letters.now a.ends.now (omega (arith, listed_count a.list.bytes.now a.list.count listed))

pub write_list-requires : goal.write_list-requires
write_list-requires c =
    let a = c.args in
    let p = c.requires in
    let (list, listed) = p.some_listed in
    record {
      short_listed = (list, listed, letters_short list (c.in_ok-total.ensures list listed));
      room = (p.room.0, omega (arith, p.room.1));
    }

pub returns-in_err-total : goal.returns-in_err-total
returns-in_err-total c =
    let a = c.args in
    λ list listed.
    let p = err_from_is_err_and c.from_residual.result c.from_residual.ensures.1 in
    rw (p.1, p.2)
    (letters_refused list a.letters.now a.ends.now (omega (arith, listed_count a.list.bytes.now a.list.count listed)) (c.in_err-total.ensures list listed))

pub returns : goal.returns
returns c =
    let a = c.args in
    λ list listed.
    flattened list a.letters.now a.ends.now (omega (arith, listed_count a.list.bytes.now a.list.count listed)) (c.in_ok-total.ensures list listed)
    (c.write_list.ensures list listed)
