-- The generators take all the bytes: their letters, and two for each length. Assumes nothing.
use Rattle.std.proofs.Common.{◌≡◌, ◌-◌, ◌*◌, length, arith}
use borrow.Author.Tests.{le-leb, lt-leb}
use Rattle.limits.specs.Limits.{most_letters}
use Rattle.cards.specs.Card.{list_bytes}
use Rattle.cards.proofs.GeneratorFields.{listed_letters}
use Rattle.cards.proofs.flattening.count_letters.Goals as goal

pub overflow_mul-count : goal.overflow_mul-count
overflow_mul-count c =
    let l = c.args.list in
    record { fits = omega (arith, listed_letters l.bytes.now l.count c.requires.1) }

pub overflow_sub-count : goal.overflow_sub-count
overflow_sub-count c =
    let l = c.args.list in
    omega (arith, listed_letters l.bytes.now l.count c.requires.1)

pub returns-then-count-gt-WORD_LETTERS : goal.returns-then-count-gt-WORD_LETTERS
returns-then-count-gt-WORD_LETTERS c =
    let l = c.args.list in
    λ list listed. rw (lt-leb (length (list_bytes list)) most_letters (omega (arith, listed_letters l.bytes.now l.count listed)))

pub returns : goal.returns
returns c =
    let l = c.args.list in
    λ list listed.
    let all : length l.bytes.now - 2 * l.count ≡ length (list_bytes list) = omega (arith, listed_letters l.bytes.now l.count listed) in
    rw (all, le-leb (length (list_bytes list)) most_letters (omega arith))
