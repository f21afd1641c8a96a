-- The target's letters count on from the list's. Assumes nothing.
use mathlib.Core.Path.{◌≡◌, sym, ◌∙◌}
use mathlib.Core.List.{◌++◌}
use Prim.Native.Nat.{◌+◌, ◌≤◌}
use lib.ListN.{length, length-append}
use borrow.Author.Tests.{le-leb, lt-leb}
use Rattle.refusals.specs.Questions.{first_other}
use Rattle.refusals.specs.declared.Refusal.TheVariants.{NotALetter}
use Rattle.refusals.proofs.Asking.{asks_yes, asks_no}
use Rattle.refusals.proofs.FirstOther.{first_other_within}
use Rattle.lists.proofs.FirstOthers.{first_other_front, first_other_behind}
use native.Mathlib.Omega.{arith}
use Rattle.lists.proofs.ends.of_all_letters.Goals as goal

pub returns-then-first-bytes : goal.returns-then-first-bytes
returns-then-first-bytes c =
    let u = c.args.bytes.now in
    let v = c.args.target.now in
    let first = c.first_other-first.ensures in
    let e = first ∙ sym (first_other_front u v (rw first at c.if-first-bytes.true)) in
    rw e (sym (asks_no _ (NotALetter (first_other (u ++ v))) (lt-leb (length (u ++ v)) (first_other (u ++ v)) (omega (arith, e, length-append u v, c.if-first-bytes.true)))))

pub overflow_add-result : goal.overflow_add-result
overflow_add-result c =
    let u = c.args.bytes.now in
    let v = c.args.target.now in
    let first = c.first_other-first.ensures in
    let second = c.first_other-second.ensures in
    omega (arith, first, second, first_other_within u, first_other_within v)

pub returns-then-second-target : goal.returns-then-second-target
returns-then-second-target c =
    let u = c.args.bytes.now in
    let v = c.args.target.now in
    let first = c.first_other-first.ensures in
    let second = c.first_other-second.ensures in
    let all : length u ≤ first_other u = rw first at c.if-first-bytes.false in
    let e : c.first_other-first.result + c.first_other-second.result ≡ first_other (u ++ v) = omega (arith, first, second, first_other_within u, first_other_behind u v all) in
    rw e (sym (asks_no _ (NotALetter (first_other (u ++ v))) (lt-leb (length (u ++ v)) (first_other (u ++ v)) (omega (arith, second, first_other_behind u v all, length-append u v, c.if-second-target.true)))))

pub returns : goal.returns
returns c =
    let u = c.args.bytes.now in
    let v = c.args.target.now in
    let first = c.first_other-first.ensures in
    let second = c.first_other-second.ensures in
    let all : length u ≤ first_other u = rw first at c.if-first-bytes.false in
    sym (asks_yes _ (NotALetter (first_other (u ++ v))) (le-leb (length (u ++ v)) (first_other (u ++ v)) (omega (arith, second, first_other_behind u v all, length-append u v, c.if-second-target.false))))
