-- The normal forms of the first i generators, none of them too long, are written, one behind the other, with their ends. Assumes nothing.
use Rattle.std.proofs.Common.{◌≡◌, refl, ap, ◌∙◌, ℕ, ◌+◌, ◌<◌, ◌≤◌, List, [], ◌∷◌, length, drop, drop_of_length-le, arith}
use Rattle.std.proofs.Math.ListN.{length-set}
use Rattle.std.proofs.Math.Seq.{slice, paste}
use Rattle.words.specs.Word.{nf}
use Rattle.words.specs.Bytes.{word, bytes as bytes_of}
use Rattle.products.specs.Product.{generators_from, generators}
use Rattle.products.proofs.Generators.{generators_length}
use Rattle.lists.specs.Questions.{first_long}
use Rattle.lists.proofs.Passing.{list_passed}
use Rattle.lists.proofs.Behind.{behind_begins, checked_letters, generators_next, behind_from, behind_next, behind_within, long_form, long_sum, long_later, question11_no, question11_yes}
use Rattle.lists.proofs.Forms.{forming_begins, forming_more, forming_all}
use Rattle.lists.proofs.reducing.write_forms.Goals.{After-normal_form-len, then-len-gt-GENERATOR_LETTERS-via-then-len-gt-GENERATOR_LETTERS, then-len-gt-GENERATOR_LETTERS-via-else-len-gt-GENERATOR_LETTERS+then-sum-len-gt-LIST_LETTERS}
use Rattle.lists.proofs.reducing.write_forms.Goals as goal

pub loop-i-init : goal.loop-i-init
loop-i-init c =
    let a = c.args in
    record {
      behind = behind_begins a.bytes.now a.ends.now c.requires.checked;
      room = refl;
      room_ends = refl;
      short = omega arith;
      long = omega arith;
      forming = forming_begins (generators a.bytes.now a.ends.now) a.out.now a.out_ends.now;
    }

pub normal_form-len-requires : goal.normal_form-len-requires
normal_form-len-requires c =
    let l = c.loop-i in
    let bytes = c.args.bytes.now in
    let ends = c.args.ends.now in
    let end = c.from-end.ensures in
    let p = c.requires in
    record {
      from_le_end = behind_from bytes ends l.from l.i c.loop-i-test.true end l.invariant.behind;
      end_in_bounds = behind_within bytes ends l.from l.i c.loop-i-test.true end l.invariant.behind;
      all_letters = checked_letters bytes ends p.checked;
      bytes_len_bound = (list_passed bytes ends [] p.checked).short;
      most_letters_in_bounds = omega arith;
    }

next : (c : After-normal_form-len) → generators_from c.args.bytes.now c.loop-i.from (drop c.loop-i.i c.args.ends.now)
    ≡ word (slice c.loop-i.from c.from-end.result c.args.bytes.now) ∷ generators_from c.args.bytes.now c.from-end.result (drop (c.loop-i.i + 1) c.args.ends.now)
next c = generators_next c.args.bytes.now c.args.ends.now c.loop-i.from c.loop-i.i c.loop-i-test.true c.from-end.ensures

abbrev form : After-normal_form-len → List ℕ
form c = bytes_of (nf (word (slice c.loop-i.from c.from-end.result c.args.bytes.now)))

formed_behind : (c : After-normal_form-len) → c.normal_form-len.new.out ≡ paste c.loop-i.out c.loop-i.sum.0 (form c) c.normal_form-len.result.0
formed_behind c =
    c.normal_form-len.ensures.out_after ∙ ap (λ (at : ℕ). paste c.loop-i.out at (form c) c.normal_form-len.result.0) c.from.ensures

here : (c : After-normal_form-len) → c.loop-i.i < length (generators c.args.bytes.now c.args.ends.now)
here c = omega (arith, c.loop-i-test.true, generators_length c.args.bytes.now 0 c.args.ends.now)

pub loop-i-preserved : goal.loop-i-preserved
loop-i-preserved c =
    let l = c.loop-i in
    let bytes = c.args.bytes.now in
    let ends = c.args.ends.now in
    let n = c.normal_form-len in
    let f = (goal.at.loop-i-preserved c).After-normal_form-len in
    let later = long_later l.sum.0 _ _ (next f) n.ensures.result_value (omega arith) (omega arith) in
    record {
      behind = behind_next bytes ends l.from l.i c.loop-i-test.true c.from-end.ensures l.invariant.behind;
      room = n.auto.out ∙ l.invariant.room;
      room_ends = length-set l.out_ends l.i (l.sum.0 + n.result.0) ∙ l.invariant.room_ends;
      short = omega arith;
      long = omega (arith, l.invariant.long, later);
      forming =
          forming_more (generators bytes ends) c.args.out_ends.now _ l.sum.0 l.i l.out l.out_ends l.invariant.forming _ _ (next f) (here f) n.result.0
          n.ensures.result_value (formed_behind f) (omega arith) (omega arith);
    }

pub returns-then-len-gt-GENERATOR_LETTERS : goal.returns-then-len-gt-GENERATOR_LETTERS
returns-then-len-gt-GENERATOR_LETTERS c =
    let l = c.loop-i in
    let at = (goal.at.returns-then-len-gt-GENERATOR_LETTERS c).After-normal_form-len in
    let length = c.normal_form-len.ensures.result_value in
    let none : first_long l.sum.0 (generators_from c.args.bytes.now l.from (drop l.i c.args.ends.now)) ≡ 0 = elim c.then-len-gt-GENERATOR_LETTERS.branch [
      | then-len-gt-GENERATOR_LETTERS-via-then-len-gt-GENERATOR_LETTERS w ↦ long_form l.sum.0 _ _ (next at) length (omega (arith, w.if-len-gt-GENERATOR_LETTERS.true))
      | then-len-gt-GENERATOR_LETTERS-via-else-len-gt-GENERATOR_LETTERS+then-sum-len-gt-LIST_LETTERS w ↦ long_sum l.sum.0 _ _ (next at) length (omega (arith, w.if-sum-len-gt-LIST_LETTERS.true))
    ] in
    question11_no (generators c.args.bytes.now c.args.ends.now) l.i (omega (arith, l.invariant.long, none)) (here at)

pub returns : goal.returns
returns c =
    let l = c.loop-i in
    let a = c.args in
    let gens = generators a.bytes.now a.ends.now in
    let all = c.loop-i-test.false in
    let over = ap (λ (r : List ℕ). first_long l.sum.0 (generators_from a.bytes.now l.from r)) (drop_of_length-le a.ends.now all) in
    let count : length gens ≤ l.i = omega (arith, generators_length a.bytes.now 0 a.ends.now) in
    (question11_yes gens (omega (arith, l.invariant.long, over)), forming_all gens _ _ _ l.invariant.forming count)
