-- The letters of the inverse of a word arrive. What is still to come is the inverse of the letters that the walk back has left.
-- Assumes nothing.
use Rattle.std.proofs.Common.{◌≡◌, List, ℕ, [], ◌∷◌, arith, refl, ap, length, length-append}
use Rattle.std.proofs.lemmas.List.{nil_from_length}
use Rattle.words.specs.Word.{inverse, inverse_letter}
use Rattle.words.specs.Bytes.{letter, word as word_of}
use Rattle.words.proofs.Inverse.{length_inverse_letter}
use Rattle.words.proofs.Arriving.{arriving_some, arriving_begins, arriving_more, arriving_ends, rest_of_inverse}
use Rattle.words.proofs.arrival.arrive_inverse.Goals as goal

pub loop-byte-init : goal.loop-byte-init
loop-byte-init c =
    let all : c.into_iter-byte-iterator.result.iter.rest.now ≡ c.args.word.now = cc in
    rw all (record { steps = (tt, tt); stack_kept = refl; room = omega arith; arriving = arriving_begins c.args.stack.now (inverse (word_of c.args.word.now)) })

pub arrive_inverse_letter-top-requires : goal.arrive_inverse_letter-top-requires
arrive_inverse_letter-top-requires c =
    let l = c.loop-byte in
    let before = c.next.new.self.iter.rest.now in
    record {
      some_held = arriving_some l.stack l.top l.invariant.arriving;
      top_in_bounds = omega (arith, ap length c.in-Some.ensures.steps, length-append before (c.in-Some.byte.now ∷ []));
    }

pub loop-byte-preserved : goal.loop-byte-preserved
loop-byte-preserved c =
    let l = c.loop-byte in
    let b = letter c.in-Some.byte.now in
    let before = c.next.new.self.iter.rest.now in
    let m = c.arrive_inverse_letter-top.ensures in
    record {
      steps = (tt, tt);
      stack_kept = omega (arith, c.arrive_inverse_letter-top.auto.stack);
      room = omega (arith, m.letters, length_inverse_letter b, ap length c.in-Some.ensures.steps, length-append before (c.in-Some.byte.now ∷ []));
      arriving = arriving_more (inverse_letter b) (inverse (word_of before)) (rest_of_inverse _ before _ c.in-Some.ensures.steps) l.invariant.arriving m;
    }

pub returns : goal.returns
returns c =
    let l = c.loop-byte in
    record {
      held = arriving_ends (ap (λ (l : List ℕ). inverse (word_of l)) (nil_from_length _ c.in-None.ensures.steps.0)) l.invariant.arriving;
      len_bound = omega arith;
    }
