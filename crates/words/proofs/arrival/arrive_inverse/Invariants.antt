-- The letters of the inverse of a word arrive. What is still to come is the inverse of the letters that the walk back has left.
use Rattle.std.proofs.Common.{◌≡◌, ◌+◌, ◌*◌, ◌≤◌, length}
use Rattle.words.specs.Word.{inverse}
use Rattle.words.specs.Bytes.{word as word_of}
use Rattle.words.specs.Arrival.{came}
use Rattle.words.proofs.Arriving.{Arriving}
use Rattle.words.proofs.arrival.arrive_inverse.Given as goal

abbrev pub invariant-loop-byte : goal.invariant-loop-byte
invariant-loop-byte l =
    let rest = l.byte-iterator.iter.rest.now in
    record {
      steps : (goal.iterator-loop-byte).can_next l.byte-iterator × (goal.iterator-loop-byte).is_finite l.byte-iterator;
      stack_kept : length l.stack ≡ length l.initial.stack;
      room : came l.top + 2 * length rest ≤ 2 * length l.word;
      arriving : Arriving l.stack l.top (inverse (word_of rest)) (inverse (word_of l.word));
    }
