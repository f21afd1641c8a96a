-- The letters of a word arrive, its first letter first. What is still to come is the word without its first i letters.
-- Assumes nothing.
use mathlib.Core.Path.{◌≡◌}
use Prim.Native.Nat.{◌≤◌}
use lib.ListN.{length, drop}
use Rattle.words.specs.Bytes.{word as word_of}
use Rattle.words.specs.Arrival.{came}
use Rattle.words.proofs.Arriving.{Arriving}
use Rattle.words.proofs.arrival.arrive_all.Given as goal

abbrev pub invariant-loop-byte : goal.invariant-loop-byte
invariant-loop-byte l =
    (l.byte-index ≤ length l.word) × (length l.stack ≡ length l.initial.stack) × (came l.top ≤ l.byte-index) × Arriving l.stack l.top (word_of (drop l.byte-index l.word)) (word_of l.word)
