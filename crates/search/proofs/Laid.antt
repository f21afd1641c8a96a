-- Pairs and, behind them, rows from row 1 on, in one list of counts.
--     laid_append    the pairs of one list, and then the rows of another
--     laid_carried   a list of pairs into which rows are carried
--     carried_kept   what stands behind such rows is as it was
-- Assumes that there is room.
use mathlib.Core.Path.{◌≡◌, ap, ◌∙◌}
use mathlib.Core.List.{List, ◌++◌, append_assoc}
use Prim.Native.Nat.{ℕ, suc, ◌+◌, ◌*◌, ◌≤◌, ◌<◌}
use native.Mathlib.Omega.{arith}
use lib.Arith.{digits_lt}
use lib.ListN.{length, take, drop, get_or-append}
use lib.Seq.{paste, take-length, length-take-le, get_or-take, get_or-drop, get_or-append-add, drop-paste}
use Rattle.trees.specs.Tree.{at}
use Rattle.trees.proofs.Remaining.{drop_later}
use Rattle.tables.specs.Rules.{place}
use Rattle.tables.proofs.Parts.{part, part_at, part_length}

-- The counts begin with the square of the pairs, and behind it are the rows 1 to t.
pub record Laid (count t : ℕ) (pairs rows counts : List ℕ) : Type 0 where
  pub pair : (p q : ℕ) → p < count → q < count → at counts (place count p q) ≡ at pairs (place count p q)
  pub row : (i q : ℕ) → i < t → q < count → at counts (place count (count + i) q) ≡ at rows (place count (suc i) q)

module _ (count t : ℕ) (pairs rows : List ℕ) where
  -- row i + 1 stands a row behind row i
  next_row : (i q : ℕ) → at rows (count + place count i q) ≡ at rows (place count (suc i) q)
  next_row i q = ap (at rows) (omega arith)

  module _ (room : count * count ≤ length pairs) where
    square : length (take (count * count) pairs) ≡ count * count
    square = length-take-le (count * count) pairs room

    -- an entry of the square, whatever stands behind it; and an entry of what does
    in_square : (rest : List ℕ) (p q : ℕ) → p < count → q < count → at (take (count * count) pairs ++ rest) (place count p q) ≡ at pairs (place count p q)
    in_square rest p q h k =
        let inside : place count p q < count * count = digits_lt h k in
        get_or-append (take (count * count) pairs) rest 0 (place count p q) (omega (arith, inside, square))
        ∙ get_or-take (count * count) pairs (place count p q) 0 inside

    behind_square : (rest : List ℕ) (i q : ℕ) → at (take (count * count) pairs ++ rest) (place count (count + i) q) ≡ at rest (place count i q)
    behind_square rest i q =
        let behind : place count (count + i) q ≡ length (take (count * count) pairs) + place count i q = omega (arith, square) in
        ap (at (take (count * count) pairs ++ rest)) behind ∙ get_or-append-add (take (count * count) pairs) rest (place count i q) 0

    pub laid_append : Laid count t pairs rows (take (count * count) pairs ++ drop count rows)
    laid_append =
        record {
          pair = in_square (drop count rows);
          row = λ i q h k. behind_square (drop count rows) i q ∙ get_or-drop count rows (place count i q) 0 ∙ next_row i q;
        }

  module _ (end : ℕ) (all : end ≡ suc t * count) (there : end ≤ length rows) (room : count * count + t * count ≤ length pairs) {after : List ℕ}
      (carried : after ≡ paste pairs (count * count) (part rows count end) (length (part rows count end))) where
    many_carried : length (part rows count end) ≡ t * count
    many_carried = omega (arith, part_length rows count end there)

    abbrev behind : List ℕ
    behind = drop (count * count + length (part rows count end)) pairs

    -- the square, the rows, and the rest
    in_parts : after ≡ take (count * count) pairs ++ (part rows count end ++ behind)
    in_parts =
        carried
        ∙ append_assoc (take (count * count) pairs) (take (length (part rows count end)) (part rows count end)) behind
        ∙ ap (λ (l : List ℕ). take (count * count) pairs ++ (l ++ behind)) (take-length (part rows count end))

    pub laid_carried : Laid count t pairs rows after
    laid_carried =
        record {
          pair = λ p q h l. ap (λ (s : List ℕ). at s (place count p q)) in_parts ∙ in_square (omega arith) (part rows count end ++ behind) p q h l;
          row = λ i q h l.
              let below : place count i q < t * count = digits_lt h l in
              ap (λ (s : List ℕ). at s (place count (count + i) q)) in_parts
              ∙ behind_square (omega arith) (part rows count end ++ behind) i q
              ∙ get_or-append (part rows count end) behind 0 (place count i q) (omega (arith, below, many_carried))
              ∙ part_at rows count end (place count i q) (omega (arith, below))
              ∙ next_row i q;
        }

    pub carried_kept : (m : ℕ) → count * count + t * count ≤ m → drop m after ≡ drop m pairs
    carried_kept m h =
        drop_later (count * count + length (part rows count end)) m after pairs (omega (arith, many_carried))
        (ap (drop (count * count + length (part rows count end))) carried
        ∙ drop-paste pairs (count * count) (part rows count end) (length (part rows count end)) (omega arith) (omega arith))
