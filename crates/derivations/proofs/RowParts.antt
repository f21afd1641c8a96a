-- The rows of a query's target as words: what an item of a row weighs is the row's entry at the node's word, and what its parts in a way are.
--     rows_closed, rows_reached              the rows at words are closed and attained
--     row_weight, row_some                   an item of a row weighs the row's entry, 1 or more
--     letter_there, read_word, state_read    the target's letter, and the node that has it in front of another
--     row_way                                the parts of an item of row 1 or a further one
-- Assumes a query.
use mathlib.Core.Bool.{Bool, true, false}
use mathlib.Core.Path.{◌≡◌, refl, sym, ap, ◌∙◌}
use mathlib.Core.List.{List, ◌∷◌}
use Prim.Native.Nat.{ℕ, zero, suc, ◌+◌, ◌-◌, ◌≤◌, ◌<◌}
use native.Mathlib.Decide.{dec_le, dec_lt, ℕ_discrete}
use native.Mathlib.Omega.{arith}
use lib.Dec.{eqb}
use lib.ListN.{length, length-map}
use borrow.Author.Tests.{lt-ltb, le-ltb, eq-eqb, ne_eqb}
use Rattle.words.specs.Word.{Letter, R, S, Word}
use Rattle.words.specs.Bytes.{letter, word}
use Rattle.refusals.specs.Telling.{pick}
use Rattle.products.specs.Product.{measure}
use Rattle.products.specs.State.{State}
use Rattle.products.proofs.Exact.{measure_append, measure_factor, exact_closed}
use Rattle.products.proofs.Tables.{weight_positive}
use Rattle.products.proofs.Rows.{RowsClosed, RowsAttained}
use Rattle.products.proofs.RowClasses.{LetterAt, reads_some, reads_series, row_reached}
use Rattle.products.proofs.Verdict.{Rounds, rows_closed_of, rows_attained_of}
use Rattle.trees.specs.Tree.{at, word_at}
use Rattle.trees.proofs.Nodes.{node_number_at}
use Rattle.rows.proofs.WordRows.{row_at, read_word, letter_at, rows_rounds}
use Rattle.derivations.specs.declared.Parts.{Parts}
use Rattle.derivations.specs.declared.Parts.TheVariants.{One, Two, Nothing}
use Rattle.derivations.specs.Ways.{World, row_item, read_at, next_row, parts_in, weight_in}
use Rattle.derivations.specs.Query.{Query}
use Rattle.derivations.proofs.Nodes.{entry_at, child_in, entries_exact, node_inside, node_state, table_weight}
use Rattle.derivations.proofs.Nodes.{child_inside, child_word, state_child, child_state}

-- the entry of row i at a word
abbrev pub row_in : {gens words : List Word} {n : ℕ} {w : World} → Query gens words n w → ℕ → Word → ℕ
row_in {words = words} {w = w} query i q = row_at words w.count query.rows i q

-- letter i of the target, and the node that has it in front of v's word, 0 where there is none
abbrev pub letter_in : World → ℕ → Letter
letter_in w i = letter (at w.target i)

abbrev pub read_in : World → ℕ → ℕ → ℕ
read_in w i v = read_at w.count w.children_r w.children_s w.target i v

-- what the parts of an item of row i + 1 at q are in way d
pub data RowWay (w : World) (i q d : ℕ) : Parts → Type 0 where
  none : RowWay w i q d Nothing
  reading : (read_in w i q ≡ 0 → ⊥) → RowWay w i q d (One (row_item w.count i) (read_in w i q))
  chaining : read_in w i q ≡ 0 → d < w.count → (read_in w i d ≡ 0 → ⊥) → RowWay w i q d (Two (row_item w.count i) (read_in w i d) (suc d) q)

module _ {gens words : List Word} {n : ℕ} {w : World} (query : Query gens words n w) where
  pub root_inside : 0 < w.count
  root_inside = omega (arith, query.tree.shape.some, query.size)

  rounds : Rounds gens n (entry_at words w) (word w.target) (row_in query)
      (read_word words w.count n w.children_r w.children_s w.target w.counts query.rows)
  rounds =
      rows_rounds gens words w.count n w.letters w.rests w.children_r w.children_s w.wholes w.counts query.tree query.size
      w.target query.rows query.path

  pub rows_closed : RowsClosed gens n (entry_at words w) (word w.target) (row_in query)
  rows_closed = rows_closed_of gens n (entry_at words w) (word w.target) (row_in query)
      (exact_closed gens measure measure_append n (entry_at words w) (entries_exact query)) _ rounds

  pub rows_reached : RowsAttained gens n (entry_at words w) (word w.target) (row_in query)
  rows_reached = rows_attained_of gens n (entry_at words w) (word w.target) (row_in query) _ rounds

  -- ---- weights

  same_length : length (word w.target) ≡ length w.target
  same_length = length-map w.target letter

  pub row_weight : (i q : ℕ) → i ≤ length w.target → q < w.count → weight_in w (row_item w.count i) q ≡ row_in query i (word_at words q)
  row_weight zero q h k =
      rw (node_number_at query.tree q (node_inside query q k)) (table_weight query 0 q (omega arith) k ∙ sym (query.path.start q k))
  row_weight (suc i) q h k =
      rw (node_number_at query.tree q (node_inside query q k)) (table_weight query (w.count + i) q (omega arith) k ∙ query.behind i q h k)

  -- where the entry is up to n a series of its class has as many factors, and none of them is empty
  pub row_some : (i q : ℕ) → i ≤ length w.target → q < w.count → 1 ≤ weight_in w (row_item w.count i) q
  row_some i q h k =
      rw (row_weight i q h k)
      (elim (dec_le (row_in query i (word_at words q)) n) [
        | yes l ↦
            let (r, d, e) =
            row_reached gens measure measure_append n (entry_at words w) (word w.target) (row_in query) (entries_exact query) rows_reached
            i (omega (arith, same_length)) (word_at words q) (node_state query q k) l in
            rw e at
            (weight_positive gens measure measure_append (measure_factor gens) r (reads_series gens (word w.target) d)
            (reads_some gens (word w.target) d))
        | no l ↦ omega arith
      ])

  -- ---- the letter, and the nodes that it leads to

  pub letter_there : (i : ℕ) → i < length w.target → LetterAt (word w.target) i (letter_in w i)
  letter_there i h = (omega (arith, same_length), letter_at w.target i h)

  read_child : (i v : ℕ) → read_in w i v ≡ child_in w (letter_in w i) v
  read_child i v = by (eqb (at w.target i) 82)
    where
      by : (t : Bool) → at (pick t w.children_r w.children_s) v ≡ child_in w (pick t R S) v
      by true = refl
      by false = refl

  pub read_inside : (i v : ℕ) → v < w.count → read_in w i v < w.count
  read_inside i v h = rw (read_child i v) (child_inside query (letter_in w i) v h)

  pub read_word_lem : (i v : ℕ) → v < w.count → (read_in w i v ≡ 0 → ⊥) → word_at words (read_in w i v) ≡ letter_in w i ∷ word_at words v
  read_word_lem i v h some = rw (read_child i v) (child_word query (letter_in w i) v h (λ e. some (read_child i v ∙ e)))

  pub read_weight : (i v : ℕ) → i ≤ length w.target → v < w.count → (read_in w i v ≡ 0 → ⊥)
      → weight_in w (row_item w.count i) (read_in w i v) ≡ row_in query i (letter_in w i ∷ word_at words v)
  read_weight i v h k some = row_weight i (read_in w i v) h (read_inside i v k) ∙ ap (row_in query i) (read_word_lem i v k some)

  pub read_state : (i v : ℕ) → v < w.count → (read_in w i v ≡ 0 → ⊥) → State gens (letter_in w i ∷ word_at words v)
  read_state i v h some = child_state query (letter_in w i) v h (λ e. some (read_child i v ∙ e))

  pub state_read : (i v : ℕ) → v < w.count → State gens (letter_in w i ∷ word_at words v) → read_in w i v ≡ 0 → ⊥
  state_read i v h s e = state_child query (letter_in w i) v h s (sym (read_child i v) ∙ e)

  -- ---- parts

  row_parts : (i q d : ℕ) → parts_in w (suc (w.count + i)) q d ≡ next_row w.count w.children_r w.children_s w.target i q d
  row_parts i q d =
      let back : w.count + i - w.count ≡ i = omega arith in
      rw (le-ltb (w.count + i) w.count (omega arith), back)

  pub reading_parts : (i q : ℕ) → (read_in w i q ≡ 0 → ⊥) → parts_in w (suc (w.count + i)) q 0 ≡ One (row_item w.count i) (read_in w i q)
  reading_parts i q some = rw (row_parts i q 0, ne_eqb (read_in w i q) 0 some)

  pub chaining_parts : (i q d : ℕ) → read_in w i q ≡ 0 → d < w.count → (read_in w i d ≡ 0 → ⊥)
      → parts_in w (suc (w.count + i)) q d ≡ Two (row_item w.count i) (read_in w i d) (suc d) q
  chaining_parts i q d z h some =
      rw (row_parts i q d, eq-eqb (read_in w i q) 0 z) (rw (lt-ltb d w.count h, ne_eqb (read_in w i d) 0 some))

  pub row_way : (i q d : ℕ) → RowWay w i q d (parts_in w (suc (w.count + i)) q d)
  row_way i q d =
      elim (ℕ_discrete (read_in w i q) 0) [
        | yes z ↦
            elim (dec_lt d w.count) [
              | yes h ↦
                  elim (ℕ_discrete (read_in w i d) 0) [
                    | yes z' ↦ rw (row_parts i q d, eq-eqb (read_in w i q) 0 z) (rw (lt-ltb d w.count h, eq-eqb (read_in w i d) 0 z') none)
                    | no some ↦ rw (chaining_parts i q d z h some) (chaining z h some)
                  ]
              | no h ↦ rw (row_parts i q d, eq-eqb (read_in w i q) 0 z) (rw (le-ltb d w.count (omega arith)) none)
            ]
        | no some ↦ rw (row_parts i q d, ne_eqb (read_in w i q) 0 some) (first_only (eqb d 0) some)
      ]
    where
      first_only : (t : Bool) → (read_in w i q ≡ 0 → ⊥) → RowWay w i q d (pick t (One (row_item w.count i) (read_in w i q)) Nothing)
      first_only true some = reading some
      first_only false some = none
