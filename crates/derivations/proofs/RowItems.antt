-- The items of rows: what stands in a row is attained by the parts of some way, and the first series of an item is that of the row at the node's word.
--     rows_attained    an item of row 1 or a further one, up to the bound, has tight parts
--     rows_first       its first series is the first of the row's
-- Assumes a query.
use mathlib.Core.Path.{◌≡◌, refl, sym, subst, ◌∙◌}
use mathlib.Core.List.{List, ◌∷◌}
use Prim.Native.Nat.{ℕ, zero, suc, ◌+◌, ◌≤◌, ◌<◌}
use native.Mathlib.Decide.{ℕ_discrete}
use native.Mathlib.Omega.{arith}
use lib.ListN.{length}
use Rattle.words.specs.Word.{Word}
use Rattle.words.specs.Bytes.{word}
use Rattle.products.specs.Product.{measure}
use Rattle.products.specs.State.{State}
use Rattle.products.proofs.States.{state_tail}
use Rattle.products.proofs.Exact.{measure_append}
use Rattle.products.proofs.Order.{NoLater}
use Rattle.products.proofs.Firsts.{First}
use Rattle.products.proofs.RowFirsts.{RowTight, RowFirst, RowJoined, row_first_start, row_entry_read, row_first_read, some_row_tight, row_first_chain}
use Rattle.trees.specs.Tree.{word_at}
use Rattle.derivations.specs.declared.Parts.{Parts}
use Rattle.derivations.specs.Derivations.{Alone, Tight, Candidate, Firsts, Joins, chosen, one, two}
use Rattle.derivations.specs.Ways.{World, row_item, parts_in, weight_in}
use Rattle.derivations.specs.Query.{Query}
use Rattle.derivations.proofs.Nodes.{entry_at, entries_exact, node_state, node_of_state, pair_weight, pair_some}
use Rattle.derivations.proofs.Pairs.{pairs_first}
use Rattle.derivations.proofs.RowParts.{row_in, letter_in, read_in, RowWay, none, reading, chaining, root_inside, rows_closed, rows_reached, row_weight, row_some}
use Rattle.derivations.proofs.RowParts.{letter_there, read_inside, read_word_lem, read_weight, read_state, state_read}
use Rattle.derivations.proofs.RowParts.{reading_parts, chaining_parts, row_way}

module _ {gens words : List Word} {n : ℕ} {w : World} (query : Query gens words n w) where
  abbrev T : Word → Word → ℕ
  T = entry_at words w

  abbrev Row : ℕ → Word → ℕ
  Row = row_in query

  abbrev x : Word
  x = word w.target

  -- the first number of the items of row i
  abbrev row : ℕ → ℕ
  row i = row_item w.count i

  row_lower : (i : ℕ) → row i < row (suc i)
  row_lower zero = omega (arith, root_inside query)
  row_lower (suc i) = omega arith

  module _ (i q : ℕ) (h : i < length w.target) (k : q < w.count) where
    -- the entry of row i + 1 at q's word
    next_weight : weight_in w (row (suc i)) q ≡ Row (suc i) (word_at words q)
    next_weight = row_weight query (suc i) q h k

    -- ---- where the letter cannot stand before q's word

    -- what is tight in numbers is tight in words, and back
    tight_row : (v : ℕ) {ps : Parts} → RowWay w i q v ps → read_in w i q ≡ 0 → Tight (weight_in w) (row (suc i)) q ps
        → RowTight gens T Row i (letter_in w i) (word_at words q) (word_at words v)
    tight_row v (reading some) z t = absurd (some z)
    tight_row v (chaining _ inside some) z (_, _, sum) =
        record {
          state = read_state query i v inside some;
          sum = omega (arith, read_weight query i v (omega arith) inside some, pair_weight query v q inside k, next_weight);
        }
    tight_row v none z t = elim t [ ]

    row_tight : (v : ℕ) → v < w.count → read_in w i q ≡ 0 → RowTight gens T Row i (letter_in w i) (word_at words q) (word_at words v)
        → Tight (weight_in w) (row (suc i)) q (parts_in w (row (suc i)) q v)
    row_tight v inside z tight =
        let some = state_read query i v inside tight.state in
        let sum = tight.sum in
        rw (chaining_parts query i q v z inside some) (
          row_some query i (read_in w i v) (omega arith) (read_inside query i v inside),
          pair_some query v q inside k,
          omega (arith, read_weight query i v (omega arith) inside some, pair_weight query v q inside k, next_weight),
        )

    -- no way decides: none has one part, and the row's number is not 1
    not_alone : (v : ℕ) {ps : Parts} → RowWay w i q v ps → read_in w i q ≡ 0 → Alone (row (suc i)) ps → ⊥
    not_alone v (reading some) z a = some z
    not_alone v (chaining _ inside some) z a = omega arith
    not_alone v none z a = elim a [ ]

    unread : read_in w i q ≡ 0 → State gens (letter_in w i ∷ word_at words q) → ⊥
    unread z s = state_read query i q k s z

    module _ (within : weight_in w (row (suc i)) q ≤ n) where
      low : Row (suc i) (word_at words q) ≤ n
      low = omega (arith, next_weight)

      some_tight : read_in w i q ≡ 0 → (v : Word) × RowTight gens T Row i (letter_in w i) (word_at words q) v
      some_tight z =
          some_row_tight gens measure measure_append n T x Row (entries_exact query) (rows_closed query) (rows_reached query) i (letter_in w i) (word_at words q)
          (letter_there query i h) (node_state query q k) low (unread z)

      next_attained : (d : ℕ) × Tight (weight_in w) (row (suc i)) q (parts_in w (row (suc i)) q d)
      next_attained =
          elim (ℕ_discrete (read_in w i q) 0) [
            | yes z ↦
                let (v, tight) = some_tight z in
                let (d, inside, same) = node_of_state query v (state_tail gens tight.state) in
                (d, row_tight d inside z (subst (RowTight gens T Row i (letter_in w i) (word_at words q)) (sym same) tight))
            | no some ↦ (0, rw (reading_parts query i q some) (row_lower i, row_some query i (read_in w i q) (omega arith) (read_inside query i q k), same some))
          ]
        where
          same : (read_in w i q ≡ 0 → ⊥) → weight_in w (row i) (read_in w i q) ≡ weight_in w (row (suc i)) q
          same some =
              read_weight query i q (omega arith) k some
              ∙ sym (row_entry_read gens measure measure_append n T x Row (entries_exact query) (rows_closed query) (rows_reached query) i (letter_in w i)
              (word_at words q) (letter_there query i h) (node_state query q k) low (read_state query i q k some))
              ∙ sym next_weight

  pub rows_attained : (i q : ℕ) → i < length w.target → q < w.count → weight_in w (suc (w.count + i)) q ≤ n
      → (d : ℕ) × Tight (weight_in w) (suc (w.count + i)) q (parts_in w (suc (w.count + i)) q d)
  rows_attained i q h k within = next_attained i q h k within

  -- ---- first series

  -- what rows-first says of row i
  abbrev RowSo : ℕ → Type 0
  RowSo i =
      (q : ℕ) → q < w.count → (r : List ℕ) → Firsts (parts_in w) (weight_in w) (row i) q r → weight_in w (row i) q ≤ n
      → RowFirst gens measure T x Row i (word_at words q) r

  start_first : RowSo 0
  start_first q k r f within =
      row_first_start gens measure measure_append n T x Row (entries_exact query) (rows_closed query) (rows_reached query) (word_at words q) r
      (node_state query q k)
      (subst (λ (u : Word). First gens measure T u (word_at words q) r) query.tree.root
      (pairs_first query 0 q (root_inside query) k f within))

  module _ (i : ℕ) (h : i < length w.target) (before : RowSo i) where
    joined_row : (q v : ℕ) {ps : Parts} {r : List ℕ} → q < w.count → weight_in w (row (suc i)) q ≤ n → RowWay w i q v ps → read_in w i q ≡ 0
        → Tight (weight_in w) (row (suc i)) q ps → Joins (parts_in w) (weight_in w) ps r
        → RowJoined gens measure T x Row i (letter_in w i) (word_at words q) (word_at words v) r
    joined_row q v k within (reading some) z t j = absurd (some z)
    joined_row q v k within (chaining _ inside some) z (_, _, sum) (two {r} {s} f g) =
        record {
          front = r;
          behind = s;
          split = refl;
          first =
              subst (λ (u : Word). RowFirst gens measure T x Row i u r) (read_word_lem query i v inside some)
              (before (read_in w i v) (read_inside query i v inside) r f (omega arith));
          second = pairs_first query v q inside k g (omega arith);
        }
    joined_row q v k within none z t j = elim t [ ]

    next_first : RowSo (suc i)
    next_first q k r (chosen d _ c j others joined no_later) within = by_way (row_way query i q d) j c.tight
      where
        over : read_in w i q ≡ 0 → (v : ℕ) → v < w.count → RowTight gens T Row i (letter_in w i) (word_at words q) (word_at words v)
            → (s : List ℕ) × RowJoined gens measure T x Row i (letter_in w i) (word_at words q) (word_at words v) s × NoLater r s
        over z v inside tight =
            let t = row_tight i q h k v inside z tight in
            let c' : Candidate (parts_in w) (weight_in w) (row (suc i)) q v =
            record { tight = t; undecided = λ e _ _ a. not_alone i q h k e (row_way query i q e) z a } in
            (others v c', joined_row q v k within (row_way query i q v) z t (joined v c'), no_later v c')

        by_way : {ps : Parts} → RowWay w i q d ps → Joins (parts_in w) (weight_in w) ps r → Tight (weight_in w) (row (suc i)) q ps
            → RowFirst gens measure T x Row (suc i) (word_at words q) r
        by_way (reading some) (one f) (_, _, same) =
            row_first_read gens measure measure_append n T x Row (entries_exact query) (rows_closed query) (rows_reached query) i (letter_in w i)
            (word_at words q) (letter_there query i h) (node_state query q k) (low i q h k within) (read_state query i q k some) r
            (subst (λ (u : Word). RowFirst gens measure T x Row i u r) (read_word_lem query i q k some)
            (before (read_in w i q) (read_inside query i q k) r f (omega arith)))
        by_way (chaining z inside some) j t =
            row_first_chain gens measure measure_append n T x Row (entries_exact query) (rows_closed query) (rows_reached query) i (letter_in w i)
            (word_at words q) (letter_there query i h) (node_state query q k) (low i q h k within) (unread i q h k z)
            (word_at words d) r (tight_row i q h k d (chaining z inside some) z t) (joined_row q d k within (chaining z inside some) z t j)
            (λ u tight.
            let (v, inside', same) = node_of_state query u (state_tail gens tight.state) in
            subst (λ (u : Word). (s : List ℕ) × RowJoined gens measure T x Row i (letter_in w i) (word_at words q) u s × NoLater r s) same
            (over z v inside' (subst (RowTight gens T Row i (letter_in w i) (word_at words q)) (sym same) tight)))
        by_way none j t = elim j [ ]

  pub rows_first : (i q : ℕ) → i ≤ length w.target → q < w.count → {r : List ℕ}
      → Firsts (parts_in w) (weight_in w) (row_item w.count i) q r → weight_in w (row_item w.count i) q ≤ n
      → RowFirst gens measure T x Row i (word_at words q) r
  rows_first i q h k {r} f within = by i h q k r f within
    where
      by : (i : ℕ) → i ≤ length w.target → RowSo i
      by zero h = start_first
      by (suc i) h = next_first i h (by i (omega arith))
