-- What a search knows of its items once it has filled the counts. Assumes nothing: these are definitions.
use Rattle.std.specs.Prelude.{◌≡◌, List, ℕ, suc, ◌+◌, ◌≤◌, ◌<◌, length}
use Rattle.limits.specs.Limits.{most_letters, most_states}
use Rattle.words.specs.Word.{Word, Normal}
use Rattle.words.specs.Bytes.{word}
use Rattle.products.specs.State.{AllNormal, LeastLead}
use Rattle.trees.specs.Tree.{at, word_at, Tree}
use Rattle.tables.specs.Rules.{place}
use Rattle.rows.specs.Rows.{PathRows}
use Rattle.derivations.specs.Ways.{World}

-- The slices are the tree of reduced generators, the target is normal, and the counts are the least of each pair and, behind them, the target's rows from
-- row 1 on.
pub record Query (gens words : List Word) (n : ℕ) (w : World) : Type 0 where
  pub normal : AllNormal gens
  pub tree : Tree gens words w.letters w.rests w.children_r w.children_s w.wholes
  pub size : length words ≡ w.count
  pub few : w.count ≤ most_states
  pub target_normal : Normal (word w.target)
  pub short : length w.target ≤ most_letters
  pub exact : (p q : ℕ) → p < w.count → q < w.count → LeastLead gens n (word_at words p) (word_at words q) (at w.counts (place w.count p q))
  pub rows : List ℕ
  pub path : PathRows w.count n w.children_r w.children_s w.target w.counts rows (length w.target)
  pub behind : (i q : ℕ) → i < length w.target → q < w.count → at w.counts (place w.count (w.count + i) q) ≡ at rows (place w.count (suc i) q)
