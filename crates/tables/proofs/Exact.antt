-- A full table holds the least weight of a series for every pair of nodes of a tree of normal generators. Assumes that a series weighs what its parts weigh
-- together.
use mathlib.Core.Path.{◌≡◌, subst}
use mathlib.Core.List.{List, ◌++◌}
use Prim.Native.Nat.{ℕ, ◌+◌, ◌*◌, ◌≤◌, ◌<◌}
use native.Mathlib.Omega.{arith}
use lib.ListN.{length}
use Rattle.words.specs.Word.{Word}
use Rattle.words.proofs.Reduced.{reduced_of_normal}
use Rattle.products.specs.Product.{generator}
use Rattle.products.specs.State.{AllNormal, LeastBy}
use Rattle.products.proofs.Tables.{table_least}
use Rattle.limits.specs.Limits.{most_factors}
use Rattle.trees.specs.Tree.{most_of_entry, word_at, Shape, Tree}
use Rattle.levels.specs.Levels.{entry}
use Rattle.tables.specs.Rules.{place}
use Rattle.tables.specs.Nodes.{Followed, Linked}
use Rattle.tables.specs.Levelling.{Full}
use Rattle.tables.specs.Filling.{Fits}
use Rattle.tables.proofs.Places.{place_inside}
use Rattle.trees.proofs.Nodes.{node_number_at, child_r_node, child_s_node, child_r_found, child_s_found}
use Rattle.tables.proofs.Sound.{pair_led}
use Rattle.tables.proofs.Complete.{words_closed, entry_at}

module _ {count : ℕ} {letters rests children_r children_s wholes : List ℕ} where
  pub shape_followed : Shape count letters rests children_r children_s wholes → Followed count letters rests children_r × Followed count letters rests children_s
  shape_followed shape = (
    record {
      room_letters = shape.room_letters;
      room_rests = shape.room_rests;
      room_children = shape.room_r;
      rest_earlier = shape.rest_earlier;
      inside = shape.child_r_inside;
    },
    record {
      room_letters = shape.room_letters;
      room_rests = shape.room_rests;
      room_children = shape.room_s;
      rest_earlier = shape.rest_earlier;
      inside = shape.child_s_inside;
    },
  )

module _ {gens words : List Word} {letters rests children_r children_s wholes : List ℕ} (tree : Tree gens words letters rests children_r children_s wholes) where
  tree_linked : Linked (length words) letters rests children_r children_s
  tree_linked =
      let (followed_r, followed_s) = shape_followed tree.shape in
      record {
        r = record {
          followed = followed_r;
          agree = λ p inside. record { child = child_r_node tree p inside; rest = λ positive spelled. child_r_found tree p positive inside spelled };
        };
        s = record {
          followed = followed_s;
          agree = λ p inside. record { child = child_s_node tree p inside; rest = λ positive spelled. child_s_found tree p positive inside spelled };
        };
      }

  -- so a tree fits, where its nodes are few enough and there is room
  pub tree_fits : {count n : ℕ} {table : List ℕ} → length words ≡ count → count ≤ most_of_entry → n ≤ most_factors → count * count ≤ length table
      → Fits count letters rests children_r children_s wholes n table
  tree_fits size few bound room =
      record {
        shape = subst (λ (k : ℕ). Shape k letters rests children_r children_s wholes) size tree.shape;
        linked = subst (λ (k : ℕ). Linked k letters rests children_r children_s) size tree_linked;
        few = few;
        bound = bound;
        room = room;
      }

  pub full_exact : (weight : List ℕ → ℕ) → ((a b : List ℕ) → weight (a ++ b) ≡ weight a + weight b)
      → {n : ℕ} {table : List ℕ} → AllNormal gens → Full (length words) letters rests wholes weight n table
      → (p q : ℕ) → p < length words → q < length words → LeastBy gens weight n (word_at words p) (word_at words q) (entry table (place (length words) p q))
  full_exact weight weight_append {n} {table} normal full p q row column =
      let inside : place (length words) p q < length words * length words = place_inside row column in
      record {
        bounded = full.bounded.high (place (length words) p q) inside;
        led = λ small.
            let led = pair_led tree weight weight_append row column (full.made (place (length words) p q) (omega (arith, full.bounded.long)) small) in
            (led.by, led.some, led.leads, led.weighs);
        least = λ r some leads small.
            rw (node_number_at tree p row, node_number_at tree q column) at
            (table_least gens weight weight_append n (entry_at tree full)
            (λ j factor. reduced_of_normal (generator gens j) (normal j factor))
            (words_closed tree full) (word_at words p) (word_at words q) (tree.state p row) (tree.state q column) r some leads small);
      }
