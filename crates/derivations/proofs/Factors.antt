-- The ways at node 0 are the factors that fit at the empty word.
--     fitting    what the parts by a factor say of its generator
--     parts_sum  what its parts weigh is what the table says of its generator
--     fit_tight  the parts by a factor that fits are tight
-- Assumes a query.
use mathlib.Core.Path.{◌≡◌, refl, sym, ap, ◌∙◌}
use mathlib.Core.List.{List, [], ◌∷◌}
use Prim.Native.Nat.{ℕ, suc, ◌+◌, ◌<◌}
use native.Mathlib.Decide.{ℕ_discrete, dec_lt}
use native.Mathlib.Omega.{arith}
use lib.Dec.{eqb}
use lib.ListN.{length}
use borrow.Author.Tests.{lt-ltb, le-ltb, eq-eqb, ne_eqb}
use Rattle.words.specs.Word.{Word}
use Rattle.refusals.specs.Telling.{pick}
use Rattle.products.specs.Product.{generator, Factor, measure}
use Rattle.products.specs.State.{suffix}
use Rattle.products.proofs.Firsts.{Fit, whole, part}
use Rattle.trees.specs.Tree.{at, word_at}
use Rattle.trees.proofs.Nodes.{node_number, node_number_at}
use Rattle.rows.proofs.WordRows.{root_number}
use Rattle.derivations.specs.declared.Parts.{Parts}
use Rattle.derivations.specs.declared.Parts.TheVariants.{One, Two, Nothing}
use Rattle.derivations.specs.Derivations.{Tight}
use Rattle.derivations.specs.Ways.{World, weight_in, by_factor}
use Rattle.derivations.specs.Query.{Query}
use Rattle.derivations.proofs.Nodes.{entry_at, node_inside, node_once, entry_some, node_state, pair_weight, pair_some, factor_weight}

abbrev pub by_factor_in : World → ℕ → ℕ → Parts
by_factor_in w y d = by_factor w.wholes w.counts y d

-- what the parts say that the factor d does at node y
pub data Fitting (gens words : List Word) (w : World) (y d : ℕ) : Parts → Type 0 where
  never : Fitting gens words w y d Nothing
  alone : Factor gens d → generator gens d ≡ word_at words y → entry_at words w [] (word_at words y) ≡ 1 → Fitting gens words w y d (One 0 d)
  ahead : Factor gens d → at w.wholes d < w.count → word_at words (at w.wholes d) ≡ generator gens d
      → Fitting gens words w y d (Two 0 d (suc (at w.wholes d)) y)

module _ {gens words : List Word} {n : ℕ} {w : World} (query : Query gens words n w) where
  root_inside : 0 < w.count
  root_inside = omega (arith, query.tree.shape.some, query.size)

  root_node : node_number words [] ≡ 0
  root_node = root_number gens words w.count n w.letters w.rests w.children_r w.children_s w.wholes w.counts query.tree query.size

  whole_inside : (d : ℕ) → Factor gens d → at w.wholes d < w.count
  whole_inside d f = omega (arith, query.tree.shape.whole_inside d (omega (arith, query.tree.wholes_count)), query.size)

  module _ (y : ℕ) (k : y < w.count) where
    -- node 0's entries come first in the table
    root_entry : at w.counts y ≡ entry_at words w [] (word_at words y)
    root_entry =
        rw (root_node, node_number_at query.tree y (node_inside query y k)) (ap (at w.counts) (omega arith))

    pub root_weight : weight_in w 1 y ≡ entry_at words w [] (word_at words y)
    root_weight = pair_weight query 0 y root_inside k ∙ ap (λ (u : Word). entry_at words w u (word_at words y)) query.tree.root

    pub fitting : (d : ℕ) → Fitting gens words w y d (by_factor_in w y d)
    fitting d =
        elim (dec_lt d (length w.wholes)) [
          | yes h ↦
              let f : Factor gens d = omega (arith, query.tree.wholes_count) in
              rw (lt-ltb d (length w.wholes) h)
              (elim (ℕ_discrete (at w.counts y) 1) [
                | yes e ↦ rw (eq-eqb (at w.counts y) 1 e) (by_node f (sym root_entry ∙ e))
                | no e ↦ rw (ne_eqb (at w.counts y) 1 e) (ahead f (whole_inside d f) (query.tree.whole d f))
              ])
          | no h ↦ rw (le-ltb d (length w.wholes) (omega arith)) never
        ]
      where
        by_node : Factor gens d → entry_at words w [] (word_at words y) ≡ 1 → Fitting gens words w y d (pick (eqb (at w.wholes d) y) (One 0 d) Nothing)
        by_node f one =
            elim (ℕ_discrete (at w.wholes d) y) [
              | yes e ↦ rw (eq-eqb (at w.wholes d) y e) (alone f (sym (query.tree.whole d f) ∙ ap (word_at words) e) one)
              | no e ↦ rw (ne_eqb (at w.wholes d) y e) never
            ]

    -- what leads on from a factor weighs its generator's entry
    whole_weight : (d : ℕ) → Factor gens d → weight_in w (suc (at w.wholes d)) y ≡ entry_at words w (generator gens d) (word_at words y)
    whole_weight d f =
        pair_weight query (at w.wholes d) y (whole_inside d f) k ∙ ap (λ (u : Word). entry_at words w u (word_at words y)) (query.tree.whole d f)

    pub parts_sum : (d : ℕ) → Factor gens d → weight_in w 0 d + weight_in w (suc (at w.wholes d)) y ≡ weight_in w 1 y
        → measure (d ∷ []) + entry_at words w (generator gens d) (word_at words y) ≡ entry_at words w [] (word_at words y)
    parts_sum d f sum = omega (arith, whole_weight d f, root_weight, factor_weight query d f)

    pub fit_tight : (d : ℕ) → Fit gens measure (entry_at words w) (word_at words y) d → Tight (weight_in w) 1 y (by_factor_in w y d)
    fit_tight d (whole f e one) =
        let node : at w.wholes d ≡ y = node_once query (at w.wholes d) y (whole_inside d f) k (query.tree.whole d f ∙ e) in
        rw (lt-ltb d (length w.wholes) (omega (arith, query.tree.wholes_count)), eq-eqb (at w.counts y) 1 (root_entry ∙ sym one))
        (rw (eq-eqb (at w.wholes d) y node) (omega arith, omega (arith, factor_weight query d f), factor_weight query d f ∙ one ∙ sym root_weight))
    fit_tight d (part f sum) =
        let some = entry_some query (generator gens d) (word_at words y) (suffix d [] f refl) (node_state query y k) in
        let more : at w.counts y ≡ 1 → ⊥ = λ e. omega (arith, root_entry) in
        rw (lt-ltb d (length w.wholes) (omega (arith, query.tree.wholes_count)), ne_eqb (at w.counts y) 1 more) (
          omega (arith, factor_weight query d f),
          pair_some query (at w.wholes d) y (whole_inside d f) k,
          omega (arith, whole_weight d f, root_weight, factor_weight query d f),
        )
