-- Pairs from node 0: the parts are a factor and what leads on from it.
--     root_attained    such a pair that weighs n or less has tight parts in some way
--     root_first       and by its candidates its series is the first that leads there from nothing
-- Assumes a query.
use mathlib.Core.Path.{◌≡◌, refl, sym, subst}
use mathlib.Core.List.{List, []}
use Prim.Native.Nat.{ℕ, ◌≤◌, ◌<◌}
use native.Mathlib.Decide.{dec_lt}
use native.Mathlib.Omega.{arith}
use borrow.Author.Tests.{lt-ltb}
use Rattle.words.specs.Word.{Word}
use Rattle.products.specs.Product.{measure}
use Rattle.products.proofs.Exact.{measure_append, measure_factor}
use Rattle.products.proofs.Firsts.{First, Fit, some_fit, first_whole, first_part}
use Rattle.trees.specs.Tree.{word_at}
use Rattle.derivations.specs.declared.Parts.{Parts}
use Rattle.derivations.specs.declared.Parts.TheVariants.{One, Two, Nothing}
use Rattle.derivations.specs.Derivations.{Alone, Tight, Candidate}
use Rattle.derivations.specs.Ways.{World, parts_in, weight_in}
use Rattle.derivations.specs.Query.{Query}
use Rattle.derivations.proofs.Nodes.{entry_at, PairSo, reduced, entries_exact, node_state}
use Rattle.derivations.proofs.Factors.{by_factor_in, Fitting, never, alone, ahead, fitting, fit_tight, root_weight, parts_sum}
use Rattle.derivations.proofs.Induction.{PartsSo, Choice}

module _ {gens words : List Word} {n : ℕ} {w : World} (query : Query gens words n w) where
  abbrev T : Word → Word → ℕ
  T u q = entry_at words w u q

  module _ (y : ℕ) (k : y < w.count) (low : weight_in w 1 y ≤ n) where
    root_parts : (d : ℕ) → parts_in w 1 y d ≡ by_factor_in w y d
    root_parts d = rw (lt-ltb 0 w.count (omega arith))

    root_low : T [] (word_at words y) ≤ n
    root_low = omega (arith, root_weight query y k)

    root_fit : (d : ℕ) × Fit gens measure T (word_at words y) d
    root_fit =
        some_fit gens measure measure_append (measure_factor gens) n T (reduced query) (entries_exact query) (word_at words y) (node_state query y k) root_low

    pub root_attained : (d : ℕ) × Tight (weight_in w) 1 y (parts_in w 1 y d)
    root_attained = let (d, fit) = root_fit in (d, rw (root_parts d) (fit_tight query y k d fit))

    -- every way with tight parts decides
    tight_alone : (ps : Parts) → Tight (weight_in w) 1 y ps → Alone 1 ps
    tight_alone (One a b) t = tt
    tight_alone (Two a b c d) t = refl
    tight_alone Nothing t = elim t [ ]

    -- so a candidate is the least factor that fits
    candidate_least : (d : ℕ) → Candidate (parts_in w) (weight_in w) 1 y d → (i : ℕ) → Fit gens measure T (word_at words y) i → d ≤ i
    candidate_least d candidate i fit =
        elim (dec_lt i d) [
          | yes h ↦
              let t : Tight (weight_in w) 1 y (parts_in w 1 y i) = rw (root_parts i) (fit_tight query y k i fit) in
              absurd (candidate.undecided i h t (tight_alone (parts_in w 1 y i) t))
          | no h ↦ omega arith
        ]

    first_by_factor : {d : ℕ} {ps : Parts} {r : List ℕ} → Fitting gens words w y d ps → Tight (weight_in w) 1 y ps → PartsSo (PairSo gens words n w) ps r
        → ((i : ℕ) → Fit gens measure T (word_at words y) i → d ≤ i) → First gens measure T [] (word_at words y) r
    first_by_factor {d} (alone f e one) t so least =
        rw so
        (first_whole gens measure measure_append (measure_factor gens) n T (reduced query) (entries_exact query) (word_at words y) (node_state query y k) root_low
        d least f e (sym one))
    first_by_factor {d} (ahead f i e) t so least =
        let (front, behind, split, itself, led) = so in
        let (_, some, sum) = t in
        let on = subst (λ (u : Word). First gens measure T u (word_at words y) behind) e (led i k (omega arith)) in
        rw (split, itself)
        (first_part gens measure measure_append (measure_factor gens) n T (reduced query) (entries_exact query) (word_at words y) (node_state query y k) root_low
        d least f (parts_sum query y k d f sum) behind on)
    first_by_factor never t so least = elim t [ ]

    pub root_first : {r : List ℕ} → Choice (parts_in w) (weight_in w) (PairSo gens words n w) 1 y r → First gens measure T (word_at words 0) (word_at words y) r
    root_first {r} choice =
        let d = choice.way in
        rw query.tree.root
        (first_by_factor (fitting query y k d) (rw (root_parts d) at choice.candidate.tight) (rw (root_parts d) at choice.so)
        (candidate_least d choice.candidate))
