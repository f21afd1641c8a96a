-- Pairs that have no shift: the parts are two halves.
--     unshifted_attained    such a pair that weighs n or less has tight halves in some way
--     unshifted_first       and by its candidates its series is the first that leads from word to word
-- Assumes a query.
use mathlib.Core.Path.{◌≡◌, refl, sym, subst, ◌∙◌}
use mathlib.Core.List.{List}
use Prim.Native.Nat.{ℕ, suc, ◌+◌, ◌≤◌, ◌<◌}
use native.Mathlib.Omega.{arith}
use Rattle.words.specs.Word.{Word}
use Rattle.products.specs.Product.{measure}
use Rattle.products.proofs.Exact.{measure_append, measure_factor}
use Rattle.products.proofs.Order.{NoLater}
use Rattle.products.proofs.Halves.{Unshifted}
use Rattle.products.proofs.Firsts.{Tight as TightWords, First, Joined, some_tight, first_halved}
use Rattle.trees.specs.Tree.{word_at}
use Rattle.derivations.specs.declared.Parts.{Parts}
use Rattle.derivations.specs.declared.Parts.TheVariants.{Two}
use Rattle.derivations.specs.Derivations.{Alone, Tight, Candidate}
use Rattle.derivations.specs.Ways.{World, parts_in, weight_in}
use Rattle.derivations.specs.Query.{Query}
use Rattle.derivations.proofs.Nodes.{entry_at, PairSo, reduced, entries_exact, node_state, node_some, pair_weight, pair_some}
use Rattle.derivations.proofs.Halved.{halves_in, Halving, none, both, HalvingWay, way, halving, halving_way}
use Rattle.derivations.proofs.Induction.{PartsSo, Choice}

module _ {gens words : List Word} {n : ℕ} {w : World} (query : Query gens words n w) where
  abbrev T : Word → Word → ℕ
  T u q = entry_at words w u q

  module _ (p y : ℕ) (some : p ≡ 0 → ⊥) (h : p < w.count) (k : y < w.count) (low : weight_in w (suc p) y ≤ n) where
    pair_low : T (word_at words p) (word_at words y) ≤ n
    pair_low = omega (arith, pair_weight query p y h k)

    -- halves of nodes are tight exactly where those of their words are
    tight_sum : (a b c e : ℕ) → a < w.count → b < w.count → c < w.count → e < w.count
        → T (word_at words a) (word_at words b) + T (word_at words c) (word_at words e) ≡ T (word_at words p) (word_at words y)
        → Tight (weight_in w) (suc p) y (Two (suc a) b (suc c) e)
    tight_sum a b c e ia ib ic ie sum = (
      pair_some query a b ia ib,
      pair_some query c e ic ie,
      omega (arith, pair_weight query a b ia ib, pair_weight query c e ic ie, pair_weight query p y h k),
    )

    sum_tight : (a b c e : ℕ) → a < w.count → b < w.count → c < w.count → e < w.count → Tight (weight_in w) (suc p) y (Two (suc a) b (suc c) e)
        → T (word_at words a) (word_at words b) + T (word_at words c) (word_at words e) ≡ T (word_at words p) (word_at words y)
    sum_tight a b c e ia ib ic ie t =
        omega (arith, t.2, pair_weight query a b ia ib, pair_weight query c e ic ie, pair_weight query p y h k)

    tight_way : {x s t o : Word} → HalvingWay words w p y x s t o → T x s + T t o ≡ T (word_at words p) (word_at words y)
        → (d : ℕ) × Tight (weight_in w) (suc p) y (halves_in w p y d)
    tight_way (way d a b c e ia ib ic ie is) sum = (d, rw is (tight_sum a b c e ia ib ic ie sum))

    tight_some : Unshifted gens (word_at words p) (word_at words y)
        → (x : Word) × (s : Word) × (t : Word) × (o : Word) × TightWords gens T (word_at words p) (word_at words y) x s t o
    tight_some un =
        some_tight gens measure measure_append (measure_factor gens) n T (reduced query) (entries_exact query) (word_at words p) (word_at words y)
        (node_state query p h) (node_state query y k) pair_low (node_some query p some h) un

    pub unshifted_attained : Unshifted gens (word_at words p) (word_at words y) → (d : ℕ) × Tight (weight_in w) (suc p) y (halves_in w p y d)
    unshifted_attained un =
        let (x, s, t, o, tight) = tight_some un in
        tight_way (halving_way query p y some h k tight.halves refl refl) tight.sum

    -- no way of halves decides
    halves_undecided : {ps : Parts} → Halving gens words w.count p y ps → Alone (suc p) ps → ⊥
    halves_undecided (both _ _ _ _ _ _ _ _ _) one = some (omega arith)
    halves_undecided none one = elim one [ ]

    -- the first series of both halves
    joined : (a b c e : ℕ) (r : List ℕ) → a < w.count → b < w.count → c < w.count → e < w.count → Tight (weight_in w) (suc p) y (Two (suc a) b (suc c) e)
        → PartsSo (PairSo gens words n w) (Two (suc a) b (suc c) e) r
        → Joined gens measure T (word_at words a) (word_at words b) (word_at words c) (word_at words e) r
    joined a b c e r ia ib ic ie t so =
        let (front, behind, split, led, led') = so in
        let (_, _, sum) = t in
        record {
          front = front;
          behind = behind;
          split = split;
          first = led ia ib (omega arith);
          second = led' ic ie (omega arith);
        }

    module _ (un : Unshifted gens (word_at words p) (word_at words y)) (are : (d : ℕ) → parts_in w (suc p) y d ≡ halves_in w p y d) where
      halves_candidate : (d : ℕ) → Tight (weight_in w) (suc p) y (parts_in w (suc p) y d) → Candidate (parts_in w) (weight_in w) (suc p) y d
      halves_candidate d t =
          record {
            tight = t;
            undecided = λ e i t' decides. halves_undecided (halving query p y some h k e) (subst (Alone (suc p)) (are e) decides);
          }

      module _ {r : List ℕ} (choice : Choice (parts_in w) (weight_in w) (PairSo gens words n w) (suc p) y r) where
        other_joined : {x s t o : Word} → HalvingWay words w p y x s t o → T x s + T t o ≡ T (word_at words p) (word_at words y)
            → (l : List ℕ) × Joined gens measure T x s t o l × NoLater r l
        other_joined (way d a b c e ia ib ic ie is) sum =
            let t : Tight (weight_in w) (suc p) y (Two (suc a) b (suc c) e) = tight_sum a b c e ia ib ic ie sum in
            let candidate = halves_candidate d (subst (Tight (weight_in w) (suc p) y) (sym (are d ∙ is)) t) in
            let l = choice.others d candidate in
            let so = subst (λ (ps : Parts). PartsSo (PairSo gens words n w) ps l) (are d ∙ is) (choice.others_so d candidate) in
            (l, joined a b c e l ia ib ic ie t so, choice.no_later d candidate)

        first_by_halves : {ps : Parts} → Halving gens words w.count p y ps → Tight (weight_in w) (suc p) y ps → PartsSo (PairSo gens words n w) ps r
            → First gens measure T (word_at words p) (word_at words y) r
        first_by_halves (both a b c e ia ib ic ie halves) t so =
            first_halved gens measure measure_append (measure_factor gens) n T (reduced query) (entries_exact query) (word_at words p) (word_at words y)
            (node_state query p h) (node_state query y k) pair_low (node_some query p some h) un
            (word_at words a) (word_at words b) (word_at words c) (word_at words e) r
            (record { halves = halves; sum = sum_tight a b c e ia ib ic ie t })
            (joined a b c e r ia ib ic ie t so)
            (λ x s t' o tight. other_joined (halving_way query p y some h k tight.halves refl refl) tight.sum)
        first_by_halves none t so = elim t [ ]

        pub unshifted_first : First gens measure T (word_at words p) (word_at words y) r
        unshifted_first =
            let d = choice.way in
            first_by_halves (halving query p y some h k d) (subst (Tight (weight_in w) (suc p) y) (are d) choice.candidate.tight)
            (subst (λ (ps : Parts). PartsSo (PairSo gens words n w) ps r) (are d) choice.so)
