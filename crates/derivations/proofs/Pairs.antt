-- The first series of a pair of nodes, by its parts, is the first of the series that lead from the one word to the other.
--     pairs_attained    a pair that weighs n or less has tight parts in some way
--     pairs_first       and its first series is the first that leads from word to word
-- Assumes a query.
use mathlib.Core.Bool.{Bool, true, false}
use mathlib.Core.Path.{◌≡◌, refl, sym, subst, ◌∙◌}
use mathlib.Core.List.{List}
use Prim.Native.Nat.{ℕ, zero, suc, ◌≤◌, ◌<◌}
use native.Mathlib.Omega.{arith}
use lib.Dec.{eqb}
use borrow.Author.Tests.{lt-ltb, ne_eqb}
use Rattle.words.specs.Word.{Word}
use Rattle.refusals.specs.Telling.{pick}
use Rattle.products.specs.Product.{measure}
use Rattle.products.proofs.Exact.{measure_append, measure_factor}
use Rattle.products.proofs.Halves.{Shift, shift_leads}
use Rattle.products.proofs.Firsts.{First, entry_alike, first_shift}
use Rattle.trees.specs.Tree.{word_at}
use Rattle.rows.proofs.WordRows.{table_at}
use Rattle.derivations.specs.declared.Parts.{Parts}
use Rattle.derivations.specs.declared.Parts.TheVariants.{One, Nothing}
use Rattle.derivations.specs.Derivations.{Tight, Firsts}
use Rattle.derivations.specs.Ways.{World, unless, parts_in, weight_in}
use Rattle.derivations.specs.Query.{Query}
use Rattle.derivations.proofs.Nodes.{entry_at, PairSo, reduced, entries_exact, node_state, pair_weight, pair_some}
use Rattle.derivations.proofs.Shifts.{shift_in, Shifted, carried, kept, shifted}
use Rattle.derivations.proofs.Induction.{PartsSo, Choice, firsts_so}
use Rattle.derivations.proofs.Roots.{root_attained, root_first}
use Rattle.derivations.proofs.Unshifted.{unshifted_attained, unshifted_first}

abbrev unless_in : World → Parts → ℕ → ℕ → ℕ → Parts
unless_in w ps p y d = unless w.letters w.rests w.children_r w.children_s ps w.count p y d

module _ {gens words : List Word} {n : ℕ} {w : World} (query : Query gens words n w) where
  abbrev T : Word → Word → ℕ
  T u q = entry_at words w u q

  -- ---- at a node other than 0

  module _ (p y : ℕ) (some : p ≡ 0 → ⊥) (h : p < w.count) (k : y < w.count) (low : weight_in w (suc p) y ≤ n) where
    pair_parts : (d : ℕ) → parts_in w (suc p) y d ≡ unless_in w (shift_in w p y) p y d
    pair_parts d = rw (lt-ltb p w.count h, ne_eqb p 0 some)

    shift_entry : (a b : ℕ) → a < w.count → b < w.count → Shift gens (word_at words p) (word_at words y) (word_at words a) (word_at words b)
        → T (word_at words p) (word_at words y) ≡ T (word_at words a) (word_at words b)
    shift_entry a b i j shift =
        entry_alike gens measure measure_append (measure_factor gens) n T (reduced query) (entries_exact query) (word_at words p) (word_at words y)
        (word_at words a) (word_at words b) (node_state query p h) (node_state query y k) (node_state query a i) (node_state query b j)
        (shift_leads gens shift)

    shift_weight : (a b : ℕ) → a < w.count → b < w.count → Shift gens (word_at words p) (word_at words y) (word_at words a) (word_at words b)
        → weight_in w (suc a) b ≡ weight_in w (suc p) y
    shift_weight a b i j shift =
        pair_weight query a b i j ∙ sym (shift_entry a b i j shift) ∙ sym (pair_weight query p y h k)

    -- the first way is the only one
    first_by_shift : (a b : ℕ) (r : List ℕ) → a < w.count → b < w.count → Shift gens (word_at words p) (word_at words y) (word_at words a) (word_at words b)
        → (t : Bool) → Tight (weight_in w) (suc p) y (pick t (One (suc a) b) Nothing) → PartsSo (PairSo gens words n w) (pick t (One (suc a) b) Nothing) r
        → First gens measure T (word_at words p) (word_at words y) r
    first_by_shift a b r i j shift true t so =
        (first_shift gens measure measure_append (measure_factor gens) n T (reduced query) (entries_exact query) (word_at words p) (word_at words y)
        (word_at words a) (word_at words b) shift (node_state query p h) (node_state query y k) r).1
        (so i j (omega (arith, shift_weight a b i j shift)))
    first_by_shift a b r i j shift false t so = absurd t

    attained_by : {ps : Parts} → Shifted gens words w.count p y ps → (d : ℕ) × Tight (weight_in w) (suc p) y (unless_in w ps p y d)
    attained_by (carried a b i j shift) =
        let inside : a < w.count = omega arith in
        (0, (omega arith, pair_some query a b inside j, shift_weight a b inside j shift))
    attained_by (kept un) = unshifted_attained query p y some h k low un

    first_by : {ps : Parts} {r : List ℕ} → Shifted gens words w.count p y ps → ((d : ℕ) → parts_in w (suc p) y d ≡ unless_in w ps p y d)
        → Choice (parts_in w) (weight_in w) (PairSo gens words n w) (suc p) y r → First gens measure T (word_at words p) (word_at words y) r
    first_by {r = r} (carried a b i j shift) are choice =
        let d = choice.way in
        first_by_shift a b r (omega arith) j shift (eqb d 0)
        (subst (Tight (weight_in w) (suc p) y) (are d) choice.candidate.tight)
        (subst (λ (ps : Parts). PartsSo (PairSo gens words n w) ps r) (are d) choice.so)
    first_by (kept un) are choice = unshifted_first query p y some h k low un are choice

    pair_attained : (d : ℕ) × Tight (weight_in w) (suc p) y (parts_in w (suc p) y d)
    pair_attained = let (d, t) = attained_by (shifted query p y some h k) in (d, rw (pair_parts d) t)

    pair_first : {r : List ℕ} → Choice (parts_in w) (weight_in w) (PairSo gens words n w) (suc p) y r → First gens measure T (word_at words p) (word_at words y) r
    pair_first choice = first_by (shifted query p y some h k) pair_parts choice

  -- ---- all pairs

  pub pairs_attained : (p y : ℕ) → p < w.count → y < w.count → weight_in w (suc p) y ≤ n → (d : ℕ) × Tight (weight_in w) (suc p) y (parts_in w (suc p) y d)
  pairs_attained zero y h k low = root_attained query y k low
  pairs_attained (suc p) y h k low = pair_attained (suc p) y (λ e. omega arith) h k low

  choice_so : (x y : ℕ) (r : List ℕ) → 1 ≤ x → Choice (parts_in w) (weight_in w) (PairSo gens words n w) x y r → PairSo gens words n w x y r
  choice_so zero y r z choice = absurd (omega arith)
  choice_so (suc zero) y r z choice = λ h k low. root_first query y k low choice
  choice_so (suc (suc p)) y r z choice = λ h k low. pair_first (suc p) y (λ e. omega arith) h k low choice

  pub pairs_first : (p y : ℕ) → p < w.count → y < w.count → {r : List ℕ} → Firsts (parts_in w) (weight_in w) (suc p) y r → weight_in w (suc p) y ≤ n
      → First gens measure (table_at words w.count w.counts) (word_at words p) (word_at words y) r
  pairs_first p y h k f low = firsts_so (parts_in w) (weight_in w) (PairSo gens words n w) (λ j _. refl) choice_so f h k low
