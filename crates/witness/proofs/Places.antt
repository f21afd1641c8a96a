-- Where the choices of items stand: each inside the table, and different items at different places.
--     same_or_other, of_same           two items are compared
--     row_place, item_place                 the choice of an item is one of the cells
--     whole_item                            the target's item is one where it weighs something
--     item_weight, item_swept, lower_place, same_place, stands_row, stands_item    items by their places, which a sweep goes by
--     choice_stored, choice_elsewhere  a choice that is set, and the others
--     keeps_none, keeps_then, keeps_stored, small_kept    what remains while choices are set
-- Assumes nothing.
use mathlib.Core.Logic.{◌⊎◌, inl, inr}
use mathlib.Core.Path.{◌≡◌, refl, sym, ap, subst, ◌∙◌}
use mathlib.Core.List.{List}
use Prim.Native.Nat.{ℕ, zero, suc, ◌+◌, ◌-◌, ◌*◌, ◌≤◌, ◌<◌}
use native.Mathlib.Decide.{dec_lt, ℕ_discrete}
use native.Mathlib.Nat.{mul-le-mul_right}
use native.Mathlib.Omega.{arith}
use lib.Arith.{digits_lt}
use lib.ListN.{length, set, length-set, get_or-eq_default}
use lib.Seq.{drop-set-lt, get_or-set_same, get_or-set_other}
use borrow.Author.Tests.{lt-ltb, le-ltb}
use Rattle.trees.specs.Tree.{at, most_of_entry}
use Rattle.tables.specs.Rules.{place}
use Rattle.tables.proofs.Places.{same_row, same_column, place_earlier}
use Rattle.derivations.specs.Ways.{World, row_item, weight_in, highest, whole}
use Rattle.derivations.proofs.Ways.{item_inside}
use Rattle.witness.specs.Choices.{choice_at, cells, Item, Small}
use Rattle.witness.specs.Marking.{Keeps}
use Rattle.witness.specs.Due.{StandsAt}
use Rattle.witness.specs.Sweeping.{place_of, swept}

-- it is the same item, or it is not
abbrev pub Same : ℕ → ℕ → ℕ → ℕ → Type 0
Same x y a b = (a ≡ x) × (b ≡ y)

pub same_or_other : (x y a b : ℕ) → Same x y a b ⊎ (Same x y a b → ⊥)
same_or_other x y a b =
    elim (ℕ_discrete a x) [
      | yes first ↦ elim (ℕ_discrete b y) [ yes second ↦ inl (first, second) | no other ↦ inr (λ e. other e.1) ]
      | no other ↦ inr (λ e. other e.0)
    ]

-- what is known of an item is known of the same
pub of_same : (P : ℕ → ℕ → Type 0) (x y a b : ℕ) → Same x y a b → P x y → P a b
of_same P x y a b same p = subst (λ (m : ℕ). P m b) (sym same.0) (subst (λ (m : ℕ). P x m) (sym same.1) p)

module _ (w : World) where
  -- the second number is a node, and the first not above the highest
  pub item_column : (x y : ℕ) → Item w x y → y < w.count
  item_column zero y item = absurd (omega (arith, item.0))
  item_column (suc p) y item = (item_inside w p y item.1).0

  pub item_row : (x y : ℕ) → Item w x y → x ≤ highest w
  item_row zero y item = omega arith
  item_row (suc p) y item = let h = (item_inside w p y item.1).1 in omega arith

  -- rows up to that number are inside
  pub row_place : (x y : ℕ) → 1 ≤ x → x ≤ highest w → y < w.count → place w.count (x - 1) y < cells w
  row_place x y some row column =
      let inside : x - 1 < highest w = omega arith in digits_lt inside column

  -- no row has the first number 0
  row_some : (i : ℕ) → 1 ≤ row_item w.count i
  row_some zero = omega arith
  row_some (suc i) = omega arith

  pub whole_item : (x : ℕ) → x ≡ whole w → 1 ≤ weight_in w x 0 → Item w x 0
  whole_item x last weighs = (rw last (row_some (length w.target)), weighs)

  pub item_place : (x y : ℕ) → Item w x y → place w.count (x - 1) y < cells w
  item_place x y item = row_place x y item.0 (item_row x y item) (item_column x y item)

  -- the row of the first number p + 1 is row p
  row_behind : (p y : ℕ) → at w.counts (place w.count p y) ≡ at w.counts (place_of w (suc p) y)
  row_behind p y = ap (λ (m : ℕ). at w.counts (place w.count m y)) (omega arith)

  -- what an item weighs is its count, which the counts have
  pub item_weight : (x y : ℕ) → Item w x y → weight_in w x y ≡ at w.counts (place_of w x y)
  item_weight zero y item = absurd (omega (arith, item.0))
  item_weight (suc p) y item = (item_inside w p y item.1).2 ∙ row_behind p y

  pub item_swept : (x y : ℕ) → Item w x y → place_of w x y < swept w
  item_swept x y item =
      let weighs = item_weight x y item in
      let some = item.1 in
      let has : place_of w x y < length w.counts =
      elim (dec_lt (place_of w x y) (length w.counts)) [
        | yes inside ↦ inside
        | no past ↦ absurd (omega (arith, get_or-eq_default w.counts 0 {n = place_of w x y} (omega arith)))
      ] in
      omega (arith, item_place x y item, has)

  -- an item with a lower first number stands before all that have the higher one
  pub lower_place : (x y a b : ℕ) → a < x → Item w a b → place_of w a b < place_of w x y
  lower_place x y a b first item =
      let some = item.0 in place_earlier y (omega arith) (item_column a b item)

  pub same_place : (x y a b : ℕ) → Item w x y → Item w a b → place_of w a b ≡ place_of w x y → Same x y a b
  same_place x y a b item other same =
      let row : a - 1 ≡ x - 1 = same_row (a - 1) (x - 1) (item_column a b other) (item_column x y item) same in
      let first = item.0 in
      let first_other = other.0 in
      (omega arith, same_column (a - 1) (x - 1) (item_column a b other) (item_column x y item) same)

  -- the first number of what stands before the end of the cells
  pub stands_row : (p x y : ℕ) → p < cells w → StandsAt w.count p x y → x ≤ highest w
  stands_row p x y inside stands =
      elim (dec_lt (highest w) x) [
        | yes above ↦
            let past : highest w * w.count ≤ (x - 1) * w.count = mul-le-mul_right w.count (omega arith) in
            absurd (omega (arith, stands.is))
        | no within ↦ omega arith
      ]

  -- and where its count is k, it is an item that weighs k
  pub stands_item : {choices : List ℕ} (k p x y : ℕ) → Small w choices → 1 ≤ k → p < cells w → StandsAt w.count p x y → at w.counts p ≡ k
      → Item w x y × (weight_in w x y ≡ k)
  stands_item k p zero y small some inside stands is = absurd (omega (arith, stands.some))
  stands_item k p (suc q) y small some inside stands is =
      let within = stands_row p (suc q) y inside stands in
      let few = small.few in
      let short = small.short in
      let weighs : weight_in w (suc q) y ≡ k =
      simp (
        le-ltb most_of_entry w.count (omega arith),
        le-ltb most_of_entry (length w.target) (omega arith),
        lt-ltb y w.count stands.column,
        lt-ltb q (w.count + length w.target) (omega arith),
      )
      (row_behind q y ∙ ap (at w.counts) stands.is ∙ is) in
      ((omega arith, omega arith), weighs)

  pub choice_stored : (choices : List ℕ) (x y v : ℕ) → cells w ≤ length choices → Item w x y
      → choice_at w.count (set choices (place w.count (x - 1) y) v) x y ≡ v
  choice_stored choices x y v room item =
      let inside = item_place x y item in get_or-set_same choices (place w.count (x - 1) y) v 0 (omega arith)

  pub choice_elsewhere : (choices : List ℕ) (x y v a b : ℕ) → Item w x y → Item w a b → (Same x y a b → ⊥)
      → choice_at w.count (set choices (place w.count (x - 1) y) v) a b ≡ choice_at w.count choices a b
  choice_elsewhere choices x y v a b item other differ =
      get_or-set_other choices (place_of w x y) (place_of w a b) v 0 (λ same. differ (same_place x y a b item other same))

  pub keeps_none : {choices : List ℕ} → Keeps w choices choices
  keeps_none = record { long = refl; behind = refl }

  pub keeps_then : {before between after : List ℕ} → Keeps w before between → Keeps w between after → Keeps w before after
  keeps_then first second = record { long = second.long ∙ first.long; behind = second.behind ∙ first.behind }

  pub keeps_stored : (choices : List ℕ) (x y v : ℕ) → Item w x y → Keeps w choices (set choices (place w.count (x - 1) y) v)
  keeps_stored choices x y v item =
      record {
        long = length-set choices (place w.count (x - 1) y) v;
        behind = drop-set-lt (cells w) choices (place w.count (x - 1) y) v (item_place x y item);
      }

  pub small_kept : {before after : List ℕ} → Small w before → Keeps w before after → Small w after
  small_kept small keeps =
      record {
        some = small.some;
        few = small.few;
        short = small.short;
        numbers = small.numbers;
        room = let room = small.room in let long = keeps.long in omega arith;
      }
