-- What items weigh, and how far their ways go.
--     factor_weight    a factor weighs 1
--     item_inside      any other item that weighs 1 or more is inside the table, and weighs what stands there
--     tight_weight     where parts are tight the item weighs 1 or more
--     no_more_ways     from `ways` on no parts are tight
--     row_behind_pairs the items of row 1 and of each further row stand behind the pairs
-- Assumes nothing.
use mathlib.Core.Bool.{Bool, true, false}
use mathlib.Core.Path.{◌≡◌, refl, subst, ◌∙◌}
use Prim.Native.Nat.{ℕ, zero, suc, ◌+◌, ◌-◌, ◌≤◌, ◌<◌}
use native.Mathlib.Decide.{dec_lt}
use native.Mathlib.Omega.{arith}
use lib.Dec.{eqb, ltb}
use lib.ListN.{length}
use borrow.Author.Tests.{ltb-true, ltb-false, lt-ltb, le-ltb, ne_eqb}
use Rattle.refusals.specs.Telling.{pick}
use Rattle.trees.specs.Tree.{at, most_of_entry}
use Rattle.tables.specs.Rules.{place}
use Rattle.derivations.specs.declared.Parts.{Parts}
use Rattle.derivations.specs.declared.Parts.TheVariants.{One, Two, Nothing}
use Rattle.derivations.specs.Derivations.{Tight}
use Rattle.derivations.specs.Ways.{World, row_item, unless, shift, read_at, next_row, ways, parts_in, weight_in}

pub row_behind_pairs : (count i : ℕ) → (i ≡ 0 → ⊥) → count + i ≡ row_item count i
row_behind_pairs count zero some = absurd (some refl)
row_behind_pairs count (suc i) some = omega arith

-- where a value or 0 is picked, and it is not 0, it is the value
picked : (t : Bool) (a : ℕ) → 1 ≤ pick t a 0 → (t ≡ true) × (pick t a 0 ≡ a)
picked true a h = (refl, refl)
picked false a h = absurd (omega arith)

passed : (t : Bool) (a : ℕ) → 1 ≤ pick t 0 a → (t ≡ false) × (pick t 0 a ≡ a)
passed true a h = absurd (omega arith)
passed false a h = (refl, refl)

-- parts that are tight make the item weigh something
pub tight_weight : (weight : ℕ → ℕ → ℕ) (x y : ℕ) (ps : Parts) → Tight weight x y ps → 1 ≤ weight x y
tight_weight weight x y (One a b) t = let l = t.1 in let e = t.2 in omega arith
tight_weight weight x y (Two a b c d) t = let l = t.0 in let e = t.2 in omega arith
tight_weight weight x y Nothing t = absurd t

module _ (w : World) where
  pub factor_weight : (j : ℕ) → 1 ≤ weight_in w 0 j → (weight_in w 0 j ≡ 1) × (j < length w.wholes)
  factor_weight j h = let (e, v) = picked (ltb j (length w.wholes)) 1 h in (v, ltb-true j (length w.wholes) e)

  pub item_inside : (p y : ℕ) → 1 ≤ weight_in w (suc p) y
      → (y < w.count) × (p < w.count + length w.target) × (weight_in w (suc p) y ≡ at w.counts (place w.count p y))
  item_inside p y h =
      let entry : ℕ = at w.counts (place w.count p y) in
      let inside : ℕ = pick (ltb p (w.count + length w.target)) entry 0 in
      let told : ℕ = pick (ltb y w.count) inside 0 in
      let short : ℕ = pick (ltb most_of_entry (length w.target)) 0 told in
      let (_, is_short) = passed (ltb most_of_entry w.count) short h in
      let (_, is_told) = passed (ltb most_of_entry (length w.target)) told (omega arith) in
      let (a, is_inside) = picked (ltb y w.count) inside (omega arith) in
      let (b, is_entry) = picked (ltb p (w.count + length w.target)) entry (omega arith) in
      (ltb-true y w.count a, ltb-true p (w.count + length w.target) b, is_short ∙ is_told ∙ is_inside ∙ is_entry)

  few_told : (p y : ℕ) → 1 ≤ weight_in w (suc p) y → w.count ≤ most_of_entry
  few_told p y h = ltb-false most_of_entry w.count (passed (ltb most_of_entry w.count) _ h).0

  unless_behind : (ps : Parts) (p y d : ℕ) → 1 ≤ w.count → w.count + w.count ≤ d
      → unless w.letters w.rests w.children_r w.children_s ps w.count p y d ≡ Nothing
  unless_behind (One a b) p y d some h = rw (ne_eqb d 0 (λ e. omega arith))
  unless_behind (Two a b c e) p y d some h = simp (le-ltb d w.count (omega arith), le-ltb (d - w.count) w.count (omega arith))
  unless_behind Nothing p y d some h = simp (le-ltb d w.count (omega arith), le-ltb (d - w.count) w.count (omega arith))

  row_behind : (i q d : ℕ) → 1 ≤ w.count → w.count ≤ d → next_row w.count w.children_r w.children_s w.target i q d ≡ Nothing
  row_behind i q d some h =
      rw (le-ltb d w.count h, ne_eqb d 0 (λ e. omega arith))
      (pick_both (eqb (read_at w.count w.children_r w.children_s w.target i q) 0))
    where
      pick_both : (t : Bool) → pick t Nothing Nothing ≡ Nothing
      pick_both true = refl
      pick_both false = refl

  nothing_behind : (p y d : ℕ) → 1 ≤ w.count → w.count ≤ most_of_entry → ways w.count (length w.wholes) (suc p) ≤ d
      → parts_in w (suc p) y d ≡ Nothing
  nothing_behind zero y d some few k = simp (lt-ltb 0 w.count some, le-ltb d (length w.wholes) k)
  nothing_behind (suc p) y d some few k =
      let no_factor = ne_eqb (suc (suc p)) 1 (λ e. omega arith) in
      elim (dec_lt (suc p) w.count) [
        | yes l ↦
            let k' : w.count + w.count ≤ d = simp (no_factor, le-ltb most_of_entry w.count few, le-ltb w.count (suc (suc p)) l) at k in
            rw (lt-ltb (suc p) w.count l, ne_eqb (suc p) 0 (λ e. omega arith))
            (unless_behind (shift w.letters w.rests w.children_r w.children_s (suc p) y) (suc p) y d some k')
        | no l ↦
            let k' : w.count ≤ d = simp (no_factor, le-ltb most_of_entry w.count few, lt-ltb w.count (suc (suc p)) (omega arith)) at k in
            rw (le-ltb (suc p) w.count (omega arith)) (row_behind (suc p - w.count) y d some k')
      ]

  pub no_more_ways : (x y d : ℕ) → 1 ≤ x → ways w.count (length w.wholes) x ≤ d → Tight (weight_in w) x y (parts_in w x y d) → ⊥
  no_more_ways zero y d h k t = absurd (omega arith)
  no_more_ways (suc p) y d h k t =
      let weighs = tight_weight (weight_in w) (suc p) y (parts_in w (suc p) y d) t in
      let inside = (item_inside p y weighs).0 in
      subst (Tight (weight_in w) (suc p) y) (nothing_behind p y d (omega arith) (few_told p y weighs) k) t
