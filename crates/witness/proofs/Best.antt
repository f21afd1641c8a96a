-- The best way so far, and one way more.
--     best_first, best_earlier, best_kept     what is best when the way d is the first candidate, before the best, or not before it
--     tried_loose                             a way whose parts are not tight
--     decided, looked_through                 the ways end since one decides, or since there are no more
--     chosen_foremost                         the best of all is chosen
-- Assumes nothing.
use mathlib.Core.Bool.{Bool, true, false}
use mathlib.Core.Logic.{inl, inr}
use mathlib.Core.Path.{◌≡◌, sym, subst, ◌∙◌}
use mathlib.Core.List.{List}
use Prim.Native.Nat.{ℕ, suc, ◌+◌, ◌-◌, ◌≤◌, ◌<◌}
use native.Mathlib.Decide.{dec_lt}
use native.Mathlib.Numerals.{add-one}
use native.Mathlib.Omega.{arith}
use lib.ListN.{length, set}
use Rattle.std.specs.Prelude.{Option, None, Some}
use Rattle.std.specs.declared.ops.ControlFlow.TheVariants.{Continue}
use Rattle.refusals.proofs.Telling.{told, told_not}
use Rattle.products.specs.Product.{Before}
use Rattle.products.proofs.Order.{NoLater, no_later_refl, no_later_trans}
use Rattle.tables.specs.Rules.{place}
use Rattle.derivations.specs.Derivations.{Tight, Candidate, Joins, chosen}
use Rattle.derivations.specs.Ways.{World, parts_in, weight_in, ways}
use Rattle.derivations.specs.declared.Parts.{Parts}
use Rattle.derivations.proofs.Series.{joins_length, same_length_compare}
use Rattle.derivations.proofs.Ways.{no_more_ways}
use Rattle.witness.specs.Choices.{Chosen}
use Rattle.witness.specs.Choosing.{Choosable, TellsBefore, Leads, BestBelow, Decides, Tried, Foremost, BestOfAll}
use Rattle.witness.proofs.Candidates.{ways_few, way_joined}

-- the ways below d + 1 are those below d, and d
one_more : (P : ℕ → Type 0) (d : ℕ) → ((e : ℕ) → e < d → P e) → P d → (e : ℕ) → e < suc d → P e
one_more P d before here e l = elim (dec_lt e d) [ yes h ↦ before e h | no h ↦ let same : d ≡ e = omega arith in subst P same here ]

module _ (w : World) (x y : ℕ) where
  abbrev IsCandidate : ℕ → Type 0
  IsCandidate d = Candidate (parts_in w) (weight_in w) x y d

  abbrev IsTight : ℕ → Type 0
  IsTight d = Tight (weight_in w) x y (parts_in w x y d)

  abbrev IsSeries : ℕ → List ℕ → Type 0
  IsSeries d r = Joins (parts_in w) (weight_in w) (parts_in w x y d) r

  -- a way's series that r is no later than
  abbrev Beaten : List ℕ → ℕ → Type 0
  Beaten r e = (s : List ℕ) × IsSeries e s × NoLater r s

module _ {w : World} {choices : List ℕ} {x y : ℕ} (k : Choosable w choices x y) where
  -- ---- one way more

  module _ (d : ℕ) (c : IsCandidate w x y d) where
    mine : (r : List ℕ) × IsSeries w x y d r
    mine = way_joined k d c

    -- the way d leads where its series is no later than those of the candidates before it
    leads_now : ((e : ℕ) → e < d → IsCandidate w x y e → Beaten w x y mine.0 e) → Leads w x y d (suc d)
    leads_now earlier =
        record {
          below = omega arith;
          candidate = c;
          series = mine.0;
          joins = mine.1;
          first = one_more (λ e. IsCandidate w x y e → Beaten w x y mine.0 e) d earlier (λ _. (mine.0, mine.1, no_later_refl mine.0));
        }

    pub best_first : BestBelow w x y None d → Leads w x y d (suc d)
    best_first none = leads_now (λ e l other. absurd (none e l other.tight))

    module _ (best : ℕ) (found : Leads w x y best d) (r : Bool) (tells : TellsBefore w x y d best r) where
      pub best_earlier : r ≡ true → Leads w x y d (suc d)
      best_earlier e = leads_now beaten
        where
          earlier : Before mine.0 found.series
          earlier = told r e (tells mine.0 found.series mine.1 found.joins)

          beaten : (e : ℕ) → e < d → IsCandidate w x y e → Beaten w x y mine.0 e
          beaten e l other = let before = found.first e l other in (before.0, before.1, no_later_trans (inr earlier) before.2)

      behind : r ≡ false → NoLater found.series mine.0
      behind e =
          let long = joins_length (parts_in w) (weight_in w) (parts_in w x y best) x y found.joins found.candidate.tight in
          let as_long = joins_length (parts_in w) (weight_in w) (parts_in w x y d) x y mine.1 c.tight in
          elim (same_length_compare found.series mine.0 (long ∙ sym as_long)) [
            | inl n ↦ n
            | inr earlier ↦ absurd (told_not r e (tells mine.0 found.series mine.1 found.joins) earlier)
          ]

      pub best_kept : r ≡ false → Leads w x y best (suc d)
      best_kept e =
          record {
            below = omega (arith, found.below);
            candidate = found.candidate;
            series = found.series;
            joins = found.joins;
            first = one_more (λ e. IsCandidate w x y e → Beaten w x y found.series e) d found.first (λ _. (mine.0, mine.1, behind e));
          }

  -- ---- a way is tried: its parts are told, and whether they are tight

  best_passed : (best : Option ℕ) (d : ℕ) → (IsTight w x y d → ⊥) → BestBelow w x y best d → BestBelow w x y best (suc d)
  best_passed None d loose none = one_more (λ e. IsTight w x y e → ⊥) d none loose
  best_passed (Some b) d loose lead =
      record {
        below = omega (arith, lead.below);
        candidate = lead.candidate;
        series = lead.series;
        joins = lead.joins;
        first = one_more (λ e. IsCandidate w x y e → Beaten w x y lead.series e) d lead.first (λ other. absurd (loose other.tight));
      }

  module _ (d : ℕ) (ps : Parts) (is : ps ≡ parts_in w x y d) where
    pub tried_loose : (Tight (weight_in w) x y ps → ⊥) → (best : Option ℕ) → BestBelow w x y best d → Tried w x y d (Continue best)
    tried_loose loose best found =
        let not : IsTight w x y d → ⊥ = λ t. loose (subst (Tight (weight_in w) x y) (sym is) t) in
        (best_passed best d not found, λ both. not both.0)

  -- ---- the ways go on, or end

  module _ (many : ℕ) (is : many ≡ ways w.count (length w.wholes) x) where
    foremost : (b bound : ℕ) → bound ≤ many → Leads w x y b bound → ((e : ℕ) → IsCandidate w x y e → e < bound) → Foremost w x y b
    foremost b bound low lead all = record { bound = bound; leads = lead; all = all; few = omega (arith, lead.below, ways_few k.small x) }

    pub decided : (best d : ℕ) → Leads w x y best (suc d) → Decides w x y d → d < many → BestOfAll w x y (Some best)
    decided best d lead decides l = foremost best (suc d) (omega arith) lead none_behind
      where
        none_behind : (e : ℕ) → IsCandidate w x y e → e < suc d
        none_behind e c = elim (dec_lt d e) [ yes l ↦ absurd (c.undecided d l decides.0 decides.1) | no l ↦ omega arith ]

    below : (e : ℕ) → IsTight w x y e → e < many
    below e t = elim (dec_lt e many) [ yes l ↦ l | no l ↦ absurd (no_more_ways w x y e k.item.0 (omega arith) t) ]

    pub looked_through : (best : Option ℕ) → BestBelow w x y best many → BestOfAll w x y best
    looked_through None none = λ e t. none e (below e t) t
    looked_through (Some b) lead = foremost b many (omega arith) lead (λ e c. below e c.tight)

  -- ---- what is chosen

  module _ (best : ℕ) (found : Foremost w x y best) where
    lead : Leads w x y best found.bound
    lead = found.leads

    beaten : (e : ℕ) → IsCandidate w x y e → Beaten w x y lead.series e
    beaten e c = lead.first e (found.all e c) c

    pub chosen_foremost : (before after : List ℕ) → after ≡ set before (place w.count (x - 1) y) (best + 1) → Chosen w x y before after
    chosen_foremost before after written =
        record {
          way = best;
          few = found.few;
          written = subst (λ (code : ℕ). after ≡ set before (place w.count (x - 1) y) code) (add-one best) written;
          candidate = lead.candidate;
          series = lead.series;
          firsts = chosen best k.item.0 lead.candidate lead.joins (λ e c. (beaten e c).0) (λ e c. (beaten e c).1) (λ e c. (beaten e c).2);
          joins = lead.joins;
        }
