-- What it does to the choices that items become needed, and that an item is marked.
--     need_factor, need_wanted, need_new    an item that becomes needed, by cases
--     grows_none, grows_then                growth composes
--     wanted-more, closed_more, grows_more  what is wanted stays so
--     marks_tight                           one way of an item
--     ways_more, ways_decided, ways_all     and one after the other, until the item is decided or no way is left
-- Assumes nothing.
use mathlib.Core.Bool.{Bool, true}
use mathlib.Core.Logic.{◌⊎◌, inl, inr}
use mathlib.Core.Path.{◌≡◌, refl, sym, subst, ◌∙◌}
use mathlib.Core.List.{List}
use Prim.Native.Nat.{ℕ, ◌+◌, ◌-◌, ◌≤◌, ◌<◌}
use native.Mathlib.Decide.{dec_lt, ℕ_discrete}
use native.Mathlib.Omega.{arith}
use lib.ListN.{length, set}
use borrow.Author.Tests.{eq-eqb, ne_eqb}
use Rattle.tables.specs.Rules.{place}
use Rattle.derivations.specs.Derivations.{Alone, Tight}
use Rattle.derivations.specs.Ways.{World, parts_in, weight_in, ways}
use Rattle.derivations.specs.declared.Parts.{Parts}
use Rattle.derivations.specs.declared.Parts.TheVariants.{One, Two, Nothing}
use Rattle.derivations.proofs.Ways.{no_more_ways}
use Rattle.witness.specs.Choices.{needed, marked, choice_at, cells, Item}
use Rattle.witness.specs.Marking.{PartsWithin, with_need, with_needs, Lower, Wanted, PartsWanted, Closed, Grows, MarksWay, Marks}
use Rattle.witness.proofs.Places.{same_or_other, of_same, item_place, choice_stored, choice_elsewhere, keeps_none, keeps_then, keeps_stored}
use Rattle.witness.proofs.Lowering.{PartLower, PartsLower, tight_lower}

-- ---- one item becomes needed

module _ (count : ℕ) (choices : List ℕ) (x y : ℕ) where
  pub need_factor : x ≡ 0 → with_need count choices x y ≡ choices
  need_factor factor = rw (eq-eqb x 0 factor) refl

  pub need_wanted : (x ≡ 0 → ⊥) → (choice_at count choices x y ≡ 0 → ⊥) → with_need count choices x y ≡ choices
  need_wanted other wanted = rw (ne_eqb x 0 other, ne_eqb (choice_at count choices x y) 0 wanted) refl

  pub need_new : (x ≡ 0 → ⊥) → choice_at count choices x y ≡ 0 → with_need count choices x y ≡ set choices (place count (x - 1) y) needed
  need_new other new = rw (ne_eqb x 0 other, eq-eqb (choice_at count choices x y) 0 new) refl

-- ---- growth

module _ (w : World) where
  module _ (x y : ℕ) where
    -- how the choice of an item may change
    abbrev pub Change : ℕ → ℕ → ℕ → ℕ → Type 0
    Change a b before after = (after ≡ before) ⊎ ((before ≡ 0) × (after ≡ needed) × Lower w x y a b)

    change_then : (a b before between after : ℕ) → Change a b before between → Change a b between after → Change a b before after
    change_then a b before between after (inl same) (inl same') = inl (same' ∙ same)
    change_then a b before between after (inl same) (inr (none, new, low)) = inr (sym same ∙ none, new, low)
    change_then a b before between after (inr (none, new, low)) (inl same) = inr (none, same ∙ new, low)
    change_then a b before between after (inr (none, new, low)) (inr (none', new', low')) = inr (none, new', low')

    grows_none : {choices : List ℕ} → Grows w x y choices choices
    grows_none = record { keeps = keeps_none w; each = λ a b item. inl refl }

    grows_then : {before between after : List ℕ} → Grows w x y before between → Grows w x y between after → Grows w x y before after
    grows_then {before} {between} {after} first second =
        record {
          keeps = keeps_then w first.keeps second.keeps;
          each = λ a b item.
              change_then a b (choice_at w.count before a b) (choice_at w.count between a b) (choice_at w.count after a b)
              (first.each a b item) (second.each a b item);
        }

    -- an item that was not wanted becomes needed
    grows_new : (choices : List ℕ) (a b : ℕ) → cells w ≤ length choices → Item w a b → Lower w x y a b → choice_at w.count choices a b ≡ 0
        → Grows w x y choices (set choices (place w.count (a - 1) b) needed)
    grows_new choices a b room item low none =
        record {
          keeps = keeps_stored w choices a b needed item;
          each = λ m n other. elim (same_or_other a b m n) [
            | inl same ↦
                of_same (λ (m n : ℕ). Change m n (choice_at w.count choices m n) (choice_at w.count (set choices (place w.count (a - 1) b) needed) m n))
                a b m n same (inr (none, choice_stored w choices a b needed room item, low))
            | inr differ ↦ inl (choice_elsewhere w choices a b needed m n item other differ)
          ];
        }

  -- ---- what is wanted stays so where no choice of an item falls to 0

  abbrev pub More : (ℕ → ℕ → ℕ) → (ℕ → ℕ → ℕ) → Type 0
  More choice choice' = (a b : ℕ) → Item w a b → 1 ≤ choice a b → 1 ≤ choice' a b

  module _ (choice choice' : ℕ → ℕ → ℕ) (more : More choice choice') where
    wanted_more : (a b : ℕ) → (1 ≤ a → Item w a b) → Wanted choice a b → Wanted choice' a b
    wanted_more a b item (inl factor) = inl factor
    wanted_more a b item (inr some) = elim (dec_lt 0 a) [ yes first ↦ inr (more a b (item first) some) | no first ↦ inl (omega arith) ]

    parts_wanted_more : (x y : ℕ) (ps : Parts) → PartsLower w x y ps → PartsWanted choice ps → PartsWanted choice' ps
    parts_wanted_more x y (One a b) lower wanted = wanted_more a b (λ h. (lower h).0) wanted
    parts_wanted_more x y (Two a b c d) lower wanted =
        (wanted_more a b (λ h. (lower.0 h).0) wanted.0, wanted_more c d (λ h. (lower.1 h).0) wanted.1)
    parts_wanted_more x y Nothing lower wanted = wanted

    tight_wanted_more : (x y : ℕ) (ps : Parts) → Tight (weight_in w) x y ps → PartsWanted choice ps → PartsWanted choice' ps
    tight_wanted_more x y ps tight = parts_wanted_more x y ps (tight_lower w x y ps tight)

    pub closed_more : (x y : ℕ) → Closed w choice x y → Closed w choice' x y
    closed_more x y closed = λ d candidate. tight_wanted_more x y (parts_in w x y d) candidate.tight (closed d candidate)

  change_wanted : (x y a b before after : ℕ) → Change x y a b before after → 1 ≤ before → 1 ≤ after
  change_wanted x y a b before after (inl same) some = omega arith
  change_wanted x y a b before after (inr (none, new, low)) some = absurd (omega arith)

  pub grows_more : {x y : ℕ} {before after : List ℕ} → Grows w x y before after → More (choice_at w.count before) (choice_at w.count after)
  grows_more {x} {y} {before} {after} grows a b item =
      change_wanted x y a b (choice_at w.count before a b) (choice_at w.count after a b) (grows.each a b item)

  -- ---- the parts of an item become needed

  module _ (x y : ℕ) where
    pub parts_within : (room : ℕ) (ps : Parts) → cells w ≤ room → PartsLower w x y ps → PartsWithin w.count room ps
    parts_within room (One a b) inside lower = λ h. omega (arith, item_place w a b (lower h).0)
    parts_within room (Two a b c d) inside lower =
        (λ h. omega (arith, item_place w a b (lower.0 h).0), λ h. omega (arith, item_place w c d (lower.1 h).0))
    parts_within room Nothing inside lower = absurd lower

    -- growth after which the part is wanted
    abbrev Need : List ℕ → ℕ → ℕ → List ℕ → Type 0
    Need before a b after = Grows w x y before after × Wanted (choice_at w.count after) a b

    need_one : (choices : List ℕ) (a b : ℕ) → cells w ≤ length choices → PartLower w x y a b → Need choices a b (with_need w.count choices a b)
    need_one choices a b room lower =
        elim (ℕ_discrete a 0) [
          | yes factor ↦ subst (Need choices a b) (sym (need_factor w.count choices a b factor)) (grows_none x y, inl factor)
          | no other ↦ elim (ℕ_discrete (choice_at w.count choices a b) 0) [
            | yes new ↦
                let (item, low) = lower (omega (arith, other)) in
                subst (Need choices a b) (sym (need_new w.count choices a b other new)) (
                  grows_new x y choices a b room item low new,
                  inr (rw (choice_stored w choices a b needed room item) (omega arith)),
                )
            | no wanted ↦
                subst (Need choices a b) (sym (need_wanted w.count choices a b other wanted)) (grows_none x y, inr (omega (arith, wanted)))
          ]
        ]

    need_all : (choices : List ℕ) (ps : Parts) → cells w ≤ length choices → PartsLower w x y ps
        → Grows w x y choices (with_needs w.count choices ps) × PartsWanted (choice_at w.count (with_needs w.count choices ps)) ps
    need_all choices (One a b) room lower = need_one choices a b room lower
    need_all choices (Two a b c d) room lower =
        let (grows, wanted) = need_one choices a b room lower.0 in
        let between = with_need w.count choices a b in
        let (grows', wanted') = need_one between c d (omega (arith, grows.keeps.long)) lower.1 in
        let after = with_need w.count between c d in
        let still = wanted_more (choice_at w.count between) (choice_at w.count after) (grows_more grows') a b (λ h. (lower.0 h).0) wanted in
        (grows_then x y grows grows', (still, wanted'))
    need_all choices Nothing room lower = absurd lower

    -- the way d, where its parts are tight and where not
    pub marks_tight : {before after : List ℕ} (d : ℕ) (r : Bool) → cells w ≤ length before → Tight (weight_in w) x y (parts_in w x y d)
        → after ≡ with_needs w.count before (parts_in w x y d) → (r ≡ true → Alone x (parts_in w x y d)) → MarksWay w x y d before r after
    marks_tight {before} d r room tight written alone =
        let (grows, wanted) = need_all before (parts_in w x y d) room (tight_lower w x y (parts_in w x y d) tight) in
        subst (MarksWay w x y d before r) (sym written) record { grows = grows; wanted = λ t. wanted; decided = λ e. (tight, alone e) }

    -- ---- all ways below d

    -- the parts in ways below d are wanted where they are tight
    pub record WaysMarked (d : ℕ) (before after : List ℕ) : Type 0 where
      pub grows : Grows w x y before after
      pub wanted : (e : ℕ) → e < d → Tight (weight_in w) x y (parts_in w x y e) → PartsWanted (choice_at w.count after) (parts_in w x y e)

    pub ways_more : {before between after : List ℕ} {r : Bool} (d : ℕ) → WaysMarked d before between → MarksWay w x y d between r after
        → WaysMarked (d + 1) before after
    ways_more {between} {after} d so_far way =
        record {
          grows = grows_then x y so_far.grows way.grows;
          wanted = λ e below tight. elim (ℕ_discrete e d) [
            | yes same ↦ rw same (way.wanted (subst (λ (m : ℕ). Tight (weight_in w) x y (parts_in w x y m)) same tight))
            | no other ↦
                tight_wanted_more (choice_at w.count between) (choice_at w.count after) (grows_more way.grows) x y (parts_in w x y e) tight
                (so_far.wanted e (omega (arith, other)) tight)
          ];
        }

    -- the item was marked first, and is decided by the way d, or there are no more
    module _ (before : List ℕ) {first after : List ℕ} (item : first ≡ set before (place w.count (x - 1) y) marked) where
      grown : Grows w x y first after → Grows w x y (set before (place w.count (x - 1) y) marked) after
      grown grows = subst (λ (l : List ℕ). Grows w x y l after) item grows

      pub ways_decided : {between : List ℕ} {r : Bool} (d : ℕ) → WaysMarked d first between → MarksWay w x y d between r after → r ≡ true
          → Marks w x y before after
      ways_decided d so_far way decided =
          let all = ways_more d so_far way in
          let (tight, alone) = way.decided decided in
          record {
            grows = grown all.grows;
            closed = λ e candidate. elim (dec_lt d e) [
              | yes behind ↦ absurd (candidate.undecided d behind tight alone)
              | no below ↦ all.wanted e (omega arith) candidate.tight
            ];
          }

      pub ways_all : (d : ℕ) → 1 ≤ x → ways w.count (length w.wholes) x ≤ d → WaysMarked d first after → Marks w x y before after
      ways_all d some last all =
          record {
            grows = grown all.grows;
            closed = λ e candidate. elim (dec_lt e d) [
              | yes below ↦ all.wanted e below candidate.tight
              | no behind ↦ absurd (no_more_ways w x y e some (omega arith) candidate.tight)
            ];
          }
