-- One item in a sweep that chooses, and places that it passes over.
--     choosing_moves                           the sweep moves on where no marked item is passed over
--     choosing_settled, choosing_done          what is known of the item at which it stands
--     choosing_passes, chooses_one             it passes places at which nothing is due, or chooses for one item
-- Assumes nothing.
use mathlib.Core.Logic.{inl, inr}
use mathlib.Core.Bool.{Bool, true, false}
use mathlib.Core.Path.{◌≡◌, refl, sym, subst, ◌∙◌}
use mathlib.Core.List.{List}
use Prim.Native.Nat.{ℕ, suc, ◌+◌, ◌≤◌}
use native.Mathlib.Decide.{dec_lt, ℕ_discrete}
use native.Mathlib.Omega.{arith}
use lib.ListN.{length}
use Rattle.derivations.specs.Derivations.{Tight}
use Rattle.derivations.specs.Ways.{World, parts_in, weight_in, whole}
use Rattle.derivations.specs.declared.Parts.{Parts}
use Rattle.derivations.specs.declared.Parts.TheVariants.{One, Two, Nothing}
use Rattle.witness.specs.Choices.{marked, choice_at, Coded, cells, Item, Done, PartsDone, Settled, AllSettled, CandidatesDone, Chosen, Chooses}
use Rattle.witness.specs.Marking.{Wanted, PartsWanted, Closed, Keeps}
use Rattle.witness.specs.Due.{SomeDue}
use Rattle.witness.specs.Sweeping.{place_of, Above, ChoiceState, untouched, ahead, settled, Choosing, Stuck, ChoosesTo}
use Rattle.witness.proofs.Places.{Same, same_or_other, of_same, item_weight, same_place, choice_stored, choice_elsewhere, keeps_none, keeps_stored, whole_item}
use Rattle.witness.proofs.Lowering.{PartLower, PartsLower, tight_lower, lower_not_above}
use Rattle.witness.proofs.Marks.{More, closed_more}

module _ (w : World) where
  -- ---- where the sweep stands

  -- the sweep moves on where no marked item is passed over
  pub choosing_moves : {k p : ℕ} {choices : List ℕ} (k' p' : ℕ)
      → ((a b : ℕ) → Item w a b → choice_at w.count choices a b ≡ marked → Above w k p a b → Above w k' p' a b) → Choosing w k p choices
      → Choosing w k' p' choices
  choosing_moves {k} {p} {choices} k' p' moves choosing =
      record { states = λ a b item. moved a b item (choosing.states a b item); item = choosing.item; root = choosing.root }
    where
      moved : (a b : ℕ) → Item w a b → ChoiceState w k p choices a b → ChoiceState w k' p' choices a b
      moved a b item (untouched none) = untouched none
      moved a b item (ahead is closes above) = ahead is closes (moves a b item is above)
      moved a b item (settled coded settles) = settled coded settles

  -- places at which nothing is due are passed over
  pub choosing_passes : {choices : List ℕ} (k p p' : ℕ) → (SomeDue marked k choices w.counts p p' → ⊥) → Choosing w k p choices → Choosing w k p' choices
  choosing_passes {choices} k p p' none choosing = choosing_moves k p' moves choosing
    where
      moves : (a b : ℕ) → Item w a b → choice_at w.count choices a b ≡ marked → Above w k p a b → Above w k p' a b
      moves a b item is (inl heavier) = inl heavier
      moves a b item is (inr (weighs, behind)) =
          elim (dec_lt (place_of w a b) p') [
            | yes before ↦ absurd (none (place_of w a b, behind, before, (is, sym (item_weight w a b item) ∙ weighs)))
            | no past ↦ inr (weighs, omega arith)
          ]

  -- ---- what is known of the choices, and of the item at which the sweep stands

  coded_settled : {k p : ℕ} {choices : List ℕ} (a b : ℕ) → ChoiceState w k p choices a b → Coded (choice_at w.count choices a b)
      → Settled w (choice_at w.count choices) a b
  coded_settled a b (untouched none) coded = absurd (omega (arith, coded.0))
  coded_settled a b (ahead is closes above) coded = absurd (omega (arith, coded.1))
  coded_settled a b (settled _ settles) coded = settles

  pub choosing_settled : {k p : ℕ} {choices : List ℕ} → Choosing w k p choices → AllSettled w (choice_at w.count choices)
  choosing_settled choosing = λ a b item. coded_settled a b (choosing.states a b item)

  -- what is wanted and not ahead is chosen
  pub wanted_coded : {k p : ℕ} {choices : List ℕ} (a b : ℕ) → (Above w k p a b → ⊥) → 1 ≤ choice_at w.count choices a b
      → ChoiceState w k p choices a b → Coded (choice_at w.count choices a b)
  wanted_coded a b passed some (untouched none) = absurd (omega arith)
  wanted_coded a b passed some (ahead is closes above) = absurd (passed above)
  wanted_coded a b passed some (settled coded settles) = coded

  marked_closed : {k p : ℕ} {choices : List ℕ} (a b : ℕ) → choice_at w.count choices a b ≡ marked → ChoiceState w k p choices a b
      → Closed w (choice_at w.count choices) a b
  marked_closed a b is (untouched none) = absurd (omega arith)
  marked_closed a b is (ahead _ closes above) = closes
  marked_closed a b is (settled coded settles) = absurd (omega (arith, coded.1))

  module _ {choices : List ℕ} (k p x y : ℕ) (weighs : weight_in w x y ≡ k) (stands : place_of w x y ≡ p) (choosing : Choosing w k p choices) where
    wanted_done : (a b : ℕ) → PartLower w x y a b → Wanted (choice_at w.count choices) a b → Done w (choice_at w.count choices) a b
    wanted_done a b lower (inl factor) = inl factor
    wanted_done a b lower (inr some) =
        elim (dec_lt 0 a) [
          | yes first ↦
              let (item, less) = lower first in
              inr (wanted_coded a b (λ above. lower_not_above w x y k a b item weighs less (subst (λ (m : ℕ). Above w k m a b) (sym stands) above)) some
              (choosing.states a b item))
          | no first ↦ inl (omega arith)
        ]

    parts_done : (ps : Parts) → PartsLower w x y ps → PartsWanted (choice_at w.count choices) ps → PartsDone w (choice_at w.count choices) ps
    parts_done (One a b) lower wanted = wanted_done a b lower wanted
    parts_done (Two a b c d) lower wanted = (wanted_done a b lower.0 wanted.0, wanted_done c d lower.1 wanted.1)
    parts_done Nothing lower wanted = absurd wanted

    pub choosing_done : Item w x y → choice_at w.count choices x y ≡ marked → CandidatesDone w (choice_at w.count choices) x y
    choosing_done item is =
        λ d candidate.
        parts_done (parts_in w x y d) (tight_lower w x y (parts_in w x y d) candidate.tight)
        (marked_closed x y is (choosing.states x y item) d candidate)

  -- ---- one item

  -- what is done stays so where a way that is chosen stays chosen
  module _ (choice choice' : ℕ → ℕ → ℕ) (more : (a b : ℕ) → Item w a b → Coded (choice a b) → Coded (choice' a b)) (x y : ℕ) where
    done_more : (a b : ℕ) → PartLower w x y a b → Done w choice a b → Done w choice' a b
    done_more a b lower (inl factor) = inl factor
    done_more a b lower (inr coded) = elim (dec_lt 0 a) [ yes first ↦ inr (more a b (lower first).0 coded) | no first ↦ inl (omega arith) ]

    parts_done_more : (ps : Parts) → PartsLower w x y ps → PartsDone w choice ps → PartsDone w choice' ps
    parts_done_more (One a b) lower done = done_more a b lower done
    parts_done_more (Two a b c d) lower done = (done_more a b lower.0 done.0, done_more c d lower.1 done.1)
    parts_done_more Nothing lower done = done

    tight_done_more : (ps : Parts) → Tight (weight_in w) x y ps → PartsDone w choice ps → PartsDone w choice' ps
    tight_done_more ps tight = parts_done_more ps (tight_lower w x y ps tight)

    settled_more : choice' x y ≡ choice x y → Settled w choice x y → Settled w choice' x y
    settled_more same settles =
        record {
          way = settles.way;
          is = same ∙ settles.is;
          tight = settles.tight;
          done = tight_done_more (parts_in w x y settles.way) settles.tight settles.done;
          series = settles.series;
          firsts = settles.firsts;
          joins = settles.joins;
        }

  -- a way is chosen
  module _ (before : List ℕ) {after : List ℕ} (k p x y : ℕ) (room : cells w ≤ length before) (item : Item w x y) (weighs : weight_in w x y ≡ k)
      (stands : place_of w x y ≡ p) (is : choice_at w.count before x y ≡ marked) (chosen : Chosen w x y before after) where
    here : choice_at w.count after x y ≡ suc chosen.way
    here =
        subst (λ (l : List ℕ). choice_at w.count l x y ≡ suc chosen.way) (sym chosen.written) (choice_stored w before x y (suc chosen.way) room item)

    here_coded : Coded (choice_at w.count after x y)
    here_coded = (omega (arith, here), omega (arith, here, chosen.few))

    elsewhere : (a b : ℕ) → Item w a b → (Same x y a b → ⊥) → choice_at w.count after a b ≡ choice_at w.count before a b
    elsewhere a b other differ =
        subst (λ (l : List ℕ). choice_at w.count l a b ≡ choice_at w.count before a b) (sym chosen.written)
        (choice_elsewhere w before x y (suc chosen.way) a b item other differ)

    coded_more : (a b : ℕ) → Item w a b → Coded (choice_at w.count before a b) → Coded (choice_at w.count after a b)
    coded_more a b other coded =
        elim (same_or_other x y a b) [
          | inl same ↦ of_same (λ (m n : ℕ). Coded (choice_at w.count after m n)) x y a b same here_coded
          | inr differ ↦ subst Coded (sym (elsewhere a b other differ)) coded
        ]

    chosen_more : More w (choice_at w.count before) (choice_at w.count after)
    chosen_more a b other some =
        elim (same_or_other x y a b) [
          | inl same ↦ of_same (λ (m n : ℕ). 1 ≤ choice_at w.count after m n) x y a b same here_coded.0
          | inr differ ↦ omega (arith, elsewhere a b other differ)
        ]

    -- another item of that weight that is not passed stands behind it
    above_next : (a b : ℕ) → Item w a b → (Same x y a b → ⊥) → Above w k p a b → Above w k (p + 1) a b
    above_next a b other differ (inl heavier) = inl heavier
    above_next a b other differ (inr (same, behind)) =
        elim (ℕ_discrete (place_of w a b) p) [
          | yes level ↦ absurd (differ (same_place w x y a b item other (level ∙ sym stands)))
          | no elsewhere ↦ inr (same, omega (arith, elsewhere))
        ]

    state_elsewhere : (a b : ℕ) → Item w a b → (Same x y a b → ⊥) → ChoiceState w k p before a b → ChoiceState w k (p + 1) after a b
    state_elsewhere a b other differ (untouched none) = untouched (elsewhere a b other differ ∙ none)
    state_elsewhere a b other differ (ahead same closes above) =
        ahead (elsewhere a b other differ ∙ same) (closed_more w (choice_at w.count before) (choice_at w.count after) chosen_more a b closes)
        (above_next a b other differ above)
    state_elsewhere a b other differ (settled coded settles) =
        settled (coded_more a b other coded)
        (settled_more (choice_at w.count before) (choice_at w.count after) coded_more a b (elsewhere a b other differ) settles)

    chosen_keeps : Keeps w before after
    chosen_keeps = subst (Keeps w before) (sym chosen.written) (keeps_stored w before x y (suc chosen.way) item)

    choosing_chooses : Choosing w k p before → Choosing w k (p + 1) after
    choosing_chooses choosing =
        let ps = parts_in w x y chosen.way in
        let tight = chosen.candidate.tight in
        let done = choosing_done k p x y weighs stands choosing item is chosen.way chosen.candidate in
        let settles : Settled w (choice_at w.count after) x y =
        record {
          way = chosen.way;
          is = here;
          tight = tight;
          done = tight_done_more (choice_at w.count before) (choice_at w.count after) coded_more x y ps tight done;
          series = chosen.series;
          firsts = chosen.firsts;
          joins = chosen.joins;
        } in
        record {
          states = λ a b other. elim (same_or_other x y a b) [
            | inl same ↦ of_same (ChoiceState w k (p + 1) after) x y a b same (settled here_coded settles)
            | inr differ ↦ state_elsewhere a b other differ (choosing.states a b other)
          ];
          item = choosing.item;
          root = chosen_more (whole w) 0 (whole_item w (whole w) refl choosing.item) choosing.root;
        }

  -- no way of the item is tight
  choosing_stuck : (k x y : ℕ) → Item w x y → weight_in w x y ≡ k → ((d : ℕ) → Tight (weight_in w) x y (parts_in w x y d) → ⊥) → Stuck w k
  choosing_stuck k x y item weighs none =
      λ n within attained. let (d, tight) = attained x y item.0 item.1 (omega arith) in none d tight

  -- what `choose` answers
  pub chooses_one : (before : List ℕ) {after : List ℕ} (k p x y : ℕ) (r : Bool) → cells w ≤ length before → Item w x y → weight_in w x y ≡ k
      → place_of w x y ≡ p → choice_at w.count before x y ≡ marked → Chooses w x y before r after → Choosing w k p before
      → ChoosesTo w k k (p + 1) before r after
  chooses_one before k p x y true room item weighs stands is chosen choosing =
      record {
        keeps = chosen_keeps before k p x y room item weighs stands is chosen;
        choosing = choosing_chooses before k p x y room item weighs stands is chosen choosing;
      }
  chooses_one before k p x y false room item weighs stands is (none, same) choosing =
      record { keeps = subst (Keeps w before) (sym same) (keeps_none w); choosing = choosing_stuck k x y item weighs none }
