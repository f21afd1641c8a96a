-- A sweep that marks goes down through the weights and the places.
--     marks_none, marks_then           it stays, or goes on
--     passes_on, marks_on              it passes places at which nothing is due, or marks the item at one
--     weight_begins                    it goes on to the next weight
--     marking_begins                   it begins where only the target's item is needed
-- Assumes nothing.
use mathlib.Core.Logic.{inl, inr}
use mathlib.Core.Path.{◌≡◌, refl, sym, ap, ap₂, subst, ◌∙◌}
use mathlib.Core.List.{List}
use Prim.Native.Nat.{ℕ, ◌+◌, ◌-◌, ◌≤◌}
use native.Mathlib.Decide.{dec_lt, ℕ_discrete}
use native.Mathlib.Omega.{arith}
use lib.ListN.{length, drop, set, replicate, length-append, length-drop, length-replicate, get_or-replicate, get_or-append}
use lib.Seq.{drop_at}
use Rattle.slices.specs.Slices.{overwritten}
use Rattle.tables.specs.Rules.{place}
use Rattle.derivations.specs.Ways.{World, weight_in, whole}
use Rattle.witness.specs.Choices.{needed, marked, choice_at, cells, Item}
use Rattle.witness.specs.Marking.{Keeps, Marks}
use Rattle.witness.specs.Due.{SomeDue}
use Rattle.witness.specs.Sweeping.{place_of, swept, Below, MarkState, unwanted, pending, closed, Marking, MarksTo}
use Rattle.witness.proofs.Places.{Same, same_or_other, of_same, item_place, item_weight, item_swept, same_place}
use Rattle.witness.proofs.Places.{choice_stored, choice_elsewhere, keeps_none, keeps_then, keeps_stored, whole_item}
use Rattle.witness.proofs.Lowering.{lower_below}
use Rattle.witness.proofs.Marks.{Change, More, closed_more, grows_more}

module _ (w : World) where
  -- ---- where the sweep stands

  pub marks_none : {k p : ℕ} {choices : List ℕ} → Marking w k p choices → MarksTo w k p choices choices
  marks_none marking = record { keeps = keeps_none w; marking = marking }

  pub marks_then : {k p k' p' : ℕ} {before between after : List ℕ} → MarksTo w k p before between → MarksTo w k' p' between after
      → MarksTo w k' p' before after
  marks_then first second = record { keeps = keeps_then w first.keeps second.keeps; marking = second.marking }

  -- the sweep moves on where no needed item is passed over
  marking_moves : {k p : ℕ} {choices : List ℕ} (k' p' : ℕ)
      → ((a b : ℕ) → Item w a b → choice_at w.count choices a b ≡ needed → Below w k p a b → Below w k' p' a b) → Marking w k p choices
      → Marking w k' p' choices
  marking_moves {k} {p} {choices} k' p' moves marking =
      record { states = λ a b item. moved a b item (marking.states a b item); item = marking.item; root = marking.root }
    where
      moved : (a b : ℕ) → Item w a b → MarkState w k p choices a b → MarkState w k' p' choices a b
      moved a b item (unwanted none) = unwanted none
      moved a b item (pending new below) = pending new (moves a b item new below)
      moved a b item (closed done closes) = closed done closes

  -- from the weight above
  pub weight_begins : {choices : List ℕ} (k : ℕ) → Marking w (k + 1) 0 choices → Marking w k (swept w) choices
  weight_begins {choices} k marking = marking_moves k (swept w) moves marking
    where
      moves : (a b : ℕ) → Item w a b → choice_at w.count choices a b ≡ needed → Below w (k + 1) 0 a b → Below w k (swept w) a b
      moves a b item new (inl lighter) =
          elim (dec_lt (weight_in w a b) k) [ yes less ↦ inl less | no more ↦ inr (omega arith, item_swept w a b item) ]
      moves a b item new (inr (same, before)) = absurd (omega arith)

  -- nothing is due from the place p' up to p
  marking_passes : {choices : List ℕ} (k p' p : ℕ) → (SomeDue needed k choices w.counts p' p → ⊥) → Marking w k p choices → Marking w k p' choices
  marking_passes {choices} k p' p none marking = marking_moves k p' moves marking
    where
      moves : (a b : ℕ) → Item w a b → choice_at w.count choices a b ≡ needed → Below w k p a b → Below w k p' a b
      moves a b item new (inl lighter) = inl lighter
      moves a b item new (inr (same, before)) =
          elim (dec_lt (place_of w a b) p') [
            | yes inside ↦ inr (same, inside)
            | no behind ↦ absurd (none (place_of w a b, omega arith, before, (new, sym (item_weight w a b item) ∙ same)))
          ]

  pub passes_on : {before after : List ℕ} (k p' p : ℕ) → (SomeDue needed k after w.counts p' p → ⊥) → MarksTo w k p before after
      → MarksTo w k p' before after
  passes_on k p' p none so_far = record { keeps = so_far.keeps; marking = marking_passes k p' p none so_far.marking }

  -- ---- an item is marked

  module _ (before : List ℕ) {after : List ℕ} (k x y : ℕ) (room : cells w ≤ length before) (item : Item w x y) (weighs : weight_in w x y ≡ k)
      (marks : Marks w x y before after) where
    -- the choices in which the item is marked and nothing else is changed
    abbrev between : List ℕ
    between = set before (place w.count (x - 1) y) marked

    between_more : More w (choice_at w.count before) (choice_at w.count between)
    between_more a b other some =
        elim (same_or_other x y a b) [
          | inl same ↦
              of_same (λ (m n : ℕ). 1 ≤ choice_at w.count between m n) x y a b same (omega (arith, choice_stored w before x y marked room item))
          | inr differ ↦ omega (arith, choice_elsewhere w before x y marked a b item other differ)
        ]

    mark_more : More w (choice_at w.count before) (choice_at w.count after)
    mark_more a b other some = grows_more w marks.grows a b other (between_more a b other some)

    -- another item is not at its place
    below_other : (a b : ℕ) → Item w a b → (Same x y a b → ⊥) → Below w k (place_of w x y + 1) a b → Below w k (place_of w x y) a b
    below_other a b other differ (inl lighter) = inl lighter
    below_other a b other differ (inr (same, inside)) =
        elim (ℕ_discrete (place_of w a b) (place_of w x y)) [
          | yes here ↦ absurd (differ (same_place w x y a b item other here))
          | no elsewhere ↦ inr (same, omega (arith, elsewhere))
        ]

    state_here : Change w x y x y (choice_at w.count between x y) (choice_at w.count after x y) → MarkState w k (place_of w x y) after x y
    state_here (inl same) = closed (same ∙ choice_stored w before x y marked room item) marks.closed
    state_here (inr (none, new, lower)) = absurd (omega (arith, choice_stored w before x y marked room item))

    state_elsewhere : (a b : ℕ) → Item w a b → (Same x y a b → ⊥) → Change w x y a b (choice_at w.count between a b) (choice_at w.count after a b)
        → MarkState w k (place_of w x y + 1) before a b → MarkState w k (place_of w x y) after a b
    state_elsewhere a b other differ (inl same) (unwanted none) = unwanted (same ∙ choice_elsewhere w before x y marked a b item other differ ∙ none)
    state_elsewhere a b other differ (inl same) (pending new below) =
        pending (same ∙ choice_elsewhere w before x y marked a b item other differ ∙ new) (below_other a b other differ below)
    state_elsewhere a b other differ (inl same) (closed done closes) =
        closed (same ∙ choice_elsewhere w before x y marked a b item other differ ∙ done)
        (closed_more w (choice_at w.count before) (choice_at w.count after) mark_more a b closes)
    state_elsewhere a b other differ (inr (none, new, lower)) state = pending new (lower_below w x y k a b other weighs lower)

    marking_marks : Marking w k (place_of w x y + 1) before → Marking w k (place_of w x y) after
    marking_marks marking =
        record {
          states = λ a b other. elim (same_or_other x y a b) [
            | inl same ↦ of_same (MarkState w k (place_of w x y) after) x y a b same (state_here (marks.grows.each x y item))
            | inr differ ↦ state_elsewhere a b other differ (marks.grows.each a b other) (marking.states a b other)
          ];
          item = marking.item;
          root = mark_more (whole w) 0 (whole_item w (whole w) refl marking.item) marking.root;
        }

    -- it stands at the place before p
    pub marks_on : {first : List ℕ} (p : ℕ) → 1 ≤ p → place_of w x y ≡ p - 1 → MarksTo w k p first before → MarksTo w k (p - 1) first after
    marks_on p some stands so_far =
        let next : p ≡ place_of w x y + 1 = omega arith in
        record {
          keeps = keeps_then w so_far.keeps (keeps_then w (keeps_stored w before x y marked item) marks.grows.keeps);
          marking =
              subst (λ (m : ℕ). Marking w k m after) stands (marking_marks (subst (λ (m : ℕ). Marking w k m before) next so_far.marking));
        }

  -- ---- where the sweep begins

  module _ (before : List ℕ) (room : cells w ≤ length before) where
    -- the choices are cleared
    abbrev zeros : List ℕ
    zeros = replicate (cells w) 0

    abbrev cleared : List ℕ
    cleared = overwritten zeros before

    keeps_cleared : Keeps w before cleared
    keeps_cleared =
        let many = length-replicate {A = ℕ} (cells w) 0 in
        record {
          long =
              length-append zeros (drop (length zeros) before)
              ∙ omega (arith, many, length-drop (length zeros) before);
          behind =
              drop_at zeros (drop (length zeros) before) (cells w) many ∙ ap (λ (m : ℕ). drop m before) many;
        }

    cleared_unwanted : (a b : ℕ) → Item w a b → choice_at w.count cleared a b ≡ 0
    cleared_unwanted a b item =
        let inside = item_place w a b item in
        get_or-append zeros _ 0 (place w.count (a - 1) b) (omega (arith, length-replicate {A = ℕ} (cells w) 0))
        ∙ get_or-replicate (cells w) (place w.count (a - 1) b) 0 0 inside

    -- and only the target's item is needed
    abbrev begun : List ℕ
    begun = set cleared (place w.count (whole w - 1) 0) needed

    marks_from : (k : ℕ) → 1 ≤ k → weight_in w (whole w) 0 ≡ k → MarksTo w (k + 1) 0 before begun
    marks_from k some weighs =
        let root = whole_item w (whole w) refl (omega arith) in
        let long = keeps_cleared.long in
        let asked : choice_at w.count begun (whole w) 0 ≡ needed = choice_stored w cleared (whole w) 0 needed (omega arith) root in
        let marking : Marking w (k + 1) 0 begun =
        record {
          states = λ a b item. elim (same_or_other (whole w) 0 a b) [
            | inl same ↦ of_same (MarkState w (k + 1) 0 begun) (whole w) 0 a b same (pending asked (inl (omega arith)))
            | inr differ ↦ unwanted (choice_elsewhere w cleared (whole w) 0 needed a b root item differ ∙ cleared_unwanted a b item)
          ];
          item = omega arith;
          root = omega arith;
        } in
        record { keeps = keeps_then w keeps_cleared (keeps_stored w cleared (whole w) 0 needed root); marking = marking }

    -- with the first number as it is computed
    pub marking_begins : {first after : List ℕ} (x k : ℕ) → x ≡ whole w → 1 ≤ k → weight_in w x 0 ≡ k → first ≡ cleared
        → after ≡ set first (place w.count (x - 1) 0) needed → MarksTo w (k + 1) 0 before after
    marking_begins {first} x k last some weighs clears asks =
        subst (MarksTo w (k + 1) 0 before)
        (sym (asks ∙ ap₂ (λ (l : List ℕ) (m : ℕ). set l (place w.count (m - 1) 0) needed) clears last))
        (marks_from k some (subst (λ (m : ℕ). weight_in w m 0 ≡ k) last weighs))
