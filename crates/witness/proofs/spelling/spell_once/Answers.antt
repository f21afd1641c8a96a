-- The item on top is a factor or not. Assumes nothing.
use mathlib.Core.Path.{◌≡◌, ap, subst, ◌∙◌}
use mathlib.Core.List.{List, ◌∷◌}
use Prim.Native.Nat.{ℕ}
use Rattle.derivations.specs.Ways.{world_of}
use Rattle.witness.specs.Choices.{choice_at}
use Rattle.witness.specs.Spelling.{Halfway}
use Rattle.witness.proofs.Halfway.{factor_room, further_factor, further_apart}
use Rattle.witness.proofs.spelling.spell_once.Goals.{Then-x-eq0}
use Rattle.witness.proofs.spelling.spell_once.Goals as goal

-- a factor was on top
on_top : (c : Then-x-eq0) → c.args.stack.now ≡ (0, c.pop-x.result.1) ∷ c.pop-x.new.self
on_top c = c.pop-x.ensures ∙ ap (λ (a : ℕ). (a, c.pop-x.result.1) ∷ c.pop-x.new.self) c.if-x-eq0.true

halfway : (c : Then-x-eq0)
    → let a = c.args in
    let by = c.requires.by_index in
    Halfway (world_of a.setting.now) (choice_at a.setting.now.tree.count a.choices.now) by.0 by.1
    ((0, c.pop-x.result.1) ∷ c.pop-x.new.self) a.witness.now a.written
halfway c =
    let a = c.args in
    let by = c.requires.by_index in
    subst
    (λ (is : List (ℕ × ℕ)). Halfway (world_of a.setting.now) (choice_at a.setting.now.tree.count a.choices.now) by.0 by.1 is a.witness.now a.written)
    (on_top c) by.2

pub bounds-witness-written : goal.bounds-witness-written
bounds-witness-written c = (factor_room _ _ _ _ _ _ (halfway (goal.at.bounds-witness-written c).Then-x-eq0) c.requires.small).0

pub returns-then-x-eq0 : goal.returns-then-x-eq0
returns-then-x-eq0 c =
    let here = (goal.at.returns-then-x-eq0 c).Then-x-eq0 in
    rw (on_top here) (further_factor _ _ _ _ _ _ (halfway here).standing)

pub returns : goal.returns
returns c = rw c.pop-x.ensures (further_apart _ _ c.take_apart.ensures)
