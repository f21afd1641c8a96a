-- The way d is better where nothing was found or it is before what was. Assumes nothing.
use mathlib.Core.Path.{subst}
use Prim.Native.Nat.{ℕ}
use Rattle.std.specs.Prelude.{Option}
use Rattle.derivations.specs.Ways.{world_of}
use Rattle.witness.specs.Choosing.{BestBelow, Leads}
use Rattle.witness.proofs.Best.{best_first, best_earlier, best_kept}
use Rattle.witness.proofs.choosing.better.Goals.{In-Some}
use Rattle.witness.proofs.choosing.better.Goals as goal

leads : (c : In-Some) → Leads (world_of c.args.setting.now) c.args.x c.args.y c.in-Some.so_far c.args.d
leads c =
    subst (λ (b : Option ℕ). BestBelow (world_of c.args.setting.now) c.args.x c.args.y b c.args.d) c.in-Some.is c.requires.best_below

pub returns-in_default : goal.returns-in_default
returns-in_default c =
    let p = c.requires in
    best_first p.choosable _ p.candidate
    (subst (λ (b : Option ℕ). BestBelow (world_of c.args.setting.now) c.args.x c.args.y b c.args.d) c.in_default.is p.best_below)

pub returns-then-is_before : goal.returns-then-is_before
returns-then-is_before c =
    let p = c.requires in
    best_earlier p.choosable _ p.candidate _ (leads (goal.at.returns-then-is_before c).In-Some) _ c.is_before.ensures c.if-is_before.true

pub returns : goal.returns
returns c =
    let p = c.requires in
    best_kept p.choosable _ p.candidate _ (leads (goal.at.returns c).In-Some) _ c.is_before.ensures c.if-is_before.false
