-- The way that is chosen for the item tells its parts. Assumes nothing.
use mathlib.Core.Path.{ap}
use Prim.Native.Nat.{ℕ, ◌-◌}
use Rattle.derivations.specs.Ways.{world_of}
use Rattle.witness.proofs.Taking.{Top, parts_room, taken_apart}
use Rattle.witness.proofs.comparing.take_apart.Goals.{Start}
use Rattle.witness.proofs.comparing.take_apart.Goals as goal

top : (c : Start) → Top (world_of c.args.setting.now) c.args.choices.now c.args.x c.args.y c.args.stack.now
top c =
    let p = c.requires in
    record { small = p.small; settled = p.all_settled; standing = p.standing; some = p.no_factor }

pub push_parts-requires : goal.push_parts-requires
push_parts-requires c = parts_room (top (goal.at.push_parts-requires c).Start) (ap (λ (n : ℕ). n - 1) c.choice-way.ensures.0) c.parts.ensures

pub returns : goal.returns
returns c =
    taken_apart (top (goal.at.returns c).Start) (ap (λ (n : ℕ). n - 1) c.choice-way.ensures.0) c.parts.ensures _ c.push_parts.ensures
