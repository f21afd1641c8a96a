-- An image that is not marked is put behind the queue, where there is room. Assumes nothing.
use mathlib.Core.Path.{◌≡◌, sym, ap, ◌∙◌}
use mathlib.Core.List.{List}
use Prim.Native.Nat.{ℕ}
use native.Mathlib.Omega.{arith}
use lib.ListN.{get_or}
use Rattle.quick.proofs.Marks.{room_left, visit_new}
use Rattle.quick.proofs.closing.Marks.visit.Goals as goal

-- the mark that was tested is that of the image
same-mark : (visited : List ℕ) {k at : ℕ} → at ≡ k → get_or visited k 0 ≡ get_or visited at 0
same-mark visited e = ap (λ (x : ℕ). get_or visited x 0) (sym e)

pub bounds-self-self : goal.bounds-self-self
bounds-self-self c =
    let a = c.args in
    let p = c.requires in
    omega (arith, p.marked.room, room_left a.self.now.visited a.self.now.queue a.self.now.count p.marked a.k p.k_bound (same-mark a.self.now.visited c.from-at.ensures ∙ c.if-self-at-eq0.true))

pub returns-then-self-at-eq0 : goal.returns-then-self-at-eq0
returns-then-self-at-eq0 c =
    let a = c.args in
    let p = c.requires in
    rw c.from-at.ensures (visit_new a.self.now.visited a.self.now.queue a.self.now.count p.marked a.k p.k_bound (same-mark a.self.now.visited c.from-at.ensures ∙ c.if-self-at-eq0.true))
