-- A list and a target that pass the questions are made ready, and then judged. Assumes nothing.
use mathlib.Core.List.{map}
use Prim.Native.Nat.{◌≤◌}
use native.Mathlib.Omega.{arith}
use lib.ListN.{length}
use Rattle.limits.specs.Limits.{most_generators}
use Rattle.words.specs.Word.{nf}
use Rattle.products.specs.Product.{generators}
use Rattle.queries.specs.Arrays.{lent_in}
use Rattle.queries.proofs.PosedReady.{posed_passed}
use Rattle.queries.proofs.InRoom.{shown_ready}
use Rattle.engine.proofs.GivenList.{judges_ready}
use Rattle.engine.proofs.judge.Goals as goal

pub returns : goal.returns
returns c =
    let a = c.args in
    let posed = c.in_ok-posed.posed in
    let ready = posed_passed a.bytes.now a.ends.now a.target.now (lent_in c.new-room.result) (lent_in c.pose.new.self) (c.pose.ensures (omega arith) (omega arith)) c.in_ok-posed.was in
    let few : length a.ends.now ≤ most_generators = omega (arith, ready.few) in
    let shown = c.form-form.ensures.short ready.forms.form_short in
    judges_ready a.bytes.now a.ends.now a.target.now a.n.0 c.judge_form.result
    (record { first = a.first.now; second = a.second.now; witness = a.witness.now })
    (record { first = c.judge_form.new.first; second = c.judge_form.new.second; witness = c.judge_form.new.witness })
    ready
    (rw shown at
    (c.judge_form.ensures (map nf (generators a.bytes.now a.ends.now))
    (shown_ready (map nf (generators a.bytes.now a.ends.now)) posed.m.0 posed.count (length a.ends.now) posed.t.0 (lent_in c.pose.new.self) c.tree-tree.result c.form-form.result.now
    c.tree-tree.ensures.nodes (c.tree-tree.ensures.wholes few) shown ready.forms.ready)))
