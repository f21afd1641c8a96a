-- The target is reduced and the tree is planted; then what is ready is judged. Assumes nothing.
use mathlib.Core.Path.{sym, ap, subst₂, ◌∙◌}
use mathlib.Core.List.{List, map}
use Prim.Native.Nat.{ℕ}
use lib.ListN.{length}
use Rattle.std.specs.Prelude.{Ok}
use Rattle.refusals.proofs.Asking.{of_letters_short}
use Rattle.words.specs.Word.{Word, nf}
use Rattle.words.specs.Bytes.{word}
use Rattle.products.specs.Product.{with_inverses}
use Rattle.lists.proofs.NormalList.{normal_ends_length}
use Rattle.queries.specs.Arrays.{lent_in}
use Rattle.queries.specs.Posing.{ReducedList, PosesReduced}
use Rattle.queries.proofs.PosedReady.{FormsReady, forms_ready}
use Rattle.queries.proofs.InRoom.{shown_ready, reduced_room}
use Rattle.subgroups.specs.Judging.{Doubled}
use Rattle.subgroups.proofs.judging.judge_reduced.Goals.{In_ok-posed}
use Rattle.subgroups.proofs.judging.judge_reduced.Goals as goal

-- where nothing is refused, the form and the tree stand
stands : (c : In_ok-posed) → let a = c.args in
    PosesReduced a.list_letters.now a.list_ends.now a.target.now (Ok c.in_ok-posed.posed) (lent_in c.new-room.result) (lent_in c.pose_reduced.new.self)
stands c =
    let a = c.args in
    let p = c.requires in
    rw c.in_ok-posed.was at
    (c.pose_reduced.ensures.posed (reduced_room a.list_letters.now a.list_ends.now (lent_in c.new-room.result) c.new-room.ensures p.reduced_list) p.reduced_list p.target_value)

-- ready for a search, where the list is that of some generators and their inverses
all_ready : (c : In_ok-posed) (gens : List Word) → let a = c.args in Doubled gens a.list_letters.now a.list_ends.now a.given a.generators
    → FormsReady (with_inverses gens) (length a.list_ends.now) a.target.now c.in_ok-posed.posed.m c.in_ok-posed.posed.t c.in_ok-posed.posed.count (lent_in c.pose_reduced.new.self)
all_ready c gens d =
    let a = c.args in
    let posed = c.in_ok-posed.posed in
    forms_ready (with_inverses gens) (length a.list_ends.now) (sym (ap length d.ends_are ∙ normal_ends_length 0 (with_inverses gens))) a.target.now
    posed.m posed.t posed.count (lent_in c.new-room.result) (lent_in c.pose_reduced.new.self)
    (subst₂ ReducedList d.letters_are d.ends_are c.requires.reduced_list) (of_letters_short a.target.now c.requires.target_value)
    (subst₂
    (λ (l e : List ℕ). PosesReduced l e a.target.now (Ok posed) (lent_in c.new-room.result) (lent_in c.pose_reduced.new.self))
    d.letters_are d.ends_are (stands c))

pub returns : goal.returns
returns c gens d =
    let here = (goal.at.returns c).In_ok-posed in
    let a = c.args in
    let posed = c.in_ok-posed.posed in
    let f = all_ready here gens d in
    let shown = c.form-form.ensures.short f.form_short in
    c.judge_form.ensures gens (word a.target.now)
    (shown_ready (map nf (with_inverses gens)) posed.m.0 posed.count (length a.list_ends.now) posed.t.0 (lent_in c.pose_reduced.new.self) c.tree-tree.result c.form-form.result.now
    c.tree-tree.ensures.nodes (c.tree-tree.ensures.wholes c.requires.reduced_list.few) shown f.ready)
    f.letters (ap word shown ∙ f.form) d.inverse_forms
