-- What is ready in arrays is so as they are shown: as a tree and a form. Assumes nothing.
use mathlib.Core.Path.{◌≡◌, sym, subst}
use mathlib.Core.List.{List}
use Prim.Native.Nat.{ℕ}
use native.Mathlib.Omega.{arith}
use lib.ListN.{length, take, length-replicate}
use Rattle.limits.specs.Limits.{most_letters, most_signed_generators, most_states}
use Rattle.words.specs.Word.{Word}
use Rattle.trees.specs.declared.SuffixTree.{SuffixTree}
use Rattle.queries.specs.Arrays.{zeros}
use Rattle.queries.specs.Posing.{Lent, HasRoom, ReducedList}
use Rattle.queries.specs.Ready.{ReadyFor, ReadyTree}

pub shown_ready : (gens : List Word) (m count generators t : ℕ) (arrays : Lent) (tree : SuffixTree) (form : List ℕ)
    → (tree.count ≡ count) × (tree.letters.now ≡ arrays.tree.letters) × (tree.rests.now ≡ arrays.tree.rests)
    × (tree.children_r.now ≡ arrays.tree.children_r) × (tree.children_s.now ≡ arrays.tree.children_s)
    → tree.wholes.now ≡ take generators arrays.tree.wholes → form ≡ take t arrays.form
    → ReadyFor gens m count arrays.tree.letters arrays.tree.rests arrays.tree.children_r arrays.tree.children_s (take generators arrays.tree.wholes) (take t arrays.form)
    → ReadyTree gens m tree form
shown_ready gens m count generators t arrays tree form nodes wholes shown ready =
    rw (nodes.0, nodes.1, nodes.2, nodes.3, nodes.4, wholes, shown) ready

-- there is room for every reduced list, also for one with its inverses behind it
pub reduced_room : (letters ends : List ℕ) (arrays : Lent) → arrays ≡ zeros most_states most_signed_generators → ReducedList letters ends → HasRoom (length letters) (length ends) arrays
reduced_room letters ends arrays e reduced =
    let nodes = length-replicate {A = ℕ} most_states 0 in
    let short = reduced.short in
    let few = reduced.few in
    subst (HasRoom (length letters) (length ends)) (sym e)
    (record {
      room_form = omega (arith, length-replicate {A = ℕ} most_letters 0);
      tree = record {
        short = short;
        room_letters = omega (arith, nodes);
        room_rests = omega (arith, nodes);
        room_r = omega (arith, nodes);
        room_s = omega (arith, nodes);
        room_wholes = omega (arith, length-replicate {A = ℕ} most_signed_generators 0);
      };
    })
