-- A reduced list: the normal forms of a list's generators are one, and it fits the slices of a tree that have room. Assumes nothing.
use mathlib.Core.Path.{◌≡◌, sym, subst}
use mathlib.Core.List.{List, map}
use Prim.Native.Nat.{ℕ, ◌≤◌}
use native.Mathlib.Omega.{arith}
use lib.ListN.{length}
use Rattle.refusals.specs.Questions.{passed}
use Rattle.limits.specs.Limits.{most_generators, most_of_list, most_signed_generators, most_of_signed_list}
use Rattle.words.specs.Word.{Word, nf}
use Rattle.words.proofs.Reduced.{normal_of_reduced}
use Rattle.products.specs.Product.{generator}
use Rattle.products.specs.State.{AllNormal}
use Rattle.products.proofs.Reducing.{reduced_all}
use Rattle.lists.specs.Questions.{question11}
use Rattle.lists.specs.NormalList.{total, normal_bytes, normal_ends}
use Rattle.lists.proofs.NormalList.{normal_bytes_length, normal_ends_length, normal_list, normal_ends_rise, normal_ends_within}
use Rattle.lists.proofs.ShortForms.{total_short}
use Rattle.trees.specs.Building.{Fits}
use Rattle.queries.specs.Posing.{TreeRoom, Room, ReducedList}

-- the normal forms of generators that are few and short enough are a reduced list
pub forms_reduced : (words : List Word) → length words ≤ most_signed_generators → total words ≤ most_of_signed_list → ReducedList (normal_bytes words) (normal_ends 0 words)
forms_reduced words few short =
    let ends = normal_ends_length 0 words in
    record {
      short = omega (arith, normal_bytes_length words);
      few = omega arith;
      rising = λ i j h k. normal_ends_rise 0 words i j h (omega arith);
      within = λ j k. omega (arith, normal_ends_within 0 words j (omega arith), normal_bytes_length words);
      normal = subst AllNormal (sym (normal_list words)) (λ j f. normal_of_reduced (generator (map nf words) j) (reduced_all words j f));
    }

-- and so are those of generators that pass question 11
pub reduced_list : (gens : List Word) → length gens ≤ most_generators → question11 gens ≡ passed → ReducedList (normal_bytes gens) (normal_ends 0 gens)
reduced_list gens few e = forms_reduced gens (omega arith) (omega (arith, total_short gens e))

-- where there is room for the states of a reduced list, it fits with just as many nodes for its generators as it has
pub list_fits : {bytes ends : List ℕ} (letters rests children_r children_s wholes : List ℕ) {room : ℕ} → ReducedList bytes ends
    → TreeRoom (length bytes) (length ends) (length letters) (length rests) (length children_r) (length children_s) room
    → length wholes ≡ length ends → Fits bytes ends letters rests children_r children_s wholes
list_fits letters rests children_r children_s wholes r room w =
    let short = r.short in
    record {
      few = omega arith;
      rising = r.rising;
      within = r.within;
      room_letters = room.room_letters;
      room_rests = room.room_rests;
      room_r = room.room_r;
      room_s = room.room_s;
      room_wholes = w;
    }

-- room for every list that the questions let pass is room for the one that has passed
pub room_for : (letters ends : List ℕ) {form l r p q w : ℕ} → length letters ≤ most_of_list → length ends ≤ most_generators
    → Room most_of_list most_generators form l r p q w → Room (length letters) (length ends) form l r p q w
room_for letters ends short few room =
    let tree = room.tree in
    record {
      room_form = room.room_form;
      tree = record {
        short = omega arith;
        room_letters = omega arith;
        room_rests = omega arith;
        room_r = omega arith;
        room_s = omega arith;
        room_wholes = omega arith;
      };
    }
