-- The one argument of the loops by which a word's letters arrive at a stack. A loop differs from another in which letters are still to
-- come, and in what order: that is the parameter `rest`. Assumes nothing.
use mathlib.Core.Path.{◌≡◌, refl, sym, ap, subst, ◌∙◌}
use mathlib.Core.List.{List, [], ◌∷◌, ◌++◌, map-append}
use Prim.Native.Nat.{ℕ, ◌+◌, ◌*◌, ◌<◌, zero-le}
use native.Mathlib.Numerals.{add-one}
use native.Mathlib.Omega.{arith}
use lib.ListN.{length, drop, get_or, length-append}
use lib.Seq.{drop-cons}
use Rattle.words.specs.Word.{Word, arrived, inverse, inverse_letter}
use Rattle.words.specs.Bytes.{letter, word}
use Rattle.words.specs.Account.{rs}
use Rattle.words.specs.Arrival.{Held, SomeHeld, Arrives, came}
use Rattle.words.specs.declared.Ending.TheVariants.{Nothing}
use Rattle.words.specs.declared.arrival.Top.{Top}
use Rattle.words.proofs.NormalForm.{arrived_append}
use Rattle.words.proofs.Accounting.{rs_append}
use Rattle.words.proofs.Inverse.{inverse_append}

-- x arrives, and y at what x leaves: so x and y arrive
pub arrives_then : {x y : Word} {s : List ℕ} {top : Top} {s' : List ℕ} {top' : Top} {s'' : List ℕ} {top'' : Top} → Arrives x s top s' top' → Arrives y s' top' s'' top'' → Arrives (x ++ y) s top s'' top''
arrives_then {x} {y} {s'' = s''} {top''} m n =
    record {
      held = λ w h. subst (Held s'' top''.len top''.ending) (sym (arrived_append w x y)) (n.held (arrived w x) (m.held w h));
      letters = omega (arith, m.letters, n.letters, length-append x y);
      rs_gone = λ w h. omega (arith, m.rs_gone w h, n.rs_gone (arrived w x) (m.held w h), rs_append x y, ap rs (arrived_append w x y));
    }

-- The letters of `total` arrive at the stack, which was empty; `rest` is what is still to come. Each letter, and each R, that is not still to come is on the
-- stack or is counted as gone.
pub record Arriving (s : List ℕ) (top : Top) (rest total : Word) : Type 0 where
  pub so_far : Word
  pub held : Held s top.len top.ending so_far
  pub comes : arrived so_far rest ≡ arrived [] total
  pub letters : came top + length rest ≡ length total
  pub rs_gone : rs so_far + 2 * top.pairs + rs rest ≡ rs total

pub arriving_some : (s : List ℕ) (top : Top) {rest total : Word} → Arriving s top rest total → SomeHeld s top.len top.ending
arriving_some s top a = (a.so_far, a.held)

pub arriving_begins : (s : List ℕ) (total : Word) → Arriving s (record { len = 0; ending = Nothing; pairs = 0; triples = 0 }) total total
arriving_begins s total =
    record {
      so_far = [];
      held = record { within = zero-le; spelled = refl; ends = refl };
      comes = refl;
      letters = omega arith;
      rs_gone = omega arith;
    }

pub arriving_more : {s : List ℕ} {top : Top} (x : Word) {all : Word} (rest : Word) {total : Word} {s' : List ℕ} {top' : Top} → all ≡ x ++ rest → Arriving s top all total → Arrives x s top s' top' → Arriving s' top' rest total
arriving_more x rest e a m =
    record {
      so_far = arrived a.so_far x;
      held = m.held a.so_far a.held;
      comes = sym (arrived_append a.so_far x rest) ∙ ap (arrived a.so_far) (sym e) ∙ a.comes;
      letters = omega (arith, a.letters, m.letters, ap length e, length-append x rest);
      rs_gone = omega (arith, a.rs_gone, m.rs_gone a.so_far a.held, ap rs e, rs_append x rest);
    }

-- where nothing is still to come
module _ {s : List ℕ} {top : Top} {rest total : Word} (e : rest ≡ []) (a : Arriving s top rest total) where
  all_arrived : a.so_far ≡ arrived [] total
  all_arrived = sym (ap (arrived a.so_far) e) ∙ a.comes

  pub arriving_ends : Held s top.len top.ending (arrived [] total)
  arriving_ends = subst (Held s top.len top.ending) all_arrived a.held

-- what is still to come of a word, of which i letters have arrived
pub rest_of_word : (w : List ℕ) (i : ℕ) → i < length w → word (drop i w) ≡ (letter (get_or w i 0) ∷ []) ++ word (drop (i + 1) w)
rest_of_word w i h = rw (add-one i) (ap word (drop-cons w i 0 h))

-- what is still to come of a word's inverse, where b is the last letter that has not arrived
pub rest_of_inverse : (all before : List ℕ) (b : ℕ) → all ≡ before ++ b ∷ [] → inverse (word all) ≡ inverse_letter (letter b) ++ inverse (word before)
rest_of_inverse all before b e =
    ap (λ (l : List ℕ). inverse (word l)) e ∙ ap inverse (map-append letter before (b ∷ [])) ∙ inverse_append (word before) (letter b ∷ [])
