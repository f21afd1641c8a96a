-- Bytes that are stored one behind the other. Assumes nothing.
use mathlib.Core.Path.{◌≡◌, sym, ap, ◌∙◌}
use mathlib.Core.List.{List, [], ◌∷◌, ◌++◌}
use Prim.Native.Nat.{ℕ, suc, ◌+◌, ◌≤◌}
use native.Mathlib.Nat.{add-zero, zero-add}
use native.Mathlib.Omega.{arith}
use lib.ListN.{length, drop, set, length-append}
use lib.Seq.{sets, sets-eq}
use Rattle.slices.specs.Slices.{overwritten}
use Rattle.answers.specs.Storing.{Stores}

sets_append : (a b l : List ℕ) (at : ℕ) → sets l at (a ++ b) ≡ sets (sets l at a) (at + length a) b
sets_append [] b l at = ap (λ (k : ℕ). sets l k b) (sym (add-zero at))
sets_append (x ∷ a) b l at =
    let e : suc at + length a ≡ at + suc (length a) = omega arith in
    sets_append a b (set l at x) (suc at) ∙ ap (λ (k : ℕ). sets (sets (set l at x) (suc at) a) k b) e

-- one text behind another is one text
pub stores_then : {a b before between after : List ℕ} {at m r : ℕ} → Stores a at before m between → Stores b m between r after → Stores (a ++ b) at before r after
stores_then {a} {b} {before} {between} {after} {at} {m} {r} first second =
    record {
      end_is = omega (arith, first.end_is, second.end_is, length-append a b);
      slice_is =
          second.slice_is
          ∙ ap (λ (l : List ℕ). sets l m b) first.slice_is
          ∙ ap (λ (k : ℕ). sets (sets before at a) k b) first.end_is
          ∙ sym (sets_append a b before at);
    }

-- a text that fits, stored from the first place on
pub stores_front : {text before after : List ℕ} {r : ℕ} → length text ≤ length before → Stores text 0 before r after → after ≡ overwritten text before
stores_front {text} {before} h s = s.slice_is ∙ sets-eq text before 0 (omega arith) ∙ ap (λ (k : ℕ). text ++ drop k before) (zero-add (length text))
