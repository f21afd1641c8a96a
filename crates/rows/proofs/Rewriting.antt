-- Two slices that agree from a place on. Assumes nothing.
use mathlib.Core.Path.{◌≡◌, sym, ap, ◌∙◌}
use mathlib.Core.List.{List}
use Prim.Native.Nat.{ℕ, ◌+◌, ◌-◌, ◌≤◌}
use native.Mathlib.Omega.{arith}
use lib.ListN.{length, drop, length-drop}
use lib.Seq.{get_or-drop, ext_get_or}
use Rattle.trees.specs.Tree.{at}

-- two slices of one length that agree from a place on have the same rest there
pub same_rest : (before after : List ℕ) (m : ℕ) → length after ≡ length before → ((p : ℕ) → m ≤ p → at after p ≡ at before p)
    → drop m after ≡ drop m before
same_rest before after m long same =
    ext_get_or 0 (drop m after) (drop m before) (length-drop m after ∙ ap (λ (k : ℕ). k - m) long ∙ sym (length-drop m before))
    (λ p h. get_or-drop m after p 0 ∙ same (m + p) (omega arith) ∙ sym (get_or-drop m before p 0))
