-- A slice into which another is copied, a slice whose front is rewritten and grows, and a part of one. Assumes nothing.
use mathlib.Core.Bool.{Bool}
use mathlib.Core.Path.{◌≡◌, sym, ap, ap₂, ◌∙◌}
use mathlib.Core.List.{List, [], ◌∷◌, ◌++◌, append_assoc}
use Prim.Native.Nat.{ℕ, suc, ◌+◌, ◌≤◌, ◌<◌}
use native.Mathlib.Nat.{zero-add}
use native.Mathlib.Numerals.{add-one}
use native.Mathlib.Omega.{arith}
use borrow.Author.Tests.{le-leb}
use lib.ListN.{length, take, drop, set, get_or, length-append}
use lib.Seq.{paste, slice, take_at, take_all, take-length, drop_at, drop-append-add, drop-drop, drop-cons, set_at, append_snoc}
use Rattle.refusals.specs.Telling.{pick}
use Rattle.slices.specs.Slices.{overwritten, Pastes}

-- ---- a copy where there is room, and where there is none

module _ (new before : List ℕ) (at : ℕ) where
  -- what the slice holds, by the test of room
  abbrev held : Bool → List ℕ
  held room = pick room (paste before at new (length new)) before

pub pasted : {new before after : List ℕ} {at : ℕ} {r : Bool} → Pastes new at before r after → at + length new ≤ length before
    → after ≡ paste before at new (length new)
pasted {new} {before} {at = at} h room = h.slice ∙ ap (held new before at) (le-leb (at + length new) (length before) room)

pub pasted_front : {new before after : List ℕ} {r : Bool} → Pastes new 0 before r after → length new ≤ length before → after ≡ overwritten new before
pasted_front {new} {before} h room =
    pasted h (omega arith)
    ∙ ap₂ (λ (front : List ℕ) (n : ℕ). front ++ drop n before) (take-length new) (zero-add (length new))

-- ---- a front that grows: by a copy behind it, or by one store

module _ (front old : List ℕ) (at : ℕ) (h : length front ≡ at) where
  pub front_pasted : (new : List ℕ) (n : ℕ) → length new ≡ n → paste (overwritten front old) at new n ≡ overwritten (front ++ new) old
  front_pasted new n k =
      ap₂ (λ (x y : List ℕ). x ++ y) (ap₂ (λ (x y : List ℕ). x ++ y) (take_at front (drop (length front) old) at h) (take_all n new (omega arith)))
      (ap (λ (m : ℕ). drop (m + n) (overwritten front old)) (sym h) ∙ drop-append-add front (drop (length front) old) n ∙ drop-drop n (length front) old
      ∙ ap (λ (m : ℕ). drop m old) (ap (λ (m : ℕ). length front + m) (sym k) ∙ sym (length-append front new)))

  pub front_stored : (v : ℕ) → at < length old → set (overwritten front old) at v ≡ overwritten (front ++ v ∷ []) old
  front_stored v room =
      ap (λ (l : List ℕ). set (front ++ l) at v) (drop-cons old (length front) 0 (omega arith))
      ∙ set_at front (get_or old (length front) 0) (drop (suc (length front)) old) v at h ∙ sym (append_snoc front v (drop (suc (length front)) old))
      ∙ ap (λ (m : ℕ). (front ++ v ∷ []) ++ drop m old) (sym (length-append front (v ∷ []) ∙ add-one (length front)))

-- ---- what stands between two places is what was put there
pub slice_middle : (done here rest : List ℕ) (from : ℕ) → length done ≡ from → slice from (from + length here) (done ++ (here ++ rest)) ≡ here
slice_middle done here rest from h =
    ap (drop from)
    (ap (take (from + length here)) (sym (append_assoc done here rest)) ∙ take_at (done ++ here) rest (from + length here) (omega (arith, length-append done here, h)))
    ∙ drop_at done here from h
