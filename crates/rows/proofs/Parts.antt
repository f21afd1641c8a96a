-- A row as a part of a slice, read and put back. Assumes nothing.
use mathlib.Core.Path.{◌≡◌, ap, sym, ◌∙◌}
use mathlib.Core.List.{List, ◌++◌}
use Prim.Native.Nat.{ℕ, ◌+◌, ◌-◌, ◌*◌, ◌≤◌, ◌<◌}
use native.Mathlib.Nat.{mul-le-mul_right}
use native.Mathlib.Omega.{arith}
use lib.ListN.{length, take, drop, length-append, length-take, length-drop, get_or-append}
use lib.Seq.{length-take-le, get_or-take, get_or-drop, get_or-append-add}
use borrow.Rule.Slice.PartMut.{put_mid}
use Rattle.trees.specs.Tree.{at}
use Rattle.tables.proofs.Parts.{part as any_part, part_at as any_at}

-- row v of a table of w rows ends within it
pub row_inside : (v w : ℕ) → v < w → v * w + w ≤ w * w
row_inside v w h = omega (arith, mul-le-mul_right w h)

-- the part of `size` entries from `start` on
abbrev pub part : List ℕ → ℕ → ℕ → List ℕ
part l start size = any_part l start (start + size)

module _ (l : List ℕ) (start size : ℕ) where
  pub part_at : (p : ℕ) → p < size → at (part l start size) p ≡ at l (start + p)
  part_at p h = any_at l start (start + size) p (omega arith)

  module _ (room : start + size ≤ length l) where
    pub part_length : length (part l start size) ≡ size
    part_length = simp (length-take, length-drop) (omega arith)

    -- the slice with `new` in the place of that part
    module _ (new : List ℕ) (long : length new ≡ size) where
      front_length : length (take start l) ≡ start
      front_length = length-take-le start l (omega arith)

      pub put_length : length (put_mid start (start + size - start) l new) ≡ length l
      put_length = simp (length-append, length-take, length-drop) (omega arith)

      pub put_front : (p : ℕ) → p < start → at (put_mid start (start + size - start) l new) p ≡ at l p
      put_front p h = get_or-append (take start l) _ 0 p (omega (arith, front_length)) ∙ get_or-take start l p 0 h

      behind_front : (p : ℕ) → at (put_mid start (start + size - start) l new) (start + p) ≡ at (new ++ drop (start + size - start) (drop start l)) p
      behind_front p =
          ap (λ (k : ℕ). at (put_mid start (start + size - start) l new) (k + p)) (sym front_length)
          ∙ get_or-append-add (take start l) (new ++ drop (start + size - start) (drop start l)) p 0

      pub put_part : (p : ℕ) → p < size → at (put_mid start (start + size - start) l new) (start + p) ≡ at new p
      put_part p h = behind_front p ∙ get_or-append new _ 0 p (omega arith)

      pub put_rest : (p : ℕ) → start + size ≤ p → at (put_mid start (start + size - start) l new) p ≡ at l p
      put_rest p h =
          let r = p - (start + size) in
          let here : p ≡ start + (length new + r) = omega arith in
          let there : start + (start + size - start + r) ≡ p = omega arith in
          ap (at (put_mid start (start + size - start) l new)) here ∙ behind_front (length new + r)
          ∙ get_or-append-add new (drop (start + size - start) (drop start l)) r 0
          ∙ get_or-drop (start + size - start) (drop start l) r 0
          ∙ get_or-drop start l (start + size - start + r) 0
          ∙ ap (at l) there
