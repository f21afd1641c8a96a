-- The loop that puts S from place to place: what is done, and what is left to do. Assumes nothing.
use mathlib.Core.Bool.{Bool, true, false}
use mathlib.Core.Path.{◌≡◌, sym, ap, ◌∙◌}
use mathlib.Core.List.{List, [], ◌∷◌, ◌++◌, append-nil}
use Prim.Native.Nat.{ℕ, suc, ◌+◌, ◌≤◌, ◌<◌}
use native.Mathlib.Nat.{le_refl}
use native.Mathlib.Numerals.{add-one}
use native.Mathlib.Omega.{arith}
use lib.Dec.{ltb}
use lib.ListN.{length, get_or, take, drop, set, drop_of_length-le}
use lib.Seq.{take_all, take-suc-set, drop-set-lt, drop-cons, append_snoc}
use Rattle.refusals.specs.Telling.{pick}
use Rattle.words_trial.specs.Period.{byte_in, next_column, with_s}

-- The slice as it will be, where S has been put at the places before i, and place i is in that column.
abbrev pub done : ℕ → ℕ → ℕ → List ℕ → List ℕ
done period i column l = take i l ++ with_s period column (drop i l)

pub done_more : (period i column : ℕ) (l : List ℕ) → i < length l
    → done period (i + 1) (next_column period column) (set l i (byte_in column (get_or l i 0))) ≡ done period i column l
done_more period i column l here =
    let b = byte_in column (get_or l i 0) in
    let next = next_column period column in
    ap (λ (j : ℕ). take j (set l i b) ++ with_s period next (drop j (set l i b))) (add-one i) ∙
    ap (λ (front : List ℕ). front ++ with_s period next (drop (suc i) (set l i b))) (take-suc-set l i b here) ∙
    ap (λ (rest : List ℕ). take i l ++ (b ∷ []) ++ with_s period next rest) (drop-set-lt (suc i) l i b (le_refl (suc i))) ∙
    append_snoc (take i l) b (with_s period next (drop (suc i) l)) ∙
    ap (λ (rest : List ℕ). take i l ++ with_s period column rest) (sym (drop-cons l i 0 here))

pub done_all : (period i column : ℕ) (l : List ℕ) → length l ≤ i → done period i column l ≡ l
done_all period i column l end =
    ap (λ (rest : List ℕ). take i l ++ with_s period column rest) (drop_of_length-le l end) ∙ append-nil (take i l) ∙ take_all i l end

-- the next column is at most one more
pub next_within : (period column : ℕ) → next_column period column ≤ column + 1
next_within period column = either (ltb (column + 1) period)
  where
    either : (carried : Bool) → pick carried (column + 1) 0 ≤ column + 1
    either true = le_refl _
    either false = omega arith
