-- A table that is left zeroed, whatever was written to its front before. Assumes nothing.
use mathlib.Core.Path.{◌≡◌, sym, ap, ◌∙◌}
use mathlib.Core.List.{List, ◌++◌}
use Prim.Native.Nat.{ℕ, ◌*◌, ◌≤◌}
use lib.ListN.{length, drop, replicate, length-replicate}
use borrow.Author.Tests.{le-leb}
use Rattle.sizes.specs.Zeroing.{zeroed, Zeroes}

-- a table that is zeroed for the side q depends on what stands behind q × q entries only
zeroed_alike : (q : ℕ) (a b : List ℕ) → drop (q * q) a ≡ drop (q * q) b → zeroed q a ≡ zeroed q b
zeroed_alike q a b e =
    let all : length (replicate {A = ℕ} (q * q) 0) ≡ q * q = length-replicate {A = ℕ} (q * q) 0 in
    ap (λ (l : List ℕ). replicate (q * q) 0 ++ l) (ap (λ (k : ℕ). drop k a) all ∙ e ∙ ap (λ (k : ℕ). drop k b) (sym all))

-- so a table that is zeroed after something was written to its first q × q entries is zeroed as it was before
pub table_zeroed : (q : ℕ) (before middle after : List ℕ) → drop (q * q) middle ≡ drop (q * q) before → q * q ≤ length middle → Zeroes q middle after
    → after ≡ zeroed q before
table_zeroed q before middle after same room zeroes = zeroes ∙ rw (le-leb (q * q) (length middle) room) (zeroed_alike q middle before same)
