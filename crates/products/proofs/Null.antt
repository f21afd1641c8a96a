-- Words that cancel to nothing, by their parse: which letters cancel with which.
--     null_equal, equal_null    a word has a parse exactly when it equals the empty word
--     null_reduced              a normal word has no null factor but the empty one
--     null_ss                   two S's at the front of a null word belong together
--     null_before               before the first letter that is left of a word stands a null word
-- Assumes nothing.
use mathlib.Core.Path.{◌≡◌, refl, sym, ap, subst, ◌∙◌}
use mathlib.Core.List.{[], ◌∷◌, ◌++◌, reverse, append_assoc, append-nil, reverse-cons, reverse-reverse, tail-eq_of_cons-eq}
use Prim.Native.Nat.{ℕ}
use native.Mathlib.Omega.{arith}
use Rattle.words.specs.Word.{Letter, R, S, Word, Equal, rr, sss, none, back, then, arrive, arrived, nf}
use Rattle.words.proofs.Reduced.{Reduced, reduced_take, reduced_drop}
use Rattle.words.proofs.NormalForm.{equal_path, equal_inside, equal_behind, equal_before, nf_of_equal, nf_of_reduced, arrived_equal}

-- N -> nothing | R N R N | S N S N S N
pub data Null : Word → Type 0 where
  nil : Null []
  pair : {x y : Word} → Null x → Null y → Null (R ∷ (x ++ R ∷ y))
  triple : {x y z : Word} → Null x → Null y → Null z → Null (S ∷ (x ++ S ∷ (y ++ S ∷ z)))

pub null_equal : {w : Word} → Null w → Equal w []
null_equal nil = none
null_equal (pair {y} a b) = then (equal_inside (R ∷ []) (R ∷ y) (null_equal a)) (then (rr [] y) (null_equal b))
null_equal (triple {y} {z} a b c) =
    then (equal_inside (S ∷ []) (S ∷ (y ++ S ∷ z)) (null_equal a))
    (then (equal_inside (S ∷ S ∷ []) (S ∷ z) (null_equal b)) (then (sss [] z) (null_equal c)))

pub null_append : {x y : Word} → Null x → Null y → Null (x ++ y)
null_append nil d = d
null_append {y = v} (pair {x} {y} a b) d = rw (append_assoc x (R ∷ y) v) (pair a (null_append b d))
null_append {y = v} (triple {x} {y} {z} a b c) d =
    rw (append_assoc x (S ∷ (y ++ S ∷ z)) v, append_assoc y (S ∷ z) v) (triple a b (null_append c d))

-- ---- from equality to a parse

-- The word is the letters of a stack with null words before, between and after. The stack stands back to front, as `arrived` leaves it.
data Padded : Word → Word → Type 0 where
  start : {w : Word} → Null w → Padded [] w
  letter : {s w z : Word} (a : Letter) → Padded s w → Null z → Padded (a ∷ s) (w ++ a ∷ z)

padded_null : {s w z : Word} → Padded s w → Null z → Padded s (w ++ z)
padded_null (start a) b = start (null_append a b)
padded_null {z = v} (letter {w} {z} c p a) b = rw (append_assoc w (c ∷ z) v) (letter c p (null_append a b))

padded_arrive : (a : Letter) {s w : Word} → Padded s w → Padded (arrive a s) (w ++ a ∷ [])
padded_arrive R (start a) = letter R (start a) nil
padded_arrive R (letter {w} {z} R p a) = rw (append_assoc w (R ∷ z) (R ∷ [])) (padded_null p (pair a nil))
padded_arrive R (letter S p a) = letter R (letter S p a) nil
padded_arrive S (start a) = letter S (start a) nil
padded_arrive S (letter R p a) = letter S (letter R p a) nil
padded_arrive S (letter S (start a) b) = letter S (letter S (start a) b) nil
padded_arrive S (letter S (letter R p a) b) = letter S (letter S (letter R p a) b) nil
padded_arrive S (letter {z = z₂} S (letter {w} {z = z₁} S p a) b) =
    rw (append_assoc (w ++ S ∷ z₁) (S ∷ z₂) (S ∷ []), append_assoc w (S ∷ z₁) (S ∷ (z₂ ++ S ∷ []))) (padded_null p (triple a b nil))

padded_arrived : (x : Word) {s w : Word} → Padded s w → Padded (arrived s x) (w ++ x)
padded_arrived [] {w} p = rw (append-nil w) p
padded_arrived (a ∷ x) {w} p = rw (append_assoc w (a ∷ []) x) at (padded_arrived x (padded_arrive a p))

padded_nothing : {w : Word} → Padded [] w → Null w
padded_nothing (start a) = a

pub equal_null : (w : Word) → Equal w [] → Null w
equal_null w e = padded_nothing (subst (λ (s : Word). Padded s w) (arrived_equal [] tt e) (padded_arrived w (start nil)))

-- ---- what a parse says

pub null_reduced : (x w y : Word) → Reduced (x ++ (w ++ y)) → Null w → w ≡ []
unfolding nf
null_reduced x w y h a = sym (nf_of_reduced w (reduced_take w y (reduced_drop x (w ++ y) h))) ∙ nf_of_equal (null_equal a)

-- where a part of a reduced word begins with a null word, nothing stands there
pub null_front : (p x n v : Word) → Reduced (p ++ x) → Null n → x ≡ n ++ v → x ≡ v
null_front p x n v h a e = e ∙ ap (λ (l : Word). l ++ v) (null_reduced p n v (subst (λ (l : Word). Reduced (p ++ l)) e h) a)

pub null_r : {w : Word} → Null (R ∷ w) → (x : Word) × (y : Word) × Null x × Null y × (w ≡ x ++ R ∷ y)
null_r (pair {x} {y} a b) = (x, y, a, b, refl)

pub null_s : {w : Word} → Null (S ∷ w) → (x : Word) × (y : Word) × (z : Word) × Null x × Null y × Null z × (w ≡ x ++ S ∷ (y ++ S ∷ z))
null_s (triple {x} {y} {z} a b c) = (x, y, z, a, b, c, refl)

-- If S x S y S z is null and x begins with an S of its own, then x is S a S b S c, and the S behind a serves for the two in front: what
-- follows it, b S c S y S z, is null.
pub null_ss : {w : Word} → Null (S ∷ S ∷ w) → (x : Word) × (y : Word) × Null x × Null y × (w ≡ x ++ S ∷ y)
null_ss {w} n = let (x, y, z, a, b, c, e) = null_s n in first a b c e
  where
    first : {x y z : Word} → Null x → Null y → Null z → S ∷ w ≡ x ++ S ∷ (y ++ S ∷ z) → (p : Word) × (q : Word) × Null p × Null q × (w ≡ p ++ S ∷ q)
    first {y} {z} nil b c e = (y, z, b, c, tail-eq_of_cons-eq e)
    first (pair a₁ a₂) b c e = let never : ◌≡◌ {A = ℕ} 0 1 = cc in absurd (omega arith)
    first {y} {z} (triple {x = x₁} {y = x₂} {z = x₃} a₁ a₂ a₃) b c e = (
      x₁,
      x₂ ++ (S ∷ (x₃ ++ S ∷ (y ++ S ∷ z))),
      a₁,
      null_append a₂ (triple a₃ b c),
      tail-eq_of_cons-eq e ∙ append_assoc x₁ (S ∷ (x₂ ++ S ∷ x₃)) (S ∷ (y ++ S ∷ z))
          ∙ ap (λ (l : Word). x₁ ++ S ∷ l) (append_assoc x₂ (S ∷ x₃) (S ∷ (y ++ S ∷ z))),
    )

-- ---- the first letter that is left

pub equal_uncons : (a : Letter) {u v : Word} → Equal (a ∷ u) (a ∷ v) → Equal u v
equal_uncons R {u} {v} e = then (back (rr [] u)) (then (equal_behind (R ∷ []) e) (rr [] v))
equal_uncons S {u} {v} e = then (back (sss [] u)) (then (equal_behind (S ∷ S ∷ []) e) (sss [] v))

padded_first : (s : Word) (a : Letter) {w : Word} → Padded (s ++ a ∷ []) w → (x : Word) × (v : Word) × Null x × (w ≡ x ++ a ∷ v)
padded_first [] a (letter {w = x} {z} _ (start n) m) = (x, z, n, refl)
padded_first (b ∷ s) a (letter {w} {z} _ p m) =
    let (x, v, n, e) = padded_first s a p in (x, v ++ b ∷ z, n, ap (λ (l : Word). l ++ b ∷ z) e ∙ append_assoc x (a ∷ v) (b ∷ z))

pub null_before : (w : Word) (a : Letter) (y : Word) → Reduced (a ∷ y) → Equal w (a ∷ y) → (x : Word) × (v : Word) × Null x × (w ≡ x ++ a ∷ v) × Equal v y
unfolding nf
null_before w a y h e =
    let left = nf_of_equal e ∙ nf_of_reduced (a ∷ y) h in
    let stack : arrived [] w ≡ reverse y ++ a ∷ [] = sym (reverse-reverse (arrived [] w)) ∙ ap reverse left ∙ reverse-cons a y in
    let (x, v, n, f) = padded_first (reverse y) a (subst (λ (s : Word). Padded s w) stack (padded_arrived w (start nil))) in
    (x, v, n, f, equal_uncons a (then (back (equal_before (a ∷ v) (null_equal n))) (then (equal_path (sym f)) e)))
