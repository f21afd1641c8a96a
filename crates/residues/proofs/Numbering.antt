-- The numbers of the matrices modulo 7, up to sign.
--     there_are_168, numbering_rises  how many there are, and their order
--     agree-..                        being the same modulo 7, up to sign, is an equivalence, and a congruence for the product
--     Shows, shows_number             k is the number of m where the matrix of k agrees with m; no other number does
--     shows_times_letter              a letter behind a matrix, and behind its number
-- What is computed are three tests over all 168 quadruples. Assumes nothing.
use mathlib.Core.Bool.{Bool, true, false}
use mathlib.Core.Logic.{inl, inr}
use mathlib.Core.Path.{◌≡◌, refl, sym, ap, ap₂, ◌∙◌}
use mathlib.Core.List.{List, [], ◌∷◌, flat_map}
use Prim.Native.Nat.{ℕ, suc, ◌<◌}
use native.Mathlib.Nat.{not-suc-le-zero, le_of_suc-le-suc}
use lib.Dec.{T, ltb, eqb, ltb→lt, eqb→eq}
use lib.ListN.{length, get_or}
use Rattle.refusals.specs.Telling.{pick}
use Rattle.words.specs.Word.{Letter, R, S}
use Rattle.unimodular.specs.Matrix.{Matrix, unit, negated, times, UpToSign, matrix_of_letter}
use Rattle.unimodular.proofs.Product.{negated_negated, negated_times, times_negated}
use Rattle.residues.specs.Residues.{Quadruple, residues, matrix, Agree, before, smaller, quadruples, numbering, is_same, position, number_of, numbered, times_letter}
use Rattle.residues.proofs.Every.{both, both_left, both_right, every, at}
use Rattle.residues.proofs.Arithmetic.{quadruple, residues_times, residues_negated}

-- 02: "The 168 matrices modulo 7, up to sign"
pub there_are_168 : length numbering ≡ 168
unfolding numbering quadruples flat_map
there_are_168 = refl

-- each stands before the next
abbrev pub rises : List Quadruple → Bool
rises [] = true
rises (q ∷ []) = true
rises (p ∷ q ∷ qs) = both (before p q) (rises (q ∷ qs))

-- 02: "in rising order of (a, b, c, d)"
pub numbering_rises : T (rises numbering)
unfolding numbering quadruples flat_map
numbering_rises = tt

-- ---- the same modulo 7, up to sign

pub agree_refl : (m : Matrix) → Agree m m
agree_refl m = inl refl

pub agree_sign : (m n : Matrix) → UpToSign m n → Agree m n
agree_sign m n (inl e) = inl (ap residues e)
agree_sign m n (inr e) = inr (ap residues e)

pub agree_sym : (m n : Matrix) → Agree m n → Agree n m
agree_sym m n (inl e) = inl (sym e)
agree_sym m n (inr e) = inr (sym (residues_negated m (negated n) e ∙ ap residues (negated_negated n)))

pub agree_trans : (k m n : Matrix) → Agree k m → Agree m n → Agree k n
agree_trans k m n (inl e) (inl f) = inl (e ∙ f)
agree_trans k m n (inl e) (inr f) = inr (e ∙ f)
agree_trans k m n (inr e) (inl f) = inr (e ∙ residues_negated m n f)
agree_trans k m n (inr e) (inr f) = inl (e ∙ residues_negated m (negated n) f ∙ ap residues (negated_negated n))

pub agree_times : (k l m n : Matrix) → Agree k l → Agree m n → Agree (times k m) (times l n)
agree_times k l m n (inl e) (inl f) = inl (residues_times k l m n e f)
agree_times k l m n (inl e) (inr f) = inr (residues_times k l m (negated n) e f ∙ ap residues (times_negated l n))
agree_times k l m n (inr e) (inl f) = inr (residues_times k (negated l) m n e f ∙ ap residues (negated_times l n))
agree_times k l m n (inr e) (inr f) =
    inl
    (residues_times k (negated l) m (negated n) e f ∙ ap residues (negated_times l (negated n) ∙ ap negated (times_negated l n) ∙ negated_negated (times l n)))

-- ---- places

pub same_quadruple : (p q : Quadruple) → T (is_same p q) → p ≡ q
same_quadruple p q t = go (eqb p.a q.a) (eqb p.b q.b) (eqb p.c q.c) (eqb p.d q.d) refl refl refl refl t
  where
    equal : (m n : ℕ) {t : Bool} → eqb m n ≡ t → T t → m ≡ n
    equal m n e t = eqb→eq m n (rw e t)

    go : (s t u v : Bool) → eqb p.a q.a ≡ s → eqb p.b q.b ≡ t → eqb p.c q.c ≡ u → eqb p.d q.d ≡ v
        → T (pick s (pick t (pick u v false) false) false) → p ≡ q
    go true true true true e f g h x = quadruple (equal p.a q.a e tt) (equal p.b q.b f tt) (equal p.c q.c g tt) (equal p.d q.d h tt)
    go true true true false e f g h x = absurd x
    go true true false v e f g h x = absurd x
    go true false u v e f g h x = absurd x
    go false t u v e f g h x = absurd x

-- what is found stands there
position_found : (q : Quadruple) (l : List Quadruple) (d : Quadruple) → position q l < length l → get_or l (position q l) d ≡ q
position_found q [] d h = absurd (not-suc-le-zero h)
position_found q (p ∷ ps) d h = go (is_same q p) refl h (λ k. position_found q ps d k)
  where
    go : (t : Bool) → is_same q p ≡ t → pick t 0 (suc (position q ps)) < suc (length ps)
        → (position q ps < length ps → get_or ps (position q ps) d ≡ q) → get_or (p ∷ ps) (pick t 0 (suc (position q ps))) d ≡ q
    go true e h further = sym (same_quadruple q p (rw e tt))
    go false e h further = further (le_of_suc-le-suc h)

-- ---- what is computed: each kept quadruple, and its negation, has its own place, its entries are its residues, and a letter behind it leads to such a one

returns : ℕ → Quadruple → Bool
returns k q = both (is_same (residues (matrix q)) q) (both (eqb (number_of (matrix q)) k) (eqb (number_of (negated (matrix q))) k))

stays : Letter → ℕ → Quadruple → Bool
stays x k q = ltb (number_of (times (matrix q) (matrix_of_letter x))) 168

all_return : T (every returns 0 numbering)
unfolding returns number_of numbering quadruples flat_map
all_return = tt

all_stay : (x : Letter) → T (every (stays x) 0 numbering)
unfolding stays number_of numbering quadruples flat_map
all_stay R = tt
all_stay S = tt

module _ (k : ℕ) (small : k < 168) where
  kept : Quadruple
  kept = get_or numbering k (residues unit)

  returning : T (returns k kept)
  unfolding kept
  returning = at returns numbering all_return k (rw there_are_168 small) (residues unit)

  pub numbered_kept : residues (numbered k) ≡ get_or numbering k (residues unit)
  unfolding numbered returns kept
  numbered_kept = same_quadruple (residues (matrix kept)) kept (both_left (is_same (residues (matrix kept)) kept) (both (eqb (number_of (matrix kept)) k) (eqb (number_of (negated (matrix kept))) k)) returning)

  own : T (both (eqb (number_of (numbered k)) k) (eqb (number_of (negated (numbered k))) k))
  unfolding numbered returns kept
  own = both_right (is_same (residues (matrix kept)) kept) (both (eqb (number_of (matrix kept)) k) (eqb (number_of (negated (matrix kept))) k)) returning

  pub number_numbered : number_of (numbered k) ≡ k
  number_numbered = eqb→eq (number_of (numbered k)) k (both_left (eqb (number_of (numbered k)) k) (eqb (number_of (negated (numbered k))) k) own)

  pub number_negated : number_of (negated (numbered k)) ≡ k
  number_negated = eqb→eq (number_of (negated (numbered k))) k (both_right (eqb (number_of (numbered k)) k) (eqb (number_of (negated (numbered k))) k) own)

  pub times_letter_small : (x : Letter) → times_letter k x < 168
  unfolding times_letter numbered stays
  times_letter_small x =
      ltb→lt (number_of (times (numbered k) (matrix_of_letter x))) 168 (at (stays x) numbering (all_stay x) k (rw there_are_168 small) (residues unit))

-- ---- k is the number of m

pub record Shows (m : Matrix) (k : ℕ) : Type 0 where
  pub small : k < 168
  pub agrees : Agree m (numbered k)

-- a number goes by residues alone
pub number_same : (m n : Matrix) → residues m ≡ residues n → number_of m ≡ number_of n
unfolding number_of
number_same m n e = ap₂ (λ (p q : Quadruple). position (smaller p q) numbering) e (residues_negated m n e)

pub shows_number : {m : Matrix} {k : ℕ} → Shows m k → number_of m ≡ k
shows_number {m} {k} s = go s.agrees
  where
    go : Agree m (numbered k) → number_of m ≡ k
    go (inl e) = number_same m (numbered k) e ∙ number_numbered k s.small
    go (inr e) = number_same m (negated (numbered k)) e ∙ number_negated k s.small

number_found : (m : Matrix) → number_of m < 168 → get_or numbering (number_of m) (residues unit) ≡ smaller (residues m) (residues (negated m))
unfolding number_of
number_found m small = position_found (smaller (residues m) (residues (negated m))) numbering (residues unit) (rw there_are_168 small)

-- a matrix that has a number is the one of that number
pub number_shows : (m : Matrix) → number_of m < 168 → Shows m (number_of m)
number_shows m small =
    record { small = small; agrees = go (before (residues (negated m)) (residues m)) (numbered_kept (number_of m) small ∙ number_found m small) }
  where
    go : (t : Bool) → residues (numbered (number_of m)) ≡ pick t (residues (negated m)) (residues m) → Agree m (numbered (number_of m))
    go true e = inr (sym (residues_negated (numbered (number_of m)) (negated m) e ∙ ap residues (negated_negated m)))
    go false e = inl (sym e)

pub shows_agree : {n : Matrix} {k : ℕ} (m : Matrix) → Agree m n → Shows n k → Shows m k
shows_agree {n} {k} m a s = record { small = s.small; agrees = agree_trans m n (numbered k) a s.agrees }

pub shows_times_letter : (m : Matrix) (k : ℕ) (x : Letter) → Shows m k → Shows (times m (matrix_of_letter x)) (times_letter k x)
unfolding times_letter
shows_times_letter m k x s =
    shows_agree (times m (matrix_of_letter x)) (agree_times m (numbered k) (matrix_of_letter x) (matrix_of_letter x) s.agrees (agree_refl (matrix_of_letter x)))
    (number_shows (times (numbered k) (matrix_of_letter x)) (times_letter_small k s.small x))
