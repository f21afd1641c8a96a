-- The laws of the normal form and of equality by the rules. Later layers cite these and never open `nf`.
--     nf_normal         the normal form is normal
--     nf_of_normal      a normal word is its own normal form
--     equal_nf          a word and its normal form are equal
--     nf_of_equal       equal words have the same normal form
--     equal_of_nf       words with the same normal form are equal
--     nf_length         the normal form is not longer than the word
--     equal_append      equality is a congruence for putting words one behind the other
-- Assumes nothing.
use mathlib.Core.Path.{◌≡◌, refl, sym, ap, subst, ◌∙◌}
use mathlib.Core.Logic.{◌↔◌}
use mathlib.Core.List.{[], ◌∷◌, ◌++◌, reverse, append_assoc, append-nil, reverse-cons, reverse-reverse}
use Prim.Native.Nat.{suc, ◌+◌, ◌≤◌}
use native.Mathlib.Omega.{arith}
use lib.ListN.{length, length-reverse}
use Rattle.words.specs.Word.{Letter, R, S, Word, Equal, rr, sss, none, back, then, Normal, arrive, arrived, nf}
use Rattle.words.proofs.Reduced.{Reduced, reduced_of_normal, normal_of_reduced, reduced_reverse, reduced_tail, reduced_take}

-- ---- equality

pub equal_path : {u v : Word} → u ≡ v → Equal u v
equal_path {u} e = subst (λ (l : Word). Equal u l) e none

-- a word with a part behind x, inside a longer word
inside : (p x f q : Word) → p ++ ((x ++ f) ++ q) ≡ (p ++ x) ++ (f ++ q)
inside p x f q = ap (λ (l : Word). p ++ l) (append_assoc x f q) ∙ sym (append_assoc p x (f ++ q))

-- the rules may be used inside a longer word
pub equal_inside : (p q : Word) {u v : Word} → Equal u v → Equal (p ++ (u ++ q)) (p ++ (v ++ q))
equal_inside p q (rr x y) = then (equal_path (inside p x _ q)) (then (rr (p ++ x) (y ++ q)) (equal_path (sym (inside p x y q))))
equal_inside p q (sss x y) = then (equal_path (inside p x _ q)) (then (sss (p ++ x) (y ++ q)) (equal_path (sym (inside p x y q))))
equal_inside p q none = none
equal_inside p q (back e) = back (equal_inside p q e)
equal_inside p q (then e f) = then (equal_inside p q e) (equal_inside p q f)

pub equal_behind : (p : Word) {u v : Word} → Equal u v → Equal (p ++ u) (p ++ v)
equal_behind p {u} {v} e =
    then (equal_path (ap (λ (l : Word). p ++ l) (sym (append-nil u))))
    (then (equal_inside p [] e) (equal_path (ap (λ (l : Word). p ++ l) (append-nil v))))

pub equal_before : (q : Word) {u v : Word} → Equal u v → Equal (u ++ q) (v ++ q)
equal_before q e = equal_inside [] q e

pub equal_append : {u u' v v' : Word} → Equal u u' → Equal v v' → Equal (u ++ v) (u' ++ v')
equal_append {u} {u'} {v} {v'} e f = then (equal_before v e) (equal_behind u' f)

-- ---- arrivals

pub arrived_append : (w x y : Word) → arrived w (x ++ y) ≡ arrived (arrived w x) y
arrived_append w [] y = refl
arrived_append w (a ∷ x) y = arrived_append (arrive a w) x y

arrive_reduced : (a : Letter) (w : Word) → Reduced w → Reduced (arrive a w)
arrive_reduced R [] h = tt
arrive_reduced R (R ∷ w) h = reduced_tail R w h
arrive_reduced R (S ∷ w) h = h
arrive_reduced S [] h = tt
arrive_reduced S (R ∷ w) h = h
arrive_reduced S (S ∷ []) h = tt
arrive_reduced S (S ∷ R ∷ w) h = h
arrive_reduced S (S ∷ S ∷ w) h = reduced_tail S w (reduced_tail S (S ∷ w) h)

pub arrived_reduced : (w x : Word) → Reduced w → Reduced (arrived w x)
arrived_reduced w [] h = h
arrived_reduced w (a ∷ x) h = arrived_reduced (arrive a w) x (arrive_reduced a w h)

arrive_length : (a : Letter) (w : Word) → length (arrive a w) ≤ suc (length w)
arrive_length R [] = omega arith
arrive_length R (R ∷ w) = omega arith
arrive_length R (S ∷ w) = omega arith
arrive_length S [] = omega arith
arrive_length S (R ∷ w) = omega arith
arrive_length S (S ∷ []) = omega arith
arrive_length S (S ∷ R ∷ w) = omega arith
arrive_length S (S ∷ S ∷ w) = omega arith

arrived_length : (w x : Word) → length (arrived w x) ≤ length w + length x
arrived_length w [] = omega arith
arrived_length w (a ∷ x) = omega (arith, arrived_length (arrive a w) x, arrive_length a w)

-- two R's, or three S's, that arrive at a reduced word leave it as it was
arrive_rr : (w : Word) → Reduced w → arrive R (arrive R w) ≡ w
arrive_rr [] h = refl
arrive_rr (R ∷ []) h = refl
arrive_rr (R ∷ R ∷ w) h = absurd h
arrive_rr (R ∷ S ∷ w) h = refl
arrive_rr (S ∷ w) h = refl

arrive_sss : (w : Word) → Reduced w → arrive S (arrive S (arrive S w)) ≡ w
arrive_sss [] h = refl
arrive_sss (R ∷ w) h = refl
arrive_sss (S ∷ []) h = refl
arrive_sss (S ∷ R ∷ w) h = refl
arrive_sss (S ∷ S ∷ []) h = refl
arrive_sss (S ∷ S ∷ R ∷ w) h = refl
arrive_sss (S ∷ S ∷ S ∷ w) h = absurd h

pub arrived_equal : (w : Word) → Reduced w → {u v : Word} → Equal u v → arrived w u ≡ arrived w v
arrived_equal w h (rr x y) =
    arrived_append w x (R ∷ R ∷ y) ∙ ap (λ (l : Word). arrived l y) (arrive_rr (arrived w x) (arrived_reduced w x h)) ∙ sym (arrived_append w x y)
arrived_equal w h (sss x y) =
    arrived_append w x (S ∷ S ∷ S ∷ y) ∙ ap (λ (l : Word). arrived l y) (arrive_sss (arrived w x) (arrived_reduced w x h)) ∙ sym (arrived_append w x y)
arrived_equal w h none = refl
arrived_equal w h (back e) = sym (arrived_equal w h e)
arrived_equal w h (then e f) = arrived_equal w h e ∙ arrived_equal w h f

-- a word, and then a letter: what stands back to front, and then the letter
pub reversed_cons : (a : Letter) (w x : Word) → reverse (a ∷ w) ++ x ≡ reverse w ++ a ∷ x
reversed_cons a w x = ap (λ (l : Word). l ++ x) (reverse-cons a w) ∙ append_assoc (reverse w) (a ∷ []) x

arrive_equal : (a : Letter) (w x : Word) → Equal (reverse w ++ a ∷ x) (reverse (arrive a w) ++ x)
arrive_equal R [] x = none
arrive_equal R (R ∷ w) x = then (equal_path (reversed_cons R w (R ∷ x))) (rr (reverse w) x)
arrive_equal R (S ∷ w) x = equal_path (sym (reversed_cons R (S ∷ w) x))
arrive_equal S [] x = none
arrive_equal S (R ∷ w) x = equal_path (sym (reversed_cons S (R ∷ w) x))
arrive_equal S (S ∷ []) x = none
arrive_equal S (S ∷ R ∷ w) x = equal_path (sym (reversed_cons S (S ∷ R ∷ w) x))
arrive_equal S (S ∷ S ∷ w) x = then (equal_path (reversed_cons S (S ∷ w) (S ∷ x) ∙ reversed_cons S w (S ∷ S ∷ x))) (sss (reverse w) x)

arrived_sound : (w x : Word) → Equal (reverse w ++ x) (reverse (arrived w x))
arrived_sound w [] = equal_path (append-nil (reverse w))
arrived_sound w (a ∷ x) = then (arrive_equal a w x) (arrived_sound (arrive a w) x)

-- a letter that arrives at w and makes a reduced word with it is put in front of w, since w stands back to front
arrive_puts : (a : Letter) (w : Word) → Reduced (a ∷ w) → arrive a w ≡ a ∷ w
arrive_puts R [] h = refl
arrive_puts R (R ∷ w) h = absurd h
arrive_puts R (S ∷ w) h = refl
arrive_puts S [] h = refl
arrive_puts S (R ∷ w) h = refl
arrive_puts S (S ∷ []) h = refl
arrive_puts S (S ∷ R ∷ w) h = refl
arrive_puts S (S ∷ S ∷ w) h = absurd h

arrived_puts : (w x : Word) → Reduced (reverse w ++ x) → arrived w x ≡ reverse (reverse w ++ x)
arrived_puts w [] h = sym (ap reverse (append-nil (reverse w)) ∙ reverse-reverse w)
arrived_puts w (a ∷ x) h =
    ap (λ (l : Word). arrived l x) (arrive_puts a w front) ∙ arrived_puts (a ∷ w) x (subst Reduced (sym (reversed_cons a w x)) h) ∙ ap reverse (reversed_cons a w x)
  where
    front : Reduced (a ∷ w)
    front =
        subst Reduced (reverse-reverse (a ∷ w))
        (reduced_reverse (reverse (a ∷ w)) (reduced_take (reverse (a ∷ w)) x (subst Reduced (sym (reversed_cons a w x)) h)))

-- ---- the normal form

pub nf_reduced : (w : Word) → Reduced (nf w)
unfolding nf
nf_reduced w = reduced_reverse (arrived [] w) (arrived_reduced [] w tt)

pub nf_of_reduced : (w : Word) → Reduced w → nf w ≡ w
unfolding nf
nf_of_reduced w h = ap reverse (arrived_puts [] w h) ∙ reverse-reverse w

-- the normal form is not longer than the word
pub nf_length : (w : Word) → length (nf w) ≤ length w
unfolding nf
nf_length w = omega (arith, length-reverse (arrived [] w), arrived_length [] w)

pub nf_normal : (w : Word) → Normal (nf w)
nf_normal w = normal_of_reduced (nf w) (nf_reduced w)

pub nf_of_normal : (w : Word) → Normal w → nf w ≡ w
nf_of_normal w n = nf_of_reduced w (reduced_of_normal w n)

pub equal_nf : (w : Word) → Equal w (nf w)
unfolding nf
equal_nf w = arrived_sound [] w

pub nf_of_equal : {u v : Word} → Equal u v → nf u ≡ nf v
unfolding nf
nf_of_equal e = ap reverse (arrived_equal [] tt e)

pub equal_of_nf : (u v : Word) → nf u ≡ nf v → Equal u v
equal_of_nf u v e = then (equal_nf u) (then (equal_path e) (back (equal_nf v)))

-- two words are equal by the rules exactly when their normal forms are the same
pub equal_iff_nf : (u v : Word) → Equal u v ↔ (nf u ≡ nf v)
equal_iff_nf u v = (nf_of_equal, equal_of_nf u v)
