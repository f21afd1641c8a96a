-- `Normal` by clauses: a normal word as a type that computes at its first letters. What is said of a part of a normal word, and
-- of one read back to front, is said of `Normal`, where it is plain; what goes by letters is said of `Reduced`.
-- Assumes nothing.
use mathlib.Core.Path.{refl, sym, ap, subst, ◌∙◌}
use mathlib.Core.List.{[], ◌∷◌, ◌++◌, reverse, append_assoc, reverse-append, reverse-reverse}
use Rattle.words.specs.Word.{Letter, R, S, Word, Holds, RR, SSS, Normal}

abbrev pub Reduced : Word → Type 0
Reduced [] = Unit {0}
Reduced (R ∷ []) = Unit {0}
Reduced (R ∷ R ∷ w) = ⊥
Reduced (R ∷ S ∷ w) = Reduced (S ∷ w)
Reduced (S ∷ []) = Unit {0}
Reduced (S ∷ R ∷ w) = Reduced (R ∷ w)
Reduced (S ∷ S ∷ []) = Unit {0}
Reduced (S ∷ S ∷ R ∷ w) = Reduced (R ∷ w)
Reduced (S ∷ S ∷ S ∷ w) = ⊥

pub reduced_tail : (a : Letter) (w : Word) → Reduced (a ∷ w) → Reduced w
reduced_tail R [] h = tt
reduced_tail R (R ∷ w) h = absurd h
reduced_tail R (S ∷ w) h = h
reduced_tail S [] h = tt
reduced_tail S (R ∷ w) h = h
reduced_tail S (S ∷ []) h = tt
reduced_tail S (S ∷ R ∷ w) h = h
reduced_tail S (S ∷ S ∷ w) h = absurd h

pub reduced_drop : (x y : Word) → Reduced (x ++ y) → Reduced y
reduced_drop [] y h = h
reduced_drop (a ∷ x) y h = reduced_drop x y (reduced_tail a (x ++ y) h)

pub normal_of_reduced : (w : Word) → Reduced w → Normal w
normal_of_reduced w h = (
  (λ k. reduced_drop k.0 (RR ++ k.1) (subst Reduced k.2 h)),
  (λ k. reduced_drop k.0 (SSS ++ k.1) (subst Reduced k.2 h)),
)

holds_tail : (a : Letter) (w f : Word) → Holds w f → Holds (a ∷ w) f
holds_tail a w f k = (a ∷ k.0, k.1, ap (λ (l : Word). a ∷ l) k.2)

pub normal_tail : (a : Letter) (w : Word) → Normal (a ∷ w) → Normal w
normal_tail a w n = ((λ k. n.0 (holds_tail a w RR k)), (λ k. n.1 (holds_tail a w SSS k)))

pub reduced_of_normal : (w : Word) → Normal w → Reduced w
reduced_of_normal [] n = tt
reduced_of_normal (R ∷ []) n = tt
reduced_of_normal (R ∷ R ∷ w) n = n.0 ([], w, refl)
reduced_of_normal (R ∷ S ∷ w) n = reduced_of_normal (S ∷ w) (normal_tail R (S ∷ w) n)
reduced_of_normal (S ∷ []) n = tt
reduced_of_normal (S ∷ R ∷ w) n = reduced_of_normal (R ∷ w) (normal_tail S (R ∷ w) n)
reduced_of_normal (S ∷ S ∷ []) n = tt
reduced_of_normal (S ∷ S ∷ R ∷ w) n = reduced_of_normal (R ∷ w) (normal_tail S (R ∷ w) (normal_tail S (S ∷ R ∷ w) n))
reduced_of_normal (S ∷ S ∷ S ∷ w) n = n.1 ([], w, refl)

-- what a part holds, the whole holds
pub holds_part : (x w y f : Word) → Holds w f → Holds (x ++ (w ++ y)) f
holds_part x w y f k = (
  x ++ k.0,
  k.1 ++ y,
  rw k.2 (ap (λ (l : Word). x ++ l) (append_assoc k.0 (f ++ k.1) y ∙ ap (λ (l : Word). k.0 ++ l) (append_assoc f k.1 y)) ∙ sym (append_assoc x k.0 (f ++ (k.1 ++ y)))),
)

pub normal_part : (x w y : Word) → Normal (x ++ (w ++ y)) → Normal w
normal_part x w y n = ((λ k. n.0 (holds_part x w y RR k)), (λ k. n.1 (holds_part x w y SSS k)))

holds_reverse : (w f : Word) → Holds (reverse w) f → Holds w (reverse f)
holds_reverse w f k = (
  reverse k.1,
  reverse k.0,
  sym (reverse-reverse w) ∙ ap reverse k.2 ∙ reverse-append k.0 (f ++ k.1) ∙ ap (λ (l : Word). l ++ reverse k.0) (reverse-append f k.1) ∙ append_assoc (reverse k.1) (reverse f) (reverse k.0),
)

-- a normal word read back to front is normal: RR and SSS read the same both ways
pub normal_reverse : (w : Word) → Normal w → Normal (reverse w)
normal_reverse w n = ((λ k. n.0 (holds_reverse w RR k)), (λ k. n.1 (holds_reverse w SSS k)))

pub reduced_reverse : (w : Word) → Reduced w → Reduced (reverse w)
reduced_reverse w h = reduced_of_normal (reverse w) (normal_reverse w (normal_of_reduced w h))

pub reduced_take : (x y : Word) → Reduced (x ++ y) → Reduced x
reduced_take x y h = reduced_of_normal x (normal_part [] x y (normal_of_reduced (x ++ y) h))
