-- Series of numbers, whatever the numbers name.
--     spelled_append, spelled_snoc, each_append   one series behind the other
--     spelled_map, each_map                       a series under other numbers
--     spelled_on, each_on                         what holds of each number holds of the series
-- Assumes nothing.
use mathlib.Core.Path.{◌≡◌, refl, sym, ap, ◌∙◌}
use mathlib.Core.List.{List, [], ◌∷◌, ◌++◌, map, append_assoc, append-nil}
use Prim.Native.Nat.{ℕ}
use Rattle.words.specs.Word.{Word}
use Rattle.products.specs.Product.{Each, spelled}

module _ (w : ℕ → Word) where
  pub spelled_append : (a b : List ℕ) → spelled w (a ++ b) ≡ spelled w a ++ spelled w b
  spelled_append [] b = refl
  spelled_append (i ∷ a) b = ap (λ (l : Word). w i ++ l) (spelled_append a b) ∙ sym (append_assoc (w i) (spelled w a) (spelled w b))

  pub spelled_snoc : (a : List ℕ) (i : ℕ) → spelled w (a ++ i ∷ []) ≡ spelled w a ++ w i
  spelled_snoc a i = spelled_append a (i ∷ []) ∙ ap (λ (l : Word). spelled w a ++ l) (append-nil (w i))

  pub spelled_map : (f : ℕ → ℕ) (r : List ℕ) → spelled w (map f r) ≡ spelled (λ i. w (f i)) r
  spelled_map f [] = refl
  spelled_map f (i ∷ r) = ap (λ (l : Word). w (f i) ++ l) (spelled_map f r)

module _ (P : ℕ → Type 0) where
  pub each_append : (a b : List ℕ) → Each P a → Each P b → Each P (a ++ b)
  each_append [] b h k = k
  each_append (i ∷ a) b h k = (h.0, each_append a b h.1 k)

  pub each_map : (f : ℕ → ℕ) (r : List ℕ) → Each (λ i. P (f i)) r → Each P (map f r)
  each_map f [] h = tt
  each_map f (i ∷ r) h = (h.0, each_map f r h.1)

  pub each_on : {Q : ℕ → Type 0} → ((i : ℕ) → P i → Q i) → (r : List ℕ) → Each P r → Each Q r
  each_on on [] h = tt
  each_on on (i ∷ r) h = (on i h.0, each_on on r h.1)

  pub spelled_on : {w v : ℕ → Word} → ((i : ℕ) → P i → w i ≡ v i) → (r : List ℕ) → Each P r → spelled w r ≡ spelled v r
  spelled_on on [] h = refl
  spelled_on on (i ∷ r) h = rw (on i h.0, spelled_on on r h.1)
