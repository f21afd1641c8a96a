-- A run reads a word and then the generators of a series, letter by letter, and stops before a rest. The rest may be one of the word,
-- where the series is empty, or one of the last generator: what is said of a letter's place need not tell these apart.
--     run_cut                   where a letter that is read falls, as two runs
--     run_letters               the letters that are read, and the rest
--     run_of_ends, ends_of_run  what ends at a state is a run over letters that cancel
-- Assumes nothing; the generators are any words.
use mathlib.Core.Path.{◌≡◌, refl, sym, ap, ◌∙◌}
use mathlib.Core.List.{List, [], ◌∷◌, ◌++◌, append_assoc, append-nil, head-eq_of_cons-eq, tail-eq_of_cons-eq}
use Prim.Native.Nat.{ℕ}
use Rattle.words.specs.Word.{Letter, Word, Equal}
use Rattle.words.proofs.NormalForm.{equal_path}
use Rattle.products.specs.Product.{generator, Factor, Series, letters}
use Rattle.products.proofs.States.{Leads, Ends, leads_ends_append}

-- Where the letter a of two words p and w, one behind the other, falls that stands between x and y: inside p, or beyond it.
data Placed (p w x : Word) (a : Letter) (y : Word) : Type 0 where
  inside : (v : Word) → p ≡ x ++ a ∷ v → v ++ w ≡ y → Placed p w x a y
  beyond : (m : Word) → p ++ m ≡ x → w ≡ m ++ a ∷ y → Placed p w x a y

placed_cons : {p w x y : Word} {a b c : Letter} → b ≡ c → Placed p w x a y → Placed (b ∷ p) w (c ∷ x) a y
placed_cons e (inside v f g) = inside v (rw (e, f)) g
placed_cons e (beyond m f g) = beyond m (rw (e, f)) g

append_placed : (p w x : Word) (a : Letter) (y : Word) → p ++ w ≡ x ++ a ∷ y → Placed p w x a y
append_placed [] w x a y e = beyond x refl e
append_placed (b ∷ p) w [] a y e = inside p (rw (head-eq_of_cons-eq e)) (tail-eq_of_cons-eq e)
append_placed (b ∷ p) w (c ∷ x) a y e = placed_cons (head-eq_of_cons-eq e) (append_placed p w x a y (tail-eq_of_cons-eq e))

module _ (gens : List Word) where
  -- from p, over the generators of r, up to the rest q; the last index is the letters read
  pub data Run : Word → List ℕ → Word → Word → Type 0 where
    stop : {p q w : Word} → p ≡ w ++ q → Run p [] q w
    more : {p q w : Word} {r : List ℕ} (j : ℕ) → Factor gens j → Run (generator gens j) r q w → Run p (j ∷ r) q (p ++ w)

  -- the letter a, read between x and y, is the first of a rest
  pub record Cut (p : Word) (r : List ℕ) (q x : Word) (a : Letter) (y : Word) : Type 0 where
    pub first : List ℕ
    pub second : List ℕ
    pub rest : Word
    pub split : r ≡ first ++ second
    pub before : Run p first (a ∷ rest) x
    pub after : Run rest second q y

  pub run_cut : {p q w : Word} {r : List ℕ} (x : Word) (a : Letter) (y : Word) → Run p r q w → w ≡ x ++ a ∷ y → Cut p r q x a y
  run_cut {p} {q} x a y (stop g) e =
      record {
        first = [];
        second = [];
        rest = y ++ q;
        split = refl;
        before = stop (g ∙ ap (λ (l : Word). l ++ q) e ∙ append_assoc x (a ∷ y) q);
        after = stop refl;
      }
  run_cut {p} {q} x a y (more {w} {r} j f t) e = at_place (append_placed p w x a y e) (λ m k. run_cut m a y t k)
    where
      at_place : Placed p w x a y → ((m : Word) → w ≡ m ++ a ∷ y → Cut (generator gens j) r q m a y) → Cut p (j ∷ r) q x a y
      at_place (inside v g h) deeper =
          record {
            first = [];
            second = j ∷ r;
            rest = v;
            split = refl;
            before = stop g;
            after = rw h at (more {p = v} j f t);
          }
      at_place (beyond m g h) deeper =
          let c = deeper m h in
          record {
            first = j ∷ c.first;
            second = c.second;
            rest = c.rest;
            split = ap (λ (l : List ℕ). j ∷ l) c.split;
            before = rw g at (more {p = p} j f c.before);
            after = c.after;
          }

  pub run_series : {p q w : Word} {r : List ℕ} → Run p r q w → Series gens r
  run_series (stop e) = tt
  run_series (more j f t) = (f, run_series t)

  pub run_letters : {p q w : Word} {r : List ℕ} → Run p r q w → p ++ letters gens r ≡ w ++ q
  run_letters {p} (stop e) = append-nil p ∙ e
  run_letters {p} {q} (more {w} j f t) = ap (λ (l : Word). p ++ l) (run_letters t) ∙ sym (append_assoc p w q)

  -- all letters are read
  pub run_all : (p : Word) (r : List ℕ) → Series gens r → Run p r [] (p ++ letters gens r)
  run_all p [] s = stop (sym (append-nil (p ++ []) ∙ append-nil p))
  run_all p (j ∷ r) s = more j s.0 (run_all (generator gens j) r s.1)

  run_of_series : (u : Word) (front : List ℕ) (last : ℕ) (part q : Word)
      → Series gens front → Factor gens last → generator gens last ≡ part ++ q → Run u (front ++ last ∷ []) q (u ++ (letters gens front ++ part))
  run_of_series u [] last part q s f g = more last f (stop g)
  run_of_series u (j ∷ front) last part q s f g =
      rw (append_assoc (generator gens j) (letters gens front) part) (more j s.0 (run_of_series (generator gens j) front last part q s.1 f g))

  -- the run of what ends at q from u, begun at any word
  pub run_of_ends : (x : Word) {u q : Word} {r : List ℕ} (e : Ends gens u r q) → Run x r q (x ++ (letters gens e.front ++ e.part))
  run_of_ends x {u} {q} {r} e = rw e.split (run_of_series x e.front e.last e.part q e.series e.factor e.generates)

  ends_of_factor : (u : Word) (j : ℕ) {p q w : Word} {r : List ℕ}
      → Factor gens j → Run p r q w → generator gens j ≡ p → Equal (u ++ w) [] → Ends gens u (j ∷ r) q
  ends_of_factor u j {p} {q} {w} f (stop g) e n =
      record {
        front = [];
        last = j;
        part = w;
        split = refl;
        series = tt;
        factor = f;
        generates = e ∙ g;
        cancels = n;
      }
  ends_of_factor u j {p} {q} f (more {w} k h t) e n =
      leads_ends_append gens factor (ends_of_factor (u ++ p) k h t refl (rw (append_assoc u p w) n))
    where
      factor : Leads gens u (j ∷ []) (u ++ p)
      factor = record { series = (f, tt); equal = equal_path (ap (λ (l : Word). u ++ l) (append-nil (generator gens j) ∙ e)) }

  pub ends_of_run : {u q w : Word} {j : ℕ} {r : List ℕ} → Run u (j ∷ r) q w → Equal w [] → Ends gens u (j ∷ r) q
  ends_of_run {u} {j} (more k f t) n = ends_of_factor u j f t refl n
