-- What it is that a series ends at a state, and the six rules by which it does. States and `Leads` are definitions of specs/State.antt.
--     step_leads, step_ends    each rule keeps `Leads` and keeps `Ends`
--     ends_leads               what ends at a state leads there
--     leads_ends_nothing       where nothing is left the two are the same
-- Assumes nothing; the generators are any words.
use mathlib.Core.Path.{◌≡◌, refl, sym, ap, ◌∙◌}
use mathlib.Core.Logic.{◌≢◌}
use mathlib.Core.List.{List, [], ◌∷◌, ◌++◌, append_assoc, append-nil, nil≢cons, concat-ne-nil}
use Prim.Native.Nat.{ℕ}
use Rattle.words.specs.Word.{Letter, R, S, Word, Equal, rr, sss, none, then}
use Rattle.words.proofs.NormalForm.{equal_path, equal_inside, equal_behind, equal_before}
use Rattle.products.specs.Product.{generator, Factor, Series, letters}
use Rattle.products.proofs.Series.{each_append, spelled_append, spelled_snoc}
pub use Rattle.products.specs.State.{State, nothing, suffix, Leads}

-- the word does not begin with S
abbrev pub NotS : Word → Type 0
NotS [] = Unit {0}
NotS (R ∷ x) = Unit {0}
NotS (S ∷ x) = ⊥

-- a series that is not empty, by its last number
pub series_last : (r : List ℕ) → r ≢ [] → (front : List ℕ) × (last : ℕ) × (r ≡ front ++ last ∷ [])
series_last [] h = absurd (h refl)
series_last (j ∷ []) h = ([], j, refl)
series_last (j ∷ k ∷ r) h = let (front, last, e) = series_last (k ∷ r) (λ e. nil≢cons (sym e)) in (j ∷ front, last, ap (λ (l : List ℕ). j ∷ l) e)

module _ (gens : List Word) where
  pub letters_append : (a b : List ℕ) → letters gens (a ++ b) ≡ letters gens a ++ letters gens b
  letters_append a b = spelled_append (generator gens) a b

  pub series_append : (a b : List ℕ) → Series gens a → Series gens b → Series gens (a ++ b)
  series_append a b h k = each_append (Factor gens) a b h k

  pub series_front : (a b : List ℕ) → Series gens (a ++ b) → Series gens a
  series_front [] b h = tt
  series_front (j ∷ a) b h = (h.0, series_front a b h.1)

  pub series_behind : (a b : List ℕ) → Series gens (a ++ b) → Series gens b
  series_behind [] b h = h
  series_behind (j ∷ a) b h = series_behind a b h.1

  pub state_tail : {a : Letter} {q : Word} → State gens (a ∷ q) → State gens q
  state_tail {a} {q} (suffix j p f g) = suffix j (p ++ a ∷ []) f (g ∙ sym (append_assoc p (a ∷ []) q))

  -- r ends at q from u: r is a series with one more number `last` behind it, that generator is `part ++ q`, and all before q cancels
  pub record Ends (u : Word) (r : List ℕ) (q : Word) : Type 0 where
    pub front : List ℕ
    pub last : ℕ
    pub part : Word
    pub split : r ≡ front ++ last ∷ []
    pub series : Series gens front
    pub factor : Factor gens last
    pub generates : generator gens last ≡ part ++ q
    pub cancels : Equal (u ++ (letters gens front ++ part)) []

  -- One rule, with what it asks of smaller instances as a parameter. Each word in the place of a state is a state.
  pub data Step (P : Word → List ℕ → Word → Type 0) : Word → List ℕ → Word → Type 0 where
    A : (j : ℕ) → Factor gens j → Step P [] (j ∷ []) (generator gens j)
    B : {x q : Word} {r : List ℕ} → State gens (R ∷ q) → P x r (R ∷ q) → Step P (R ∷ x) r q
    C : {x q : Word} {r : List ℕ} → State gens (S ∷ q) → P x r (S ∷ q) → Step P (S ∷ S ∷ x) r q
    D : {x q : Word} {r : List ℕ} → NotS x → State gens (S ∷ S ∷ q) → P x r (S ∷ S ∷ q) → Step P (S ∷ x) r q
    E : {x w q : Word} {a b : List ℕ} → NotS x → State gens (S ∷ w) → State gens (S ∷ q) → P x a (S ∷ w) → P w b (S ∷ q) → Step P (S ∷ x) (a ++ b) q
    F : {u v q : Word} {a b : List ℕ} → State gens v → State gens q → P u a v → P v b q → Step P u (a ++ b) q

  pub ends_state : {u q : Word} {r : List ℕ} → Ends u r q → State gens q
  ends_state e = suffix e.last e.part e.factor e.generates

  pub ends_not_empty : {u q : Word} {r : List ℕ} → Ends u r q → r ≢ []
  ends_not_empty e h = concat-ne-nil e.last e.front (sym e.split ∙ h)

  pub ends_leads : {u q : Word} {r : List ℕ} → Ends u r q → Leads gens u r q
  ends_leads {u} {q} {r} e =
      record {
        series = rw e.split (series_append e.front (e.last ∷ []) e.series (e.factor, tt));
        equal = then (equal_path whole) (equal_before q e.cancels);
      }
    where
      whole : u ++ letters gens r ≡ (u ++ (letters gens e.front ++ e.part)) ++ q
      whole = rw (e.split, spelled_snoc (generator gens) e.front e.last, e.generates) (simp append_assoc)

  pub leads_ends_nothing : {u : Word} {r : List ℕ} → Leads gens u r [] → r ≢ [] → Ends u r []
  leads_ends_nothing {u} {r} l h =
      let (front, last, e) = series_last r h in
      let s : Series gens (front ++ last ∷ []) = rw e at l.series in
      record {
        front = front;
        last = last;
        part = generator gens last;
        split = e;
        series = series_front front (last ∷ []) s;
        factor = (series_behind front (last ∷ []) s).0;
        generates = sym (append-nil (generator gens last));
        cancels = rw (e, spelled_snoc (generator gens) front last) at l.equal;
      }

  pub leads_append : {u v w : Word} {a b : List ℕ} → Leads gens u a v → Leads gens v b w → Leads gens u (a ++ b) w
  leads_append {u} {v} {w} {a} {b} l m =
      record {
        series = series_append a b l.series m.series;
        equal =
            rw (letters_append a b, ← append_assoc u (letters gens a) (letters gens b))
            (then (equal_before (letters gens b) l.equal) m.equal);
      }

  pub leads_behind : (p : Word) {u v : Word} {r : List ℕ} → Leads gens u r v → Leads gens (p ++ u) r (p ++ v)
  leads_behind p {u} {v} {r} l = record { series = l.series; equal = rw (append_assoc p u (letters gens r)) (equal_behind p l.equal) }

  -- what is put in front of u cancels with the letters in front of q
  pub leads_cancel : (p c : Word) {u q : Word} {r : List ℕ} → Equal (p ++ c) [] → Leads gens u r (c ++ q) → Leads gens (p ++ u) r q
  leads_cancel p c {u} {q} {r} n l =
      record { series = l.series; equal = then (leads_behind p l).equal (rw (append_assoc p c q) at (equal_before q n)) }

  ends_cancel : (p c : Word) {u q : Word} {r : List ℕ} → Equal (p ++ c) [] → Ends u r (c ++ q) → Ends (p ++ u) r q
  ends_cancel p c {u} {q} {r} n e =
      record {
        front = e.front;
        last = e.last;
        part = e.part ++ c;
        split = e.split;
        series = e.series;
        factor = e.factor;
        generates = e.generates ∙ sym (append_assoc e.part c q);
        cancels = then (equal_path regrouped) (then (equal_inside p c e.cancels) n);
      }
    where
      regrouped : (p ++ u) ++ (letters gens e.front ++ (e.part ++ c)) ≡ p ++ ((u ++ (letters gens e.front ++ e.part)) ++ c)
      regrouped = simp append_assoc

  pub leads_ends_append : {u v q : Word} {a b : List ℕ} → Leads gens u a v → Ends v b q → Ends u (a ++ b) q
  leads_ends_append {u} {v} {q} {a} {b} l e =
      record {
        front = a ++ e.front;
        last = e.last;
        part = e.part;
        split = ap (λ (r : List ℕ). a ++ r) e.split ∙ sym (append_assoc a e.front (e.last ∷ []));
        series = series_append a e.front l.series e.series;
        factor = e.factor;
        generates = e.generates;
        cancels = then (equal_path regrouped) (then (equal_before (letters gens e.front ++ e.part) l.equal) e.cancels);
      }
    where
      regrouped : u ++ (letters gens (a ++ e.front) ++ e.part) ≡ (u ++ letters gens a) ++ (letters gens e.front ++ e.part)
      regrouped = rw (letters_append a e.front) (simp append_assoc)

  pub step_leads : {u q : Word} {r : List ℕ} → Step (Leads gens) u r q → Leads gens u r q
  step_leads (A j f) = record { series = (f, tt); equal = equal_path (append-nil (generator gens j)) }
  step_leads (B s l) = leads_cancel (R ∷ []) (R ∷ []) (rr [] []) l
  step_leads (C s l) = leads_cancel (S ∷ S ∷ []) (S ∷ []) (sss [] []) l
  step_leads (D n s l) = leads_cancel (S ∷ []) (S ∷ S ∷ []) (sss [] []) l
  step_leads (E n s t l m) = leads_append (leads_behind (S ∷ []) l) (leads_cancel (S ∷ S ∷ []) (S ∷ []) (sss [] []) m)
  step_leads (F s t l m) = leads_append l m

  pub step_ends : {u q : Word} {r : List ℕ} → Step Ends u r q → Ends u r q
  step_ends (A j f) =
      record {
        front = [];
        last = j;
        part = [];
        split = refl;
        series = tt;
        factor = f;
        generates = refl;
        cancels = none;
      }
  step_ends (B s e) = ends_cancel (R ∷ []) (R ∷ []) (rr [] []) e
  step_ends (C s e) = ends_cancel (S ∷ S ∷ []) (S ∷ []) (sss [] []) e
  step_ends (D n s e) = ends_cancel (S ∷ []) (S ∷ S ∷ []) (sss [] []) e
  step_ends (E n s t e f) = leads_ends_append (leads_behind (S ∷ []) (ends_leads e)) (ends_cancel (S ∷ S ∷ []) (S ∷ []) (sss [] []) f)
  step_ends (F s t e f) = leads_ends_append (ends_leads e) f
