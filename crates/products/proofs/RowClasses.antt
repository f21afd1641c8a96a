-- The series that the rows of a target are about: those of row i at q lead from nothing to the target's first i letters and then q, one letter
-- after the other, each left behind while a state stands behind it.
--     reads_made, reads_append        what a series of the class makes, and that the class is kept where more leads on
--     reads_letter                    where the letter can stand before q, row i + 1 at q is row i at the letter and q
--     reads_complete                  every series that makes a reduced target, of one factor or more, is in its last row at nothing
--     row_least, row_reached          rows that are closed and attained hold the least weight of each class, up to the bound
--     rows_least                      so no series that reaches the target weighs less than the last row's entry at nothing, up to the bound
-- Assumes that the generators are reduced where the class is shown to hold all; and, where weights are spoken of, an exact table and that a
-- series weighs what its parts weigh together.
use mathlib.Core.Path.{◌≡◌, refl, sym, subst, ◌∙◌}
use mathlib.Core.Logic.{◌≢◌, ◌↔◌, inl, inr}
use mathlib.Core.List.{List, [], ◌∷◌, ◌++◌, append_assoc, append-nil, nil≢cons, append-ne-nil_of_right_ne-nil}
use Prim.Native.Nat.{ℕ, zero, suc, ◌+◌, ◌≤◌, ◌<◌}
use native.Mathlib.Omega.{arith}
use lib.ListN.{length, take, get_or, length-append}
use lib.Seq.{get_or_at}
use Rattle.words.specs.Word.{Letter, R, Word, Equal, then}
use Rattle.words.proofs.Reduced.{Reduced, reduced_tail}
use Rattle.words.proofs.NormalForm.{equal_path}
use Rattle.products.specs.Product.{Series, letters}
use Rattle.products.proofs.States.{State, nothing, suffix, Leads, A, series_append, state_tail, step_leads}
use Rattle.products.proofs.States.{ends_state, ends_not_empty, ends_leads, leads_append, leads_behind}
use Rattle.products.proofs.OneStep.{AllReduced, state_reduced}
use Rattle.products.proofs.FirstLetter.{FirstLetter, kept, ended, passed, first_letter, equal_reduced}
use Rattle.products.proofs.Halves.{same, shift_leads}
use Rattle.products.proofs.Exact.{ExactBy}
use Rattle.products.proofs.Rows.{FromRow, RowsClosed, RowsAttained, read_sound, chain_sound}

-- a is letter i of x
abbrev pub LetterAt : Word → ℕ → Letter → Type 0
LetterAt x i a = (i < length x) × (get_or x i R ≡ a)

module _ (gens : List Word) (x : Word) where
  -- In row i + 1 a series is one of row i, and its last factor reaches to q already; or one of row i leads to the letter and a state behind it,
  -- and the rest from there.
  pub data Reads : ℕ → Word → List ℕ → Type 0 where
    start : {q : Word} {r : List ℕ} → r ≢ [] → Leads gens [] r q → Reads zero q r
    read : {i : ℕ} {q : Word} {r : List ℕ} (a : Letter) → LetterAt x i a → State gens (a ∷ q) → Reads i (a ∷ q) r → Reads (suc i) q r
    chain : {i : ℕ} {v q : Word} {r s : List ℕ} (a : Letter) → LetterAt x i a → State gens (a ∷ v) → Reads i (a ∷ v) r
        → s ≢ [] → Leads gens v s q → Reads (suc i) q (r ++ s)

  pub reads_some : {i : ℕ} {q : Word} {r : List ℕ} → Reads i q r → r ≢ []
  reads_some (start ne l) = ne
  reads_some (read a at s d) = reads_some d
  reads_some (chain {r} a at s d ne l) = append-ne-nil_of_right_ne-nil r ne

  pub reads_series : {i : ℕ} {q : Word} {r : List ℕ} → Reads i q r → Series gens r
  reads_series (start ne l) = l.series
  reads_series (read a at s d) = reads_series d
  reads_series (chain {r} {s} a at t d ne l) = series_append gens r s (reads_series d) l.series

  pub reads_made : {i : ℕ} {q : Word} {r : List ℕ} → Reads i q r → Equal (letters gens r) (take i x ++ q)
  reads_made (start ne l) = l.equal
  reads_made (read {i} {q} {r} a at s d) = read_sound gens x i a q r at.0 at.1 (reads_made d)
  reads_made (chain {i} {v} {q} {r} {s} a at t d ne l) =
      chain_sound gens x (suc i) v q r s (read_sound gens x i a v r at.0 at.1 (reads_made d)) l

  pub reads_append : {i : ℕ} {q p : Word} {r s : List ℕ} → Reads i q r → s ≢ [] → Leads gens q s p → Reads i p (r ++ s)
  reads_append {r} (start ne l) some m = start (append-ne-nil_of_right_ne-nil r some) (leads_append gens l m)
  reads_append (read a at t d) some m = chain a at t d some m
  reads_append {s = s} (chain {r = r₁} {s = r₂} a at t d ne l) some m =
      rw (append_assoc r₁ r₂ s) (chain a at t d (append-ne-nil_of_right_ne-nil r₂ some) (leads_append gens l m))

  pub reads_letter : (i : ℕ) (a : Letter) (q : Word) (r : List ℕ) → LetterAt x i a → State gens (a ∷ q) → Reads (suc i) q r ↔ Reads i (a ∷ q) r
  reads_letter i a q r at t = (λ d. back d, λ d. read a at t d)
    where
      back : {r : List ℕ} → Reads (suc i) q r → Reads i (a ∷ q) r
      back {r} (read b at' t' d) = subst (λ (c : Letter). Reads i (c ∷ q) r) (sym at'.1 ∙ at.1) d
      back (chain {v} {r} b at' t' d ne l) =
          reads_append (subst (λ (c : Letter). Reads i (c ∷ v) r) (sym at'.1 ∙ at.1) d) ne (leads_behind gens (a ∷ []) l)

  module _ (all : AllReduced gens) where
    -- x is m and then y; a series in row i at z, and one that leads from there to y
    on_to_end : (m y : Word) (i : ℕ) → x ≡ m ++ y → length m ≡ i → Reduced y → (z : Word) (p s : List ℕ)
        → State gens z → Reads i z p → Leads gens z s y → Reads (length x) [] (p ++ s)
    on_to_end m [] i e k h z p s t d l =
        let read_all : i ≡ length x = rw (e, append-nil m) (sym k) in
        at_end s l (rw read_all at d)
      where
        at_end : (s : List ℕ) → Leads gens z s [] → Reads (length x) z p → Reads (length x) [] (p ++ s)
        at_end [] l d =
            let left : z ≡ [] = equal_reduced (state_reduced gens all t) tt (then (equal_path (sym (append-nil z))) l.equal) in
            rw (append-nil p) (rw left at d)
        at_end (j ∷ s) l d = reads_append d (λ e. nil≢cons (sym e)) l
    on_to_end m (a ∷ y) i e k h z p s t d l =
        next (λ z p s t d l. on_to_end (m ++ a ∷ []) y (suc i) (e ∙ sym (append_assoc m (a ∷ []) y)) longer (reduced_tail a y h) z p s t d l)
        (first_letter gens all (state_reduced gens all t) h l) t d
      where
        longer : length (m ++ a ∷ []) ≡ suc i
        longer = omega (arith, length-append m (a ∷ []))

        at : LetterAt x i a
        at = (rw (e, length-append m (a ∷ y)) (omega arith), rw e (get_or_at m a y R i k))

        next : {z : Word} {s : List ℕ}
            → ((z : Word) (p s : List ℕ) → State gens z → Reads (suc i) z p → Leads gens z s y → Reads (length x) [] (p ++ s))
            → FirstLetter gens z s a y → State gens z → Reads i z p → Reads (length x) [] (p ++ s)
        next {s = s} on (kept {z} l) t d = on z p s (state_tail gens t) (read a at t d) l
        next {s = s} on (ended f) t d =
            let st = ends_state gens f in
            let stay : Leads gens y [] y = record { series = tt; equal = equal_path (append-nil y) } in
            let d' = reads_append d (ends_not_empty gens f) (ends_leads gens f) in
            rw (append-nil (p ++ s)) at (on y (p ++ s) [] (state_tail gens st) (read a at st d') stay)
        next on (passed {z} {p = p₁} {r} f ne l) t d =
            let st = ends_state gens f in
            let d' = reads_append d (ends_not_empty gens f) (ends_leads gens f) in
            rw (append_assoc p p₁ r) at (on z (p ++ p₁) r (state_tail gens st) (read a at st d') ((shift_leads gens (same a) r).0 l))

    pub reads_complete : Reduced x → (r : List ℕ) → r ≢ [] → Series gens r → Equal (letters gens r) x → Reads (length x) [] r
    reads_complete h [] ne s e = absurd (ne refl)
    reads_complete h (j ∷ r) ne s e =
        on_to_end [] x 0 refl refl h _ (j ∷ []) r (suffix j [] s.0 refl) (start (λ f. nil≢cons (sym f)) (step_leads gens (A j s.0)))
        (record { series = s.1; equal = e })

module _ (gens : List Word)
    (weight : List ℕ → ℕ) (weight_append : (a b : List ℕ) → weight (a ++ b) ≡ weight a + weight b)
    (n : ℕ) (T : Word → Word → ℕ) (x : Word) (Row : ℕ → Word → ℕ) (exact : ExactBy gens weight n T) where
  pub row_least : RowsClosed gens n T x Row → {i : ℕ} {q : Word} {r : List ℕ} → State gens q → Reads gens x i q r → weight r ≤ n → Row i q ≤ weight r
  row_least rows {q} {r} t (start ne l) h = rw (rows.first q t) ((exact [] q nothing t).least r ne l h)
  row_least rows {q} t (read {i} a at s d) h =
      let k = row_least rows s d h in
      omega (arith, rows.read i a q at.0 at.1 s (omega arith))
  row_least rows {q} t (chain {i} {v} {r} {s} a at t' d ne l) h =
      let sum = weight_append r s in
      let inside = at.0 in
      let k = row_least rows t' d (omega arith) in
      let k' = rows.read i a v at.0 at.1 t' (omega arith) in
      let m = (exact v q (state_tail gens t') t).least s ne l (omega arith) in
      omega (arith, rows.F (suc i) v q (omega arith) (omega arith) (state_tail gens t') t (omega arith))

  -- an entry up to n is the weight of a series of its class
  pub row_reached : RowsAttained gens n T x Row → (i : ℕ) → i ≤ length x → (q : Word) → State gens q → Row i q ≤ n
      → (r : List ℕ) × Reads gens x i q r × (weight r ≡ Row i q)
  row_reached rows zero h q t k =
      let same = rows.first q t in
      let (r, ne, l, e) = (exact [] q nothing t).led (omega arith) in
      (r, start ne l, omega arith)
  row_reached rows (suc i) h q t k = next (λ p s m. row_reached rows i (omega arith) p s m) (rows.attained i a q h refl t k)
    where
      a : Letter
      a = get_or x i R

      next : ((p : Word) → State gens p → Row i p ≤ n → (r : List ℕ) × Reads gens x i p r × (weight r ≡ Row i p)) → FromRow gens T Row i a q
          → (r : List ℕ) × Reads gens x (suc i) q r × (weight r ≡ Row (suc i) q)
      next before (inl (s, e)) = let (r, d, w) = before (a ∷ q) s (omega arith) in (r, read a (h, refl) s d, omega arith)
      next before (inr (v, s, e)) =
          let (r, d, w) = before (a ∷ v) s (omega arith) in
          let (r', ne, l, w') = (exact v q (state_tail gens s) t).led (omega arith) in
          let sum = weight_append r r' in
          (r ++ r', chain a (h, refl) s d ne l, omega arith)

  pub rows_least : AllReduced gens → RowsClosed gens n T x Row → Reduced x
      → (r : List ℕ) → r ≢ [] → Series gens r → Equal (letters gens r) x → weight r ≤ n → Row (length x) [] ≤ weight r
  rows_least all rows h r ne s e k = row_least rows nothing (reads_complete gens x all h r ne s e) k
