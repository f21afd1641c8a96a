-- Where the first letter of a reduced word comes from that a series leads to.
-- Assumes that the generators are reduced.
use mathlib.Core.Path.{◌≡◌, sym, ◌∙◌}
use mathlib.Core.Logic.{◌≢◌}
use mathlib.Core.List.{List, [], ◌∷◌, ◌++◌, append-nil, nil≢cons}
use Prim.Native.Nat.{ℕ}
use Rattle.words.specs.Word.{Letter, Word, Equal, then}
use Rattle.words.proofs.Reduced.{Reduced, reduced_tail}
use Rattle.words.proofs.NormalForm.{equal_path, nf_of_equal, nf_of_reduced}
use Rattle.products.proofs.Null.{Null, null_equal, null_front, null_before}
use Rattle.products.proofs.States.{Leads, Ends, state_tail, ends_state, leads_behind}
use Rattle.products.proofs.Runs.{Run, stop, more, run_cut, run_all, run_series, run_letters, ends_of_run}
use Rattle.products.proofs.OneStep.{AllReduced, state_reduced}

-- reduced words that are equal are the same
pub equal_reduced : {u v : Word} → Reduced u → Reduced v → Equal u v → u ≡ v
equal_reduced {u} {v} h k e = sym (nf_of_reduced u h) ∙ nf_of_equal e ∙ nf_of_reduced v k

module _ (gens : List Word) where
  -- r leads from u to a y. The letter a is u's own first; or r ends at a y; or a part of r ends at a state that begins with a, and the rest leads on.
  pub data FirstLetter : Word → List ℕ → Letter → Word → Type 0 where
    kept : {a : Letter} {z y : Word} {r : List ℕ} → Leads gens z r y → FirstLetter (a ∷ z) r a y
    ended : {a : Letter} {u y : Word} {r : List ℕ} → Ends gens u r (a ∷ y) → FirstLetter u r a y
    passed : {a : Letter} {u z y : Word} {p r : List ℕ} → Ends gens u p (a ∷ z) → r ≢ [] → Leads gens (a ∷ z) r (a ∷ y) → FirstLetter u (p ++ r) a y

  leads_of_run : {p w y : Word} {r : List ℕ} → Run gens p r [] w → Equal w y → Leads gens p r y
  leads_of_run {w} t e = record { series = run_series gens t; equal = then (equal_path (run_letters gens t ∙ append-nil w)) e }

  module _ (all : AllReduced gens) where
    -- the letter a is read behind the null word x, and w behind it
    first_of_runs : {a : Letter} {u z y x w : Word} {p s : List ℕ} → Reduced u → Reduced (a ∷ y)
        → Run gens u p (a ∷ z) x → Null x → Run gens z s [] w → Equal w y → FirstLetter u (p ++ s) a y
    first_of_runs {a} {u} {z} {x} h k (stop e) n t f = rw (null_front [] u x (a ∷ z) h n e) (kept (leads_of_run t f))
    first_of_runs {a} {u} {z} {y} {w} {p} h k (more j g i) n (stop e) f =
        let d : Ends gens u p (a ∷ z) = ends_of_run gens (more j g i) (null_equal n) in
        let same = equal_reduced (state_reduced gens all (state_tail gens (ends_state gens d))) (reduced_tail a y k) (then (equal_path (e ∙ append-nil w)) f) in
        rw (append-nil p, ← same) (ended d)
    first_of_runs {a} h k (more j g i) n (more j' g' i') f =
        passed (ends_of_run gens (more j g i) (null_equal n)) (λ e. nil≢cons (sym e)) (leads_behind gens (a ∷ []) (leads_of_run (more j' g' i') f))

    pub first_letter : {a : Letter} {u y : Word} {r : List ℕ} → Reduced u → Reduced (a ∷ y) → Leads gens u r (a ∷ y) → FirstLetter u r a y
    first_letter {a} {u} {y} {r} h k l =
        let (x, w, n, e, f) = null_before _ a y k l.equal in
        let c = run_cut gens x a w (run_all gens u r l.series) e in
        rw c.split (first_of_runs h k c.before n c.after f)
