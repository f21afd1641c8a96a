-- Each rule keeps that a series leads from word to word, whatever letter comes next. Assumes nothing; the generators are any words.
use mathlib.Core.Path.{◌≡◌, subst}
use mathlib.Core.List.{List, [], ◌∷◌, ◌++◌}
use Prim.Native.Nat.{ℕ}
use Rattle.words.specs.Word.{R, S, Word, Equal, rr, sss, then}
use Rattle.products.specs.State.{Leads}
use Rattle.products.proofs.States.{leads_append, leads_behind}

module _ (gens : List Word) where
  leads_to : {u v v' : Word} {r : List ℕ} → Equal v v' → Leads gens u r v → Leads gens u r v'
  leads_to same l = record { series = l.series; equal = then l.equal same }

  pub leads_as : {u u' v v' : Word} {r : List ℕ} → u ≡ u' → v ≡ v' → Leads gens u r v → Leads gens u' r v'
  leads_as {u} {u'} {v} {v'} {r} from to l = subst (λ (x : Word). Leads gens x r v') from (subst (λ (x : Word). Leads gens u r x) to l)

  pub leads_b : {x q : Word} {r : List ℕ} → Leads gens x r (R ∷ q) → Leads gens (R ∷ x) r q
  leads_b {x} {q} l = leads_to (rr [] q) (leads_behind gens (R ∷ []) l)

  pub leads_c : {x q : Word} {r : List ℕ} → Leads gens x r (S ∷ q) → Leads gens (S ∷ S ∷ x) r q
  leads_c {x} {q} l = leads_to (sss [] q) (leads_behind gens (S ∷ S ∷ []) l)

  pub leads_d : {x q : Word} {r : List ℕ} → Leads gens x r (S ∷ S ∷ q) → Leads gens (S ∷ x) r q
  leads_d {x} {q} l = leads_to (sss [] q) (leads_behind gens (S ∷ []) l)

  pub leads_e : {x v q : Word} {a b : List ℕ} → Leads gens x a (S ∷ v) → Leads gens v b (S ∷ q) → Leads gens (S ∷ x) (a ++ b) q
  leads_e l m = leads_append gens (leads_behind gens (S ∷ []) l) (leads_c m)
