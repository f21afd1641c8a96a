-- The account of a reduction, for words of any length.
--     accounts_unique   no other two numbers satisfy the two equations
--     erases_accounts   they hold of every way to erase one pair or triple after the other
--     nf_erased         pairs and triples can be erased until the normal form is left
--     nf_accounts       so there are two such numbers for a word and its normal form
--     erased_alike      every way to erase that ends in the normal form erases as many of each
-- Assumes nothing.
use mathlib.Core.Path.{◌≡◌, refl, sym, ap, subst, ◌∙◌}
use mathlib.Core.List.{[], ◌∷◌, ◌++◌, reverse, append-nil, reverse-cons}
use Prim.Native.Nat.{ℕ, suc, ◌+◌}
use native.Mathlib.Omega.{arith}
use lib.ListN.{length-append}
use Rattle.words.specs.Word.{Letter, R, S, Word, arrive, arrived, nf}
use Rattle.words.specs.Account.{rs, Accounts, Erases, nothing, pair, triple}
use Rattle.words.specs.Arrival.{ending_of}
use Rattle.words.specs.declared.Ending.TheVariants.{R as One-R}
use Rattle.words.proofs.NormalForm.{reversed_cons}

-- ---- the R's of a word

pub rs_append : (x y : Word) → rs (x ++ y) ≡ rs x + rs y
rs_append [] y = omega arith
rs_append (R ∷ x) y = omega (arith, rs_append x y)
rs_append (S ∷ x) y = omega (arith, rs_append x y)

pub rs_reverse : (w : Word) → rs (reverse w) ≡ rs w
rs_reverse [] = refl
rs_reverse (R ∷ w) = omega (arith, ap rs (reverse-cons R w), rs_append (reverse w) (R ∷ []), rs_reverse w)
rs_reverse (S ∷ w) = omega (arith, ap rs (reverse-cons S w), rs_append (reverse w) (S ∷ []), rs_reverse w)

-- an R that meets an R goes with it
pub rs_cancel : (w : Word) → One-R ≡ ending_of w → rs w ≡ rs (arrive R w) + 1
rs_cancel [] e = absurd (cc)
rs_cancel (R ∷ w) e = omega arith
rs_cancel (S ∷ []) e = absurd (cc)
rs_cancel (S ∷ R ∷ w) e = absurd (cc)
rs_cancel (S ∷ S ∷ w) e = absurd (cc)

-- another one stays
pub rs_stay : (w : Word) → (One-R ≡ ending_of w → ⊥) → rs (arrive R w) ≡ rs w + 1
rs_stay [] other = omega arith
rs_stay (R ∷ w) other = absurd (other refl)
rs_stay (S ∷ w) other = omega arith

-- an S takes no R along
pub rs_of_s : (w : Word) → rs (arrive S w) ≡ rs w
rs_of_s [] = refl
rs_of_s (R ∷ w) = refl
rs_of_s (S ∷ []) = refl
rs_of_s (S ∷ R ∷ w) = refl
rs_of_s (S ∷ S ∷ w) = refl

-- ---- the account

pub accounts_unique : {w kept : Word} {pairs triples pairs' triples' : ℕ} → Accounts w kept pairs triples → Accounts w kept pairs' triples' → (pairs ≡ pairs') × (triples ≡ triples')
accounts_unique a b =
    (omega (arith, a.rs_gone, b.rs_gone), omega (arith, a.letters, b.letters, a.rs_gone, b.rs_gone))

pub erases_accounts : {w kept : Word} {pairs triples : ℕ} → Erases w kept pairs triples → Accounts w kept pairs triples
erases_accounts nothing = record { letters = omega arith; rs_gone = omega arith }
erases_accounts (pair x y e) =
    let a = erases_accounts e in
    record {
      letters = omega (arith, a.letters, length-append x y, length-append x (R ∷ R ∷ y));
      rs_gone = omega (arith, a.rs_gone, rs_append x y, rs_append x (R ∷ R ∷ y));
    }
erases_accounts (triple x y e) =
    let a = erases_accounts e in
    record {
      letters = omega (arith, a.letters, length-append x y, length-append x (S ∷ S ∷ S ∷ y));
      rs_gone = omega (arith, a.rs_gone, rs_append x y, rs_append x (S ∷ S ∷ S ∷ y));
    }

-- ---- the letters of a word arrive: what cancels is erased

-- some erasing leads from the first word to the second
abbrev pub Erased : Word → Word → Type 0
Erased w kept = (pairs : ℕ) × (triples : ℕ) × Erases w kept pairs triples

erased_path : {u v kept : Word} → u ≡ v → Erased v kept → Erased u kept
erased_path {kept = kept} e = subst (λ (l : Word). Erased l kept) (sym e)

erased_pair : (x y kept : Word) → Erased (x ++ y) kept → Erased (x ++ R ∷ R ∷ y) kept
erased_pair x y kept e = (suc e.0, e.1, pair x y e.2)

erased_triple : (x y kept : Word) → Erased (x ++ y) kept → Erased (x ++ S ∷ S ∷ S ∷ y) kept
erased_triple x y kept e = (e.0, suc e.1, triple x y e.2)

arrive_erased : (a : Letter) (w x kept : Word) → Erased (reverse (arrive a w) ++ x) kept → Erased (reverse w ++ a ∷ x) kept
arrive_erased R [] x kept e = e
arrive_erased R (R ∷ w) x kept e = erased_path (reversed_cons R w (R ∷ x)) (erased_pair (reverse w) x kept e)
arrive_erased R (S ∷ w) x kept e = erased_path (sym (reversed_cons R (S ∷ w) x)) e
arrive_erased S [] x kept e = e
arrive_erased S (R ∷ w) x kept e = erased_path (sym (reversed_cons S (R ∷ w) x)) e
arrive_erased S (S ∷ []) x kept e = e
arrive_erased S (S ∷ R ∷ w) x kept e = erased_path (sym (reversed_cons S (S ∷ R ∷ w) x)) e
arrive_erased S (S ∷ S ∷ w) x kept e =
    erased_path (reversed_cons S (S ∷ w) (S ∷ x) ∙ reversed_cons S w (S ∷ S ∷ x)) (erased_triple (reverse w) x kept e)

arrived_erased : (w x : Word) → Erased (reverse w ++ x) (reverse (arrived w x))
arrived_erased w [] = erased_path (append-nil (reverse w)) (0, 0, nothing)
arrived_erased w (a ∷ x) = arrive_erased a w x (reverse (arrived w (a ∷ x))) (arrived_erased (arrive a w) x)

pub nf_erased : (w : Word) → Erased w (nf w)
unfolding nf
nf_erased w = arrived_erased [] w

pub nf_accounts : (w : Word) → (pairs : ℕ) × (triples : ℕ) × Accounts w (nf w) pairs triples
nf_accounts w =
    let e = nf_erased w in
    (e.0, e.1, erases_accounts e.2)

pub erased_alike : {w kept : Word} {pairs triples pairs' triples' : ℕ} → Accounts w kept pairs triples → Erases w kept pairs' triples' → (pairs ≡ pairs') × (triples ≡ triples')
erased_alike a e = accounts_unique a (erases_accounts e)
