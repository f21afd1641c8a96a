-- Reducing the generators and the target first changes no verdict.
-- Assumes nothing.
use mathlib.Core.Path.{◌≡◌, refl, sym, ap, ◌∙◌}
use mathlib.Core.Logic.Iff
use mathlib.Core.Logic.{◌↔◌}
use mathlib.Core.List.{List, [], ◌∷◌, map}
use Prim.Native.Nat.{ℕ}
use lib.ListN.{get_or, length-map, get_or-map}
use Rattle.words.specs.Word.{Word, Equal, none, back, then, nf}
use Rattle.words.proofs.NormalForm.{equal_path, equal_append, equal_nf, nf_reduced}
use Rattle.products.specs.Product.{generator, Factor, plain, Series, letters, Reaches, NoneRight, MemberRight, YesRight, NoRight}
use Rattle.products.proofs.Series.{each_on}
use Rattle.products.proofs.Alike.{Alike, none_alike, member_alike, yes_alike, no_alike}
use Rattle.products.proofs.OneStep.{AllReduced}

nf_nothing : nf [] ≡ []
unfolding nf
nf_nothing = refl

module _ (gens : List Word) where
  -- generator j of the reduced list is the normal form of generator j, and so it is the empty word where there is none
  pub reduced_generator : (j : ℕ) → generator (map nf gens) j ≡ nf (generator gens j)
  reduced_generator j = ap (λ (d : Word). get_or (map nf gens) j d) (sym nf_nothing) ∙ get_or-map nf gens j []

  pub reduced_all : AllReduced (map nf gens)
  reduced_all j f = rw (reduced_generator j) (nf_reduced (generator gens j))

  pub reduced_letters : (r : List ℕ) → Equal (letters (map nf gens) r) (letters gens r)
  reduced_letters [] = none
  reduced_letters (j ∷ r) = equal_append (then (equal_path (reduced_generator j)) (back (equal_nf (generator gens j)))) (reduced_letters r)

  pub reduced_reaches : (r : List ℕ) (target : Word) → Reaches (plain (map nf gens)) r target ↔ Reaches (plain gens) r target
  reduced_reaches r target = ((λ e. then (back (reduced_letters r)) e), (λ e. then (reduced_letters r) e))

  pub target_reaches : (r : List ℕ) (target : Word) → Reaches (plain gens) r (nf target) ↔ Reaches (plain gens) r target
  target_reaches r target = ((λ e. then e (back (equal_nf target))), (λ e. then e (equal_nf target)))

  pub reduced_series : (r : List ℕ) → Series (map nf gens) r ↔ Series gens r
  reduced_series r =
      (each_on (Factor (map nf gens)) (λ j h. rw (length-map gens nf) at h) r, each_on (Factor gens) (λ j h. rw (length-map gens nf) h) r)

  -- the reduced list with the reduced target, and the list and the target as they are given
  both_reach : (target : Word) (r : List ℕ) → Reaches (plain (map nf gens)) r (nf target) ↔ Reaches (plain gens) r target
  both_reach target r = Iff.trans (reduced_reaches r (nf target)) (target_reaches r target)

  -- a verdict on the one is a verdict on the other, with the same factors
  given_alike : (target : Word) → Alike (plain (map nf gens)) (plain gens) (nf target) target (λ r. r) (λ r. r)
  given_alike target =
      record {
        series_there = λ r s. (reduced_series r).0 s;
        series_back = λ r s. (reduced_series r).1 s;
        reaches_there = λ r s e. (both_reach target r).0 e;
        reaches_back = λ r s e. (both_reach target r).1 e;
        length_there = λ r. refl;
        length_back = λ r. refl;
        before_back = λ r s t u b. b;
      }

  reduced_alike : (target : Word) → Alike (plain gens) (plain (map nf gens)) target (nf target) (λ r. r) (λ r. r)
  reduced_alike target =
      record {
        series_there = λ r s. (reduced_series r).1 s;
        series_back = λ r s. (reduced_series r).0 s;
        reaches_there = λ r s e. (both_reach target r).1 e;
        reaches_back = λ r s e. (both_reach target r).0 e;
        length_there = λ r. refl;
        length_back = λ r. refl;
        before_back = λ r s t u b. b;
      }

  pub none_reduced : (target : Word) (n : ℕ) → NoneRight (plain (map nf gens)) (nf target) n ↔ NoneRight (plain gens) target n
  none_reduced target n = (none_alike (given_alike target) n, none_alike (reduced_alike target) n)

  pub member_reduced : (target : Word) (n : ℕ) (factors : List ℕ) (count : ℕ)
      → MemberRight (plain (map nf gens)) (nf target) n factors count ↔ MemberRight (plain gens) target n factors count
  member_reduced target n factors count = (member_alike (given_alike target) n factors count, member_alike (reduced_alike target) n factors count)

  pub yes_reduced : (target : Word) → YesRight (plain (map nf gens)) (nf target) ↔ YesRight (plain gens) target
  yes_reduced target = (yes_alike (given_alike target), yes_alike (reduced_alike target))

  pub no_reduced : (target : Word) → NoRight (plain (map nf gens)) (nf target) ↔ NoRight (plain gens) target
  no_reduced target = (no_alike (given_alike target), no_alike (reduced_alike target))
