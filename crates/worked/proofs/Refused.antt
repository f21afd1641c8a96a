-- Wrong answers, each refused by the definition of a right verdict: whatever program gives one of them, it does not meet the contract of
-- `engine::judge`, or of `reach::reachable`. Assumes nothing.
use mathlib.Core.Path.{◌≡◌, refl, ap, subst}
use mathlib.Core.List.{List, [], ◌∷◌}
use Prim.Native.Nat.{ℕ, zero, suc, ◌*◌, ◌<◌, zero-le}
use native.Mathlib.Nat.{not-suc-le-zero, le_of_suc-le-suc}
use native.Mathlib.Omega.{arith}
use lib.ListN.{length}
use Rattle.words.specs.Word.{R, S, Word, Equal, nf}
use Rattle.words.proofs.Reduced.{Reduced}
use Rattle.words.proofs.NormalForm.{equal_path, equal_of_nf}
use Rattle.products.specs.Product.{Family, Series, letters, measure, Reaches, Rival, NoneRight, MemberRight, YesRight, NoRight, smaller, plain}
use Rattle.products.specs.State.{LeastLead}
use Rattle.products.proofs.FirstLetter.{equal_reduced}
use Rattle.products.proofs.Rivals.{some_counted}
use Rattle.products.proofs.Unbounded.{yes_not_no}
use Rattle.products.proofs.Relations.{member_some, reached_not_none}
use Rattle.worked.proofs.Trying.{plain_tried, misses, misses_before, member_by_trying}
use Rattle.worked.proofs.Values.{P9, list10, list11, P11, list12, P12, P8_no, P9_no, P11_yes, P12_yes}

-- factors beside which a shorter rival reaches the target
shorter_refused : {family : Family} {target : Word} {n count : ℕ} (factors r : List ℕ) → Rival family n r → Reaches family r target
    → measure r < measure factors → MemberRight family target n factors count → ⊥
shorter_refused factors r rival reaches fewer member = omega (arith, member.least r rival reaches)

-- ---- a generator dropped that the others make: SRSR is SR twice

abbrev pub once : List Word
once = (S ∷ R ∷ []) ∷ []

abbrev pub both : List Word
both = (S ∷ R ∷ []) ∷ (S ∷ R ∷ S ∷ R ∷ []) ∷ []

-- without it two factors are the least ..
pub dropped_right : MemberRight (plain once) (S ∷ R ∷ S ∷ R ∷ []) 2 (0 ∷ 0 ∷ []) 2
unfolding nf misses misses_before
dropped_right =
    member_by_trying (plain_tried once) (S ∷ R ∷ S ∷ R ∷ []) 2 0 (0 ∷ [])
    (record { series = (omega arith, (omega arith, tt)); counted = omega arith; within = omega arith })
    (equal_of_nf (letters once (0 ∷ 0 ∷ [])) (S ∷ R ∷ S ∷ R ∷ []) refl) refl refl

-- .. with it they are one too many ..
by_the_dropped : Reaches (plain both) (1 ∷ []) (S ∷ R ∷ S ∷ R ∷ [])
unfolding nf
by_the_dropped = equal_of_nf (letters both (1 ∷ [])) (S ∷ R ∷ S ∷ R ∷ []) refl

pub dropped_refused : MemberRight (plain both) (S ∷ R ∷ S ∷ R ∷ []) 2 (0 ∷ 0 ∷ []) 2 → ⊥
dropped_refused =
    shorter_refused (0 ∷ 0 ∷ []) (1 ∷ []) (record { series = (omega arith, tt); counted = omega arith; within = omega arith }) by_the_dropped (omega arith)

-- .. and a bound of 1 does not make it none
pub dropped_none_refused : NoneRight (plain both) (S ∷ R ∷ S ∷ R ∷ []) 1 → ⊥
dropped_none_refused nobody = nobody (1 ∷ []) (record { series = (omega arith, tt); counted = omega arith; within = omega arith }) by_the_dropped

-- ---- counts

-- a least count that is one above the bound
pub above_the_bound_refused : MemberRight (plain list10) (R ∷ []) 2 (0 ∷ 1 ∷ 1 ∷ []) 3 → ⊥
above_the_bound_refused member = omega (arith, member.rival.within)

-- a count that is not that of the factors
pub another_count_refused : MemberRight (plain list10) (R ∷ []) 4 (0 ∷ 1 ∷ 1 ∷ []) 4 → ⊥
another_count_refused member = omega (arith, member.counts)

-- a count that an empty generator makes one too many
abbrev pub repeated : List Word
repeated = [] ∷ (R ∷ []) ∷ (R ∷ []) ∷ []

pub empty_generator_refused : MemberRight (plain repeated) (R ∷ []) 5 (0 ∷ 1 ∷ []) 2 → ⊥
unfolding nf
empty_generator_refused =
    shorter_refused (0 ∷ 1 ∷ []) (2 ∷ []) (record { series = (omega arith, tt); counted = omega arith; within = omega arith })
    (equal_of_nf (letters repeated (2 ∷ [])) (R ∷ []) refl) (omega arith)

-- ---- other series of the least count

-- the second of two equal generators, though the first reaches the target as well
pub second_of_equals_refused : MemberRight (plain repeated) (R ∷ []) 5 (2 ∷ []) 1 → ⊥
unfolding nf
second_of_equals_refused member =
    member.first (1 ∷ []) (record { series = (omega arith, tt); counted = omega arith; within = omega arith }) (equal_of_nf (letters repeated (1 ∷ [])) (R ∷ []) refl)
    refl (smaller (omega arith))

-- ---- verdicts

-- none, though three S's from three factors cancel
pub overlooked_refused : NoneRight (plain list11) (R ∷ []) 3 → ⊥
overlooked_refused nobody = nobody (0 ∷ 1 ∷ 2 ∷ []) P11.rival P11.reaches

-- a member of an empty list, whatever its factors and its count
pub always_member_refused : (factors : List ℕ) (count : ℕ) → MemberRight (plain []) (R ∷ []) 1000 factors count → ⊥
always_member_refused factors count member = P9 factors member.rival member.reaches

-- ---- relations

-- the empty series for an empty target, or for any other, whatever its count: member 0 of P8 and, by `P12_not_0`, of P12
pub empty_series_refused : (family : Family) (target : Word) (n count : ℕ) → MemberRight family target n [] count → ⊥
empty_series_refused family target n count member = not-suc-le-zero member.rival.counted

pub P8_member_0_refused : MemberRight (plain []) [] 0 [] 0 → ⊥
P8_member_0_refused = empty_series_refused (plain []) [] 0 0

-- a count of 0, whatever factors come with it
pub count_0_refused : (family : Family) (target : Word) (n : ℕ) (factors : List ℕ) → MemberRight family target n factors 0 → ⊥
count_0_refused family target n factors member = not-suc-le-zero (member_some family target member)

-- the diagonal of the table taken as 0: the least count that leads from a state to itself is one of series that have a factor
pub diagonal_0_refused : (gens : List Word) (n : ℕ) (u : Word) → LeastLead gens n u u 0 → ⊥
diagonal_0_refused gens n u entry = let (r, some, leads, weighs) = entry.led zero-le in omega (arith, some_counted some)

-- none for an empty target, though the list has a relation
pub overlooked_relation_refused : NoneRight (plain list12) [] 5 → ⊥
overlooked_relation_refused = reached_not_none (plain list12) [] (0 ∷ []) P12.rival P12.reaches

-- a relation of an empty list, of one factor or of more
pub relation_of_nothing_refused : (n : ℕ) (factors : List ℕ) (count : ℕ) → MemberRight (plain []) [] n factors count → ⊥
relation_of_nothing_refused n factors count member = P8_no factors member.rival.series member.rival.counted member.reaches

-- ---- verdicts without a bound

-- no, though three S's from three factors cancel
pub overlooked_no_refused : NoRight (plain list11) (R ∷ []) → ⊥
overlooked_no_refused = yes_not_no (plain list11) (R ∷ []) P11_yes

-- no for an empty target, though the list has a relation
pub overlooked_relation_no_refused : NoRight (plain list12) [] → ⊥
overlooked_relation_no_refused = yes_not_no (plain list12) [] P12_yes

-- yes for an empty list, whatever series it is said for, and the empty target is no exception
pub always_yes_refused : YesRight (plain []) (R ∷ []) → ⊥
always_yes_refused yes_right = yes_not_no (plain []) (R ∷ []) yes_right P9_no

pub empty_yes_refused : YesRight (plain []) [] → ⊥
empty_yes_refused yes_right = yes_not_no (plain []) [] yes_right P8_no

-- no where only series of at most n factors were tried, whatever n is: T to the power n + 1 is no product of at most n times T, and is one of n + 1 times
abbrev pub powers : ℕ → Word
powers zero = []
powers (suc k) = S ∷ R ∷ powers k

pub powers_reduced : (k : ℕ) → Reduced (powers k)
powers_reduced zero = tt
powers_reduced (suc zero) = tt
powers_reduced (suc (suc k)) = powers_reduced (suc k)

pub powers_length : (k : ℕ) → length (powers k) ≡ 2 * k
powers_length zero = refl
powers_length (suc k) = omega (arith, powers_length k)

pub powers_letters : (r : List ℕ) → Series once r → letters once r ≡ powers (length r)
powers_letters [] series = refl
powers_letters (zero ∷ r) series = ap (λ (w : Word). S ∷ R ∷ w) (powers_letters r series.1)
powers_letters (suc i ∷ r) series = absurd (not-suc-le-zero (le_of_suc-le-suc series.0))

powers_none : (n : ℕ) → NoneRight (plain once) (powers (suc n)) n
powers_none n r rival reaches =
    let same : powers (length r) ≡ powers (suc n) = equal_reduced (powers_reduced (length r)) (powers_reduced (suc n)) (subst (λ (w : Word). Equal w (powers (suc n))) (powers_letters r rival.series) reaches) in
    omega (arith, ap length same, powers_length (length r), powers_length (suc n), rival.within)

abbrev times : ℕ → List ℕ
times zero = []
times (suc k) = 0 ∷ times k

times_series : (k : ℕ) → Series once (times k)
times_series zero = tt
times_series (suc k) = (omega arith, times_series k)

times_letters : (k : ℕ) → letters once (times k) ≡ powers k
times_letters zero = refl
times_letters (suc k) = ap (λ (w : Word). S ∷ R ∷ w) (times_letters k)

pub stopped_no_refused : (n : ℕ) → NoneRight (plain once) (powers (suc n)) n × (NoRight (plain once) (powers (suc n)) → ⊥)
stopped_no_refused n =
    (powers_none n, yes_not_no (plain once) (powers (suc n)) (times (suc n), times_series (suc n), omega arith, equal_path (times_letters (suc n))))
