-- Relations of small lists, 02's M-105: the series of one factor or more that reach the empty target. Assumes nothing.
use mathlib.Core.Path.{◌≡◌, refl, ap, subst}
use mathlib.Core.List.{List, [], ◌∷◌}
use Prim.Native.Nat.{ℕ, ◌≤◌}
use native.Mathlib.Omega.{arith}
use lib.ListN.{length}
use Rattle.words.specs.Word.{R, S, Word, Equal, none, sss, nf}
use Rattle.words.proofs.NormalForm.{equal_of_nf}
use Rattle.products.specs.Product.{Family, letters, plain, signed, Reaches, NoneRight, MemberRight, NoRight}
use Rattle.products.proofs.FirstLetter.{equal_reduced}
use Rattle.products.proofs.Rivals.{rival_of}
use Rattle.products.proofs.Unbounded.{no_none}
use Rattle.products.proofs.Relations.{no_factors_none}
use Rattle.worked.proofs.Trying.{plain_tried, signed_tried, misses, misses_before, none_by_trying, member_by_trying}
use Rattle.worked.proofs.Values.{list12, P8_no}
use Rattle.worked.proofs.Refused.{once, powers, powers_reduced, powers_length, powers_letters}
use Rattle.worked.proofs.Signed.{flip}

-- ---- one factor: a generator that vanishes, or is empty

pub vanishing : (n : ℕ) → 1 ≤ n → MemberRight (plain list12) [] n (0 ∷ []) 1
unfolding nf misses misses_before
vanishing n h = member_by_trying (plain_tried list12) [] n 0 [] (rival_of (omega arith, tt) (omega arith) h) (sss [] []) refl refl

abbrev pub identity : List Word
identity = [] ∷ []

pub empty_generator : (n : ℕ) → 1 ≤ n → MemberRight (plain identity) [] n (0 ∷ []) 1
unfolding nf misses misses_before
empty_generator n h = member_by_trying (plain_tried identity) [] n 0 [] (rival_of (omega arith, tt) (omega arith) h) none refl refl

-- ---- two factors

pub flips_none : NoneRight (plain flip) [] 1
unfolding nf misses
flips_none = none_by_trying (plain_tried flip) [] 1 refl

pub flips : (n : ℕ) → 2 ≤ n → MemberRight (plain flip) [] n (0 ∷ 0 ∷ []) 2
unfolding nf misses misses_before
flips n h =
    member_by_trying (plain_tried flip) [] n 0 (0 ∷ []) (rival_of (omega arith, (omega arith, tt)) (omega arith) h)
    (equal_of_nf (letters flip (0 ∷ 0 ∷ [])) [] refl) refl refl

-- S and SS, of which either order vanishes: 0 1 stands before 1 0
abbrev pub turns : List Word
turns = (S ∷ []) ∷ (S ∷ S ∷ []) ∷ []

pub turns_none : NoneRight (plain turns) [] 1
unfolding nf misses
turns_none = none_by_trying (plain_tried turns) [] 1 refl

pub turns_there_and_back : (n : ℕ) → 2 ≤ n → MemberRight (plain turns) [] n (0 ∷ 1 ∷ []) 2
unfolding nf misses misses_before
turns_there_and_back n h =
    member_by_trying (plain_tried turns) [] n 0 (1 ∷ []) (rival_of (omega arith, (omega arith, tt)) (omega arith) h)
    (equal_of_nf (letters turns (0 ∷ 1 ∷ [])) [] refl) refl refl

-- P11's list with R behind it. By P11 the series 0 1 2 3 is a relation, but not the least: SRSS is its own inverse, and stands before R.
abbrev pub list11_and_R : List Word
list11_and_R = (R ∷ S ∷ R ∷ S ∷ []) ∷ (S ∷ []) ∷ (S ∷ R ∷ S ∷ S ∷ []) ∷ (R ∷ []) ∷ []

pub P11_relation_none : NoneRight (plain list11_and_R) [] 1
unfolding nf misses
P11_relation_none = none_by_trying (plain_tried list11_and_R) [] 1 refl

pub P11_relation : (n : ℕ) → 2 ≤ n → MemberRight (plain list11_and_R) [] n (2 ∷ 2 ∷ []) 2
unfolding nf misses misses_before
P11_relation n h =
    member_by_trying (plain_tried list11_and_R) [] n 2 (2 ∷ []) (rival_of (omega arith, (omega arith, tt)) (omega arith) h)
    (equal_of_nf (letters list11_and_R (2 ∷ 2 ∷ [])) [] refl) refl refl

pub P11_relation_not_4 : Reaches (plain list11_and_R) (0 ∷ 1 ∷ 2 ∷ 3 ∷ []) [] × (MemberRight (plain list11_and_R) [] 4 (0 ∷ 1 ∷ 2 ∷ 3 ∷ []) 4 → ⊥)
unfolding nf
P11_relation_not_4 = (
  equal_of_nf (letters list11_and_R (0 ∷ 1 ∷ 2 ∷ 3 ∷ [])) [] refl,
  λ member. let right = P11_relation 4 (omega arith) in omega (arith, member.least (2 ∷ 2 ∷ []) right.rival right.reaches),
)

-- ---- no relation

-- with no factors, whatever they are and whatever the target
pub bound_0_none : (family : Family) (target : Word) → NoneRight family target 0
bound_0_none family target = no_factors_none family target

-- an empty list has none, whatever the bound
pub empty_list_none : (n : ℕ) → NoneRight (plain []) [] n
empty_list_none n = no_none (plain []) [] P8_no n

-- Nor has the list of SR, of which no power vanishes ..
pub powers_no : NoRight (plain once) []
powers_no r series counted reaches =
    let same : powers (length r) ≡ [] = equal_reduced (powers_reduced (length r)) tt (subst (λ (w : Word). Equal w []) (powers_letters r series) reaches) in
    omega (arith, ap length same, powers_length (length r))

pub powers_no_relation : (n : ℕ) → NoneRight (plain once) [] n
powers_no_relation n = no_none (plain once) [] powers_no n

-- .. but taken with its inverse it has, as every list with a generator
pub signed_powers_none : NoneRight (signed once) [] 1
unfolding nf misses
signed_powers_none = none_by_trying (signed_tried once) [] 1 refl

pub signed_powers : (n : ℕ) → 2 ≤ n → MemberRight (signed once) [] n (0 ∷ 128 ∷ []) 2
unfolding nf misses misses_before
signed_powers n h =
    member_by_trying (signed_tried once) [] n 0 (128 ∷ []) (rival_of (omega arith, (omega arith, tt)) (omega arith) h)
    (equal_of_nf (S ∷ R ∷ R ∷ S ∷ S ∷ []) [] refl) refl refl
