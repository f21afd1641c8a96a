-- Document 01's worked values P1 to P12, in one list, and what the unbounded verdict says of the lists of P8 to P12. Assumes nothing.
use mathlib.Core.Logic.{inr}
use mathlib.Core.Path.{◌≡◌, refl}
use mathlib.Core.List.{List, [], ◌∷◌}
use native.Mathlib.Nat.{not-suc-le-zero}
use native.Mathlib.Omega.{arith}
use lib.IntN.{pos, negsuc}
use Rattle.words.specs.Word.{R, S, Word, sss, nf, inverse}
use Rattle.words.proofs.NormalForm.{nf_normal, equal_of_nf}
use Rattle.unimodular.specs.Matrix.{signed, matrix_of, NormalFormOf}
use Rattle.products.specs.Product.{letters, NoneRight, MemberRight, YesRight, NoRight, plain}
use Rattle.products.proofs.Unbounded.{member_yes}
use Rattle.products.proofs.Relations.{no_factors_none}
use Rattle.worked.proofs.Trying.{plain_tried, misses, misses_before, none_by_trying, member_by_trying}

-- P1: "RR and SSS give the empty word."
pub P1 : (nf (R ∷ R ∷ []) ≡ []) × (nf (S ∷ S ∷ S ∷ []) ≡ [])
unfolding nf
P1 = (refl, refl)

-- P2: "SSSS gives S."
pub P2 : nf (S ∷ S ∷ S ∷ S ∷ []) ≡ S ∷ []
unfolding nf
P2 = refl

-- P3: "RSSSR gives the empty word."
pub P3 : nf (R ∷ S ∷ S ∷ S ∷ R ∷ []) ≡ []
unfolding nf
P3 = refl

-- P4: "the inverse of SR is RSS."
pub P4 : nf (inverse (S ∷ R ∷ [])) ≡ R ∷ S ∷ S ∷ []
unfolding nf
P4 = refl

-- P5: "S has matrix (1 −1; 1 0)."
pub P5 : signed (matrix_of (S ∷ [])) ≡ record { a = pos 1; b = negsuc 0; c = pos 1; d = pos 0 }
P5 = refl

-- P6: "SR has (1 1; 0 1)."
pub P6 : signed (matrix_of (S ∷ R ∷ [])) ≡ record { a = pos 1; b = pos 1; c = pos 0; d = pos 1 }
P6 = refl

-- P7: "(1 0; 1 1) gives SSR."
pub P7 : NormalFormOf (record { a = pos 1; b = pos 0; c = pos 1; d = pos 1 }) (S ∷ S ∷ R ∷ [])
unfolding nf
P7 = record { normal = nf_normal (S ∷ S ∷ R ∷ []); matrix = inr refl }

-- P8: "empty list, empty target, n 0: member 0." 02, M-105: "P8 becomes none".
pub P8 : NoneRight (plain []) [] 0
P8 = no_factors_none (plain []) []

-- P9: "empty list, target R, n 1000: none."
pub P9 : NoneRight (plain []) (R ∷ []) 1000
unfolding nf misses
P9 = none_by_trying (plain_tried []) (R ∷ []) 1000 refl

-- P10: "generators RS, S; target R; n 3: member 3, by 0 1 1; with n 2, none."
abbrev pub list10 : List Word
list10 = (R ∷ S ∷ []) ∷ (S ∷ []) ∷ []

pub P10_none : NoneRight (plain list10) (R ∷ []) 2
unfolding nf misses
P10_none = none_by_trying (plain_tried list10) (R ∷ []) 2 refl

pub P10 : MemberRight (plain list10) (R ∷ []) 3 (0 ∷ 1 ∷ 1 ∷ []) 3
unfolding nf misses misses_before
P10 =
    member_by_trying (plain_tried list10) (R ∷ []) 3 0 (1 ∷ 1 ∷ [])
    (record { series = (omega arith, (omega arith, (omega arith, tt))); counted = omega arith; within = omega arith })
    (equal_of_nf (letters list10 (0 ∷ 1 ∷ 1 ∷ [])) (R ∷ []) refl) refl refl

-- P11: "generators RSRS, S, SRSS; target R; n 3: member with count 3, reached by 0 1 2; with n 2, none." The three S's that cancel come
-- from three factors.
abbrev pub list11 : List Word
list11 = (R ∷ S ∷ R ∷ S ∷ []) ∷ (S ∷ []) ∷ (S ∷ R ∷ S ∷ S ∷ []) ∷ []

pub P11_none : NoneRight (plain list11) (R ∷ []) 2
unfolding nf misses
P11_none = none_by_trying (plain_tried list11) (R ∷ []) 2 refl

pub P11 : MemberRight (plain list11) (R ∷ []) 3 (0 ∷ 1 ∷ 2 ∷ []) 3
unfolding nf misses misses_before
P11 =
    member_by_trying (plain_tried list11) (R ∷ []) 3 0 (1 ∷ 2 ∷ [])
    (record { series = (omega arith, (omega arith, (omega arith, tt))); counted = omega arith; within = omega arith })
    (equal_of_nf (letters list11 (0 ∷ 1 ∷ 2 ∷ [])) (R ∷ []) refl) refl refl

-- P12: "generator SSS, empty target, n 5: member 0, not 1." 02, M-105: "P12 becomes member 1."
abbrev pub list12 : List Word
list12 = (S ∷ S ∷ S ∷ []) ∷ []

pub P12 : MemberRight (plain list12) [] 5 (0 ∷ []) 1
unfolding nf misses misses_before
P12 =
    member_by_trying (plain_tried list12) [] 5 0 [] (record { series = (omega arith, tt); counted = omega arith; within = omega arith }) (sss [] [])
    refl refl

-- .. though the empty series makes the empty word too: it is no rival
pub P12_not_0 : MemberRight (plain list12) [] 5 [] 0 → ⊥
P12_not_0 member = not-suc-le-zero member.rival.counted

-- The same lists and targets without a bound. An empty list has no product at all.
pub no_products : (target : Word) → NoRight (plain []) target
no_products target [] series counted reaches = not-suc-le-zero counted
no_products target (i ∷ r) series counted reaches = absurd (not-suc-le-zero series.0)

pub P8_no : NoRight (plain []) []
P8_no = no_products []

pub P9_no : NoRight (plain []) (R ∷ [])
P9_no = no_products (R ∷ [])

pub P10_yes : YesRight (plain list10) (R ∷ [])
P10_yes = member_yes (plain list10) (R ∷ []) 3 (0 ∷ 1 ∷ 1 ∷ []) 3 P10

pub P11_yes : YesRight (plain list11) (R ∷ [])
P11_yes = member_yes (plain list11) (R ∷ []) 3 (0 ∷ 1 ∷ 2 ∷ []) 3 P11

pub P12_yes : YesRight (plain list12) []
P12_yes = member_yes (plain list12) [] 5 (0 ∷ []) 1 P12
