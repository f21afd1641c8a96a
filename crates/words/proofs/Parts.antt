-- A word by its parts: that the normal words are those that are series of parts, and what the first letters leave to test.
--     parts_normal      a word is normal exactly when it is nothing, or parts that follow one another as document 01 says
-- Assumes nothing.
use mathlib.Core.Bool.{Bool}
use mathlib.Core.Path.{◌≡◌, sym, ap, subst, ◌∙◌}
use mathlib.Core.Logic.{◌↔◌, inl, inr}
use mathlib.Core.List.{List, [], ◌∷◌}
use Prim.Native.Nat.{ℕ, suc, ◌+◌, ◌-◌, ◌<◌}
use native.Mathlib.Numerals.{add-one}
use native.Mathlib.Omega.{arith}
use lib.ListN.{length, take, drop, get_or, length-drop}
use lib.Seq.{drop-cons, drop-length, take_all}
use Rattle.words.specs.Word.{Letter, R, S, Word, Normal}
use Rattle.words.specs.Bytes.{letter, word}
use Rattle.refusals.specs.Telling.{Tells}
use Rattle.words.specs.Parts.{FromRPart, no_r_part, r_part, FromSPart, no_s_part, s_part, ss_part, Parts}
use Rattle.words.proofs.Bytes.{letter_r, letter_s}
use Rattle.refusals.proofs.Telling.{tells_same}
use Rattle.words.proofs.Reduced.{Reduced, normal_of_reduced, reduced_of_normal}

-- ---- the normal words are the series of parts

reduced_r : {w : Word} → FromSPart w → Reduced w → Reduced (R ∷ w)
reduced_r no_s_part h = tt
reduced_r (s_part p) h = h
reduced_r (ss_part p) h = h

reduced_s : {w : Word} → FromRPart w → Reduced w → Reduced (S ∷ w)
reduced_s no_r_part h = tt
reduced_s (r_part p) h = h

reduced_ss : {w : Word} → FromRPart w → Reduced w → Reduced (S ∷ S ∷ w)
reduced_ss no_r_part h = tt
reduced_ss (r_part p) h = h

mutual
  from_r_reduced : {w : Word} → FromRPart w → Reduced w
  from_r_reduced no_r_part = tt
  from_r_reduced (r_part p) = reduced_r p (from_s_reduced p)

  from_s_reduced : {w : Word} → FromSPart w → Reduced w
  from_s_reduced no_s_part = tt
  from_s_reduced (s_part p) = reduced_s p (from_r_reduced p)
  from_s_reduced (ss_part p) = reduced_ss p (from_r_reduced p)

-- what stands behind an R part in a reduced word
reduced_behind_r : (w : Word) → Reduced (R ∷ w) → FromSPart w
reduced_behind_r [] h = no_s_part
reduced_behind_r (R ∷ w) h = absurd h
reduced_behind_r (S ∷ []) h = s_part no_r_part
reduced_behind_r (S ∷ R ∷ w) h = s_part (r_part (reduced_behind_r w h))
reduced_behind_r (S ∷ S ∷ []) h = ss_part no_r_part
reduced_behind_r (S ∷ S ∷ R ∷ w) h = ss_part (r_part (reduced_behind_r w h))
reduced_behind_r (S ∷ S ∷ S ∷ w) h = absurd h

reduced_parts : (w : Word) → Reduced w → Parts w
reduced_parts [] h = inl no_r_part
reduced_parts (R ∷ w) h = inl (r_part (reduced_behind_r w h))
reduced_parts (S ∷ w) h = inr (reduced_behind_r (S ∷ w) h)

parts_reduced : (w : Word) → Parts w → Reduced w
parts_reduced w (inl p) = from_r_reduced p
parts_reduced w (inr p) = from_s_reduced p

pub parts_normal : (w : Word) → Parts w ↔ Normal w
parts_normal w = (λ p. normal_of_reduced w (parts_reduced w p), λ n. reduced_parts w (reduced_of_normal w n))

-- ---- the word from a place on, by the byte there

rest_from : (w : List ℕ) (at : ℕ) (a : Letter) → at < length w → letter (get_or w at 0) ≡ a → word (drop at w) ≡ a ∷ word (drop (at + 1) w)
rest_from w at a h e = rw (add-one at) (ap word (drop-cons w at 0 h) ∙ ap (λ (x : Letter). x ∷ word (drop (suc at) w)) e)

pub rest_r : (w : List ℕ) (at : ℕ) → at < length w → get_or w at 0 ≡ 82 → word (drop at w) ≡ R ∷ word (drop (at + 1) w)
rest_r w at h e = rest_from w at R h (letter_r _ e)

pub rest_s : (w : List ℕ) (at : ℕ) → at < length w → (get_or w at 0 ≡ 82 → ⊥) → word (drop at w) ≡ S ∷ word (drop (at + 1) w)
rest_s w at h e = rest_from w at S h (letter_s _ e)

pub rest_none : (w : List ℕ) (at : ℕ) → at ≡ length w → word (drop at w) ≡ []
rest_none w at e = ap (λ (n : ℕ). word (drop n w)) e ∙ ap word (drop-length w)

-- the same without the first letters of the word, as the language has it
pub without : (w : List ℕ) (k : ℕ) → take (length w - k) (drop k w) ≡ drop k w
without w k = take_all (length w - k) (drop k w) (omega (arith, length-drop k w))

-- ---- what the first letters leave to test

behind_r : {w : Word} → FromRPart (R ∷ w) → FromSPart w
behind_r (r_part p) = p

-- behind an S stands an R part, unless a second S does
behind_s : {w : Word} → FromSPart (S ∷ R ∷ w) → FromRPart (R ∷ w)
behind_s (s_part p) = p

no_r_part_from_s : {w : Word} → FromRPart (S ∷ w) → ⊥
no_r_part_from_s p = elim p [ ]

no_s_part_from_r : {w : Word} → FromSPart (R ∷ w) → ⊥
no_s_part_from_r p = elim p [ ]

behind_ss : {w : Word} → FromSPart (S ∷ S ∷ w) → FromRPart w
behind_ss (s_part p) = absurd (no_r_part_from_s p)
behind_ss (ss_part p) = p

parts_from_r : {w : Word} → Parts (R ∷ w) → FromRPart (R ∷ w)
parts_from_r (inl p) = p
parts_from_r (inr p) = absurd (no_s_part_from_r p)

parts_from_s : {w : Word} → Parts (S ∷ w) → FromSPart (S ∷ w)
parts_from_s (inl p) = absurd (no_r_part_from_s p)
parts_from_s (inr p) = p

pub nothing_parts : {x : Word} → x ≡ [] → Parts x
nothing_parts e = subst Parts (sym e) (inl no_r_part)

pub nothing_from_r : {x : Word} → x ≡ [] → FromRPart x
nothing_from_r e = subst FromRPart (sym e) no_r_part

pub nothing_from_s : {x : Word} → x ≡ [] → FromSPart x
nothing_from_s e = subst FromSPart (sym e) no_s_part

pub s_alone : {x y : Word} → x ≡ S ∷ y → y ≡ [] → FromSPart x
s_alone e f = subst FromSPart (sym (e ∙ ap (λ (w : Word). S ∷ w) f)) (s_part no_r_part)

module _ (b : Bool) {x : Word} where
  pub r_then : (w : Word) → x ≡ R ∷ w → Tells b (FromSPart w) → Tells b (FromRPart x)
  r_then w e d = subst (λ (v : Word). Tells b (FromRPart v)) (sym e) (tells_same b r_part behind_r d)

  pub s_then_r : (w : Word) → x ≡ S ∷ R ∷ w → Tells b (FromRPart (R ∷ w)) → Tells b (FromSPart x)
  s_then_r w e d = subst (λ (v : Word). Tells b (FromSPart v)) (sym e) (tells_same b s_part behind_s d)

  pub ss_then : (w : Word) → x ≡ S ∷ S ∷ w → Tells b (FromRPart w) → Tells b (FromSPart x)
  ss_then w e d = subst (λ (v : Word). Tells b (FromSPart v)) (sym e) (tells_same b ss_part behind_ss d)

  pub parts_by_r : (w : Word) → x ≡ R ∷ w → Tells b (FromRPart x) → Tells b (Parts x)
  parts_by_r w e d = tells_same b inl (λ p. subst FromRPart (sym e) (parts_from_r (subst Parts e p))) d

  pub parts_by_s : (w : Word) → x ≡ S ∷ w → Tells b (FromSPart x) → Tells b (Parts x)
  parts_by_s w e d = tells_same b inr (λ p. subst FromSPart (sym e) (parts_from_s (subst Parts e p))) d
