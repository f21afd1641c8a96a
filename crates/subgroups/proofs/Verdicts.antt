-- The signed verdict with what is lent, by what the questions say. Assumes nothing.
use mathlib.Core.Bool.{Bool}
use mathlib.Core.Path.{◌≡◌, refl, sym, ap, subst, ◌∙◌}
use mathlib.Core.List.{List, map}
use Prim.Native.Nat.{ℕ}
use native.Mathlib.Omega.{arith}
use lib.ListN.{length}
use Rattle.refusals.specs.Questions.{Asked, passed}
use Rattle.std.specs.Prelude.{Err}
use Rattle.slices.specs.Slices.{overwritten, Pastes}
use Rattle.slices.proofs.Slices.{pasted_front}
use Rattle.words.specs.Word.{Word, nf}
use Rattle.refusals.specs.declared.Refusal.{Refusal}
use Rattle.products.specs.Product.{plain, signed, inverses, with_inverses}
use Rattle.lists.specs.NormalList.{total, normal_bytes}
use Rattle.sizes.specs.Questions.{side}
use Rattle.engine.specs.Calls.{Verdict, Lent, VerdictRight, Judged}
use Rattle.engine.proofs.GivenList.{given_right}
use Rattle.subgroups.specs.Calls.{SignedJudged}
use Rattle.subgroups.specs.Signing.{signed_factors}
use Rattle.subgroups.specs.Judging.{InverseForms, sizes_asked, JudgesSizes}
use Rattle.subgroups.proofs.SignedFactors.{verdict_signed}
use Rattle.subgroups.proofs.Sizes.{signed_sizes_passed}

module _ (gens : List Word) (target : Word) (n : ℕ) where
  -- the same questions by another name
  pub signed_judged : {asked other : Asked} (r : Verdict) (before after : Lent) (slice slice' : List ℕ) → asked ≡ other
      → SignedJudged asked gens target n r before after slice slice' → SignedJudged other gens target n r before after slice slice'
  signed_judged r before after slice slice' e judged = subst (λ (a : Asked). SignedJudged a gens target n r before after slice slice') e judged

  -- a refusal changes nothing
  pub signed_refused : {asked : Asked} {refusal : Refusal} (lent : Lent) (slice : List ℕ) → asked ≡ Err refusal
      → SignedJudged asked gens target n (Err refusal) lent lent slice slice
  signed_refused {asked} {refusal} lent slice e =
      signed_judged {asked = Err refusal} {other = asked} (Err refusal) lent lent slice slice (sym e) (record { judged = (refl, refl); inverses_written = refl })

  -- a verdict by the places of the list with its inverses is settled, its factors are signed, and the inverses' forms are written
  pub signed_settled : {forms : List ℕ} {count : ℕ} {b : Bool} (r : Verdict) (before middle after : Lent) (slice slice' : List ℕ)
      → InverseForms gens forms count → sizes_asked gens target n before slice ≡ passed → (m : ℕ) (form : Word) → m ≡ total (with_inverses gens) → form ≡ nf target
      → Judged passed (side m (length form)) (plain (map nf (with_inverses gens))) form n r before middle
      → after.first ≡ middle.first → after.second ≡ middle.second → after.witness ≡ signed_factors r count middle.witness
      → Pastes forms 0 slice b slice' → JudgesSizes gens target n r before after slice slice'
  signed_settled {forms} {count} r before middle after slice slice' are e m form m_is form_is judged f s w pastes =
      let (right, first, second) = rw (m_is, form_is) at judged in
      let sizes_passed = signed_sizes_passed (total (with_inverses gens)) (length (nf target)) n (length before.first) (length before.second) (length before.witness) (length slice) e in
      let places = given_right (with_inverses gens) target n r before.witness middle.witness right in
      let signs : after.witness ≡ signed_factors r (length gens) middle.witness =
      w ∙ ap (λ (k : ℕ). signed_factors r k middle.witness) are.counts in
      let few = are.few in
      let front : slice' ≡ overwritten (normal_bytes (inverses gens)) slice =
      pasted_front pastes (omega (arith, are.short, sizes_passed.0)) ∙ ap (λ (l : List ℕ). overwritten l slice) are.written in
      signed_judged {asked = passed} {other = sizes_asked gens target n before slice} r before after slice slice' (sym e)
      (record {
        judged = (
          subst (VerdictRight (signed gens) target n r before.witness) (sym signs) (verdict_signed gens (omega arith) target n r before.witness middle.witness places),
          f ∙ first,
          s ∙ second,
        );
        inverses_written = front;
      })
