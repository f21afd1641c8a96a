-- An answer by what the questions say. Assumes nothing.
use mathlib.Core.Path.{◌≡◌, refl, sym, subst}
use mathlib.Core.List.{List, ◌∷◌}
use Rattle.std.specs.Prelude.{Result, Err}
use Rattle.words.specs.Word.{Word}
use Rattle.refusals.specs.Questions.{Asked, passed, first_no}
use Rattle.refusals.specs.declared.Refusal.{Refusal}
use Rattle.refusals.proofs.Asking.{passed_first, refused_first}
use Rattle.quick.specs.Calls.{AnsweredBy}
use Rattle.quick.specs.declared.Quick.{Quick}

module _ (gens : List Word) (target : Word) where
  pub by_refusal : (asked : Asked) {refusal : Refusal} → asked ≡ Err refusal → AnsweredBy asked gens target (Err refusal)
  by_refusal asked {refusal} e = subst (λ (a : Asked). AnsweredBy a gens target (Err refusal)) (sym e) refl

  -- one question more in front
  pub first_refuses : (first : Asked) (rest : List Asked) {refusal : Refusal} → first ≡ Err refusal
      → AnsweredBy (first_no (first ∷ rest)) gens target (Err refusal)
  first_refuses first rest e = by_refusal (first_no (first ∷ rest)) (refused_first first rest e)

  pub first_passes : (first : Asked) (rest : List Asked) (r : Result Quick Refusal) → first ≡ passed → AnsweredBy (first_no rest) gens target r
      → AnsweredBy (first_no (first ∷ rest)) gens target r
  first_passes first rest r e answered = subst (λ (a : Asked). AnsweredBy a gens target r) (sym (passed_first first rest e)) answered
