-- What is promised by what the questions say, from the questions that were put. Assumes nothing.
use mathlib.Core.Path.{◌≡◌, refl, sym, subst, ◌∙◌}
use mathlib.Core.List.{List, [], ◌∷◌}
use Prim.Native.Nat.{ℕ}
use Rattle.refusals.specs.Questions.{Asked, passed}
use Rattle.std.specs.Prelude.{Result, Err}
use Rattle.refusals.specs.declared.Refusal.{Refusal}
use Rattle.refusals.proofs.Asking.{passed_first, refused_first, first_no_one}
use Rattle.products.specs.Product.{generators}
use Rattle.lists.specs.Questions.{of_list, question11}
use Rattle.lists.specs.NormalList.{normal_bytes, normal_ends}
use Rattle.queries.specs.Posing.{Lent, PosesReduced, ByQuestions, PosesList, of_query}
use Rattle.queries.specs.declared.Posed.{Posed}

module _ (bytes ends target : List ℕ) where
  by_refusal : (asked : Asked) {refusal : Refusal} (lent : Lent) → asked ≡ Err refusal
      → ByQuestions asked bytes ends target (Err refusal) lent lent
  by_refusal asked {refusal} lent e = subst (λ (a : Asked). ByQuestions a bytes ends target (Err refusal) lent lent) (sym e) (refl, refl)

  -- question 11 alone
  pub list_refused : {refusal : Refusal} (lent : Lent) → question11 (generators bytes ends) ≡ Err refusal
      → PosesList bytes ends target (Err refusal) lent lent
  list_refused lent e = by_refusal (question11 (generators bytes ends)) lent e

  pub list_posed : (r : Result Posed Refusal) (before after : Lent) → question11 (generators bytes ends) ≡ passed
      → PosesReduced (normal_bytes (generators bytes ends)) (normal_ends 0 (generators bytes ends)) target r before after
      → PosesList bytes ends target r before after
  list_posed r before after e poses = subst (λ (a : Asked). ByQuestions a bytes ends target r before after) (sym e) poses

  -- the questions before it too
  pub query_refused : {refusal : Refusal} (lent : Lent) → of_list bytes ends target ≡ Err refusal
      → ByQuestions (of_query bytes ends target) bytes ends target (Err refusal) lent lent
  query_refused lent e =
      by_refusal (of_query bytes ends target) lent (refused_first (of_list bytes ends target) (question11 (generators bytes ends) ∷ []) e)

  pub query_posed : (r : Result Posed Refusal) (before after : Lent) → of_list bytes ends target ≡ passed → PosesList bytes ends target r before after
      → ByQuestions (of_query bytes ends target) bytes ends target r before after
  query_posed r before after e poses =
      let eleven = question11 (generators bytes ends) in
      subst (λ (a : Asked). ByQuestions a bytes ends target r before after)
      (sym (passed_first (of_list bytes ends target) (eleven ∷ []) e ∙ first_no_one eleven)) poses
