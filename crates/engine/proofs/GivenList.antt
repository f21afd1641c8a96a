-- The verdict on a list and a target as they are given, from the one on what is reduced. Assumes nothing.
use mathlib.Core.Path.{◌≡◌, sym, subst, ◌∙◌}
use mathlib.Core.List.{List, [], ◌∷◌, map}
use Prim.Native.Nat.{ℕ}
use lib.ListN.{length, take}
use Rattle.refusals.specs.Questions.{Asked}
use Rattle.std.specs.Prelude.{Some, None, Err, Ok}
use Rattle.words.specs.Word.{Word, nf}
use Rattle.words.specs.Bytes.{word}
use Rattle.words.specs.declared.Letters.{Letters}
use Rattle.refusals.specs.declared.Refusal.{Refusal}
use Rattle.refusals.proofs.Asking.{first_no_passed, first_no_refused, first_no_one}
use Rattle.products.specs.Product.{generators, plain}
use Rattle.products.proofs.Reducing.{none_reduced, member_reduced}
use Rattle.lists.specs.Questions.{of_list, question11}
use Rattle.lists.specs.NormalList.{total}
use Rattle.sizes.specs.Questions.{side, of_sizes}
use Rattle.queries.specs.Posing.{Lent as Posed-as-Lent, of_query}
use Rattle.queries.proofs.PosedReady.{PosedReady}
use Rattle.engine.specs.Questions.{of_verdict}
use Rattle.engine.specs.Calls.{Verdict, Lent, VerdictRight, Judged, Judges}
use Rattle.engine.specs.Judging.{JudgesForm}
use Rattle.engine.proofs.Verdicts.{judged_refused}

module _ (gens : List Word) (target : Word) (n : ℕ) where
  -- reducing the generators and the target first changes no verdict
  pub given_right : (r : Verdict) (before after : List ℕ) → VerdictRight (plain (map nf gens)) (nf target) n r before after → VerdictRight (plain gens) target n r before after
  given_right (Ok (Some count)) before after (right, rest) = ((member_reduced gens target n (take count.0 after) count.0).0 right, rest)
  given_right (Ok None) before after (right, same) = ((none_reduced gens target n).0 right, same)
  given_right (Err refusal) before after right = right

  given_judged : (asked : Asked) (q : ℕ) (r : Verdict) (before after : Lent) → Judged asked q (plain (map nf gens)) (nf target) n r before after
      → Judged asked q (plain gens) target n r before after
  given_judged (Err refusal) q r before after judged = judged
  given_judged (Ok _) q r before after (right, first, second) = (given_right r before.witness after.witness right, first, second)

module _ (bytes ends target : List ℕ) (n : ℕ) where
  abbrev gens : List Word
  gens = generators bytes ends

  abbrev first_questions : List Asked
  first_questions = of_list bytes ends target ∷ question11 gens ∷ []

  abbrev sizes : Lent → Asked
  sizes lent = of_sizes (total gens) (length (nf (word target))) n (length lent.first) (length lent.second) (length lent.witness)

  abbrev asked : Lent → Asked
  asked lent = of_verdict bytes ends target n (length lent.first) (length lent.second) (length lent.witness)

  abbrev q : ℕ
  q = side (total gens) (length (nf (word target)))

  pub judges_refused : {refusal : Refusal} (lent : Lent) → of_query bytes ends target ≡ Err refusal → Judges bytes ends target n (Err refusal) lent lent
  judges_refused lent e = judged_refused q (plain gens) (word target) n (asked lent) lent (first_no_refused first_questions (sizes lent ∷ []) e)

  pub judges_ready : {m t : Letters} {count : ℕ} {posed : Posed-as-Lent} (r : Verdict) (before after : Lent) → PosedReady bytes ends target m t count posed
      → JudgesForm m.0 (map nf gens) (word (take t.0 posed.form)) n r before after → Judges bytes ends target n r before after
  judges_ready r before after ready judged =
      let sized = first_no_passed first_questions (sizes before ∷ []) ready.passed ∙ first_no_one (sizes before) in
      subst (λ (a : Asked). Judged a q (plain gens) (word target) n r before after) (sym sized)
      (given_judged gens (word target) n (sizes before) q r before after (rw (ready.forms.letters, ready.forms.form) at judged))
