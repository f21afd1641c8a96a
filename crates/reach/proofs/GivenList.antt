-- From the reduced list and target to those that are given. Assumes nothing.
use mathlib.Core.Bool.{Bool, true, false}
use mathlib.Core.Path.{◌≡◌, sym, subst, ◌∙◌}
use mathlib.Core.List.{List, [], ◌∷◌, map}
use Prim.Native.Nat.{ℕ}
use lib.ListN.{length}
use Rattle.refusals.specs.Questions.{Asked, passed}
use Rattle.std.specs.Prelude.{Err, Ok}
use Rattle.words.specs.Word.{Word, nf}
use Rattle.words.specs.Bytes.{word}
use Rattle.refusals.specs.declared.Refusal.{Refusal}
use Rattle.refusals.proofs.Asking.{first_no_refused, first_no_passed, first_no_one}
use Rattle.products.specs.Product.{generators}
use Rattle.products.proofs.Reducing.{yes_reduced, no_reduced}
use Rattle.lists.specs.Questions.{of_list, question11}
use Rattle.lists.specs.NormalList.{total}
use Rattle.sizes.specs.Questions.{side}
use Rattle.queries.specs.Posing.{of_query}
use Rattle.reach.specs.Questions.{of_room, of_reachable}
use Rattle.reach.specs.Calls.{Lent, Reached, ReachedRight, ReachedBy, Reaches}
use Rattle.reach.specs.Deciding.{ReachesForm}
use Rattle.reach.proofs.AfterQuestions.{reached_refused}

-- a verdict on the reduced list and target is one on the given ones
given_right : (gens : List Word) (target : Word) (r : Bool) → ReachedRight (map nf gens) (nf target) r → ReachedRight gens target r
given_right gens target true right = (yes_reduced gens target).0 right
given_right gens target false right = (no_reduced gens target).0 right

given_reached : (gens : List Word) (target : Word) (asked : Asked) (q : ℕ) (r : Reached) (before after : Lent)
    → ReachedBy asked q (map nf gens) (nf target) r before after → ReachedBy asked q gens target r before after
given_reached gens target (Err refusal) q r before after reached = reached
given_reached gens target (Ok _) q (Ok verdict) before after (right, first, second) = (given_right gens target verdict right, first, second)
given_reached gens target (Ok _) q (Err refusal) before after reached = reached

module _ (bytes ends target : List ℕ) where
  abbrev gens : List Word
  gens = generators bytes ends

  -- the questions before m and t are known, and those after
  abbrev early : List Asked
  early = of_list bytes ends target ∷ question11 gens ∷ []

  abbrev late : Lent → Asked
  late lent = of_room (total gens) (length (nf (word target))) (length lent.first) (length lent.second)

  abbrev q : ℕ
  q = side (total gens) (length (nf (word target)))

  pub reaches_refused : {refusal : Refusal} (lent : Lent) → of_query bytes ends target ≡ Err refusal
      → Reaches bytes ends target (Err refusal) lent lent
  reaches_refused lent e =
      reached_refused (of_reachable bytes ends target (length lent.first) (length lent.second)) q gens (word target) lent
      (first_no_refused early (late lent ∷ []) e)

  pub reaches_reduced : (r : Reached) (before after : Lent) (m : ℕ) (form : Word) → of_query bytes ends target ≡ passed → m ≡ total gens → form ≡ nf (word target)
      → ReachesForm m (map nf gens) form r before after → Reaches bytes ends target r before after
  reaches_reduced r before after m form e letters reduced reached =
      subst (λ (a : Asked). ReachedBy a q gens (word target) r before after) (sym (first_no_passed early (late before ∷ []) e ∙ first_no_one (late before)))
      (given_reached gens (word target) (late before) q r before after (rw (letters, reduced) at reached))
