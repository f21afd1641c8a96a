-- The target is reduced, which says what question 12 does, and the images decide. Assumes nothing.
use mathlib.Core.Path.{refl, sym, subst, ◌∙◌}
use Prim.Native.Nat.{ℕ, ◌<◌}
use Rattle.words.proofs.Answering.{reduce_refused}
use Rattle.refusals.proofs.Asking.{passed_not_refused}
use Rattle.lists.proofs.Passing.{list_alone, target_alone}
use Rattle.residues.proofs.Images.{image_small}
use Rattle.quick.proofs.deciding.answer_short.Goals.{After-of_form, Start}
use Rattle.quick.proofs.deciding.answer_short.Goals as goal

pub answer_images-requires : goal.answer_images-requires
answer_images-requires c =
    record {
      checked = list_alone c.args.bytes.now c.args.ends.now c.args.target.now c.requires;
      target_bound = subst (λ (k : ℕ). k < 168) (sym c.image_of.ensures) (image_small _);
    }

pub returns-in_err-account : goal.returns-in_err-account
returns-in_err-account c =
    absurd
    (passed_not_refused
    (sym (reduce_refused c.args.target.now _ _ _ c.reduce.ensures refl c.in_err-account.was)
    ∙ target_alone c.args.bytes.now c.args.ends.now c.args.target.now c.requires))
