-- A word that passes its questions fits, with its letters doubled, on the stack that its length chooses. Assumes nothing.
use mathlib.Core.Path.{refl, sym, ◌∙◌}
use Prim.Native.Nat.{◌*◌, ◌≤◌}
use lib.ListN.{length}
use Rattle.limits.specs.Limits.{most_letters}
use Rattle.words.specs.Word.{Word, nf, inverse}
use Rattle.refusals.proofs.Asking.{of_word_passed}
use Rattle.words.proofs.Writing.{writes_nothing}
use Rattle.std.proofs.lemmas.Result.{err_from_is_err_and}
use Rattle.words.proofs.invert.Goals.{In_ok-of_word}
use Rattle.words.proofs.invert.Goals as goal

-- the word has passed its questions
asked : (c : In_ok-of_word) → (length c.args.word.now ≤ most_letters) × (2 * length c.args.word.now ≤ length c.args.out.now)
asked c = of_word_passed c.args.word.now _ _ (sym c.of_word.ensures ∙ c.in_ok-of_word.was)

pub returns-in_err-of_word : goal.returns-in_err-of_word
returns-in_err-of_word c =
    let a = c.args in
    let p = err_from_is_err_and c.from_residual.result c.from_residual.ensures.1 in
    rw (p.1, p.2) (writes_nothing (λ (w : Word). nf (inverse w)) 2 a.word.now a.out.now _ c.of_word.result refl c.of_word.ensures c.in_err-of_word.was)
