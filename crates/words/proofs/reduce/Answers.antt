-- A word that passes its questions fits on the stack that its length chooses. Assumes nothing.
use Rattle.words.proofs.Writing.{reduces_nothing}
use Rattle.std.proofs.lemmas.Result.{err_from_is_err_and}
use native.Mathlib.Omega.{arith}
use Rattle.words.proofs.reduce.Goals.{In_ok-of_word}
use Rattle.words.proofs.reduce.Goals as goal

pub returns-in_err-of_word : goal.returns-in_err-of_word
returns-in_err-of_word c =
    let a = c.args in
    let p = err_from_is_err_and c.from_residual.result c.from_residual.ensures.1 in
    rw (p.1, p.2) (reduces_nothing a.word.now a.out.now _ c.of_word.result (omega arith) c.of_word.ensures c.in_err-of_word.was)
