-- Just the normal words are series of parts. Assumes nothing.
use Rattle.words.specs.Bytes.{word as word_of}
use Rattle.words.proofs.is_normal.Goals as goal
use Rattle.words.specs.Calls.{TestedRight}
use Rattle.std.proofs.Common.{Ok, subst, sym, ◌∙◌}
use Rattle.refusals.specs.Questions.{Asked}
use Rattle.refusals.proofs.Telling.{tells_same}
use Rattle.words.proofs.Parts.{parts_normal}

pub returns : goal.returns
returns c =
    let w = word_of c.args.word.now in
    let same = parts_normal w in
    subst (λ (q : Asked). TestedRight q w (Ok c.normal.result)) (sym c.in_ok-of_letters.was ∙ c.of_letters.ensures) (tells_same c.normal.result same.0 same.1 c.normal.ensures)
