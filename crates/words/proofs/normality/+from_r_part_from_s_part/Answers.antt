-- Each test looks at the next letters, and the parts follow from what is left of the word. Assumes nothing.
use Rattle.std.proofs.Common.{List, ℕ, drop, ap, subst, ◌∙◌, ◌∷◌, arith}
use Rattle.words.specs.Word.{S, Word}
use Rattle.words.specs.Bytes.{word as word_of}
use Rattle.refusals.specs.Telling.{Tells}
use Rattle.words.specs.Parts.{FromRPart, FromSPart}
use Rattle.words.proofs.Parts.{rest_r, rest_s, rest_none, without, nothing_from_r, nothing_from_s, s_alone, r_then, s_then_r, ss_then}
use Rattle.words.proofs.normality.+from_r_part_from_s_part.Goals as goal

pub from_r_part-returns-in-empty : goal.from_r_part-returns-in-empty
from_r_part-returns-in-empty t c = nothing_from_r (rest_none c.args.word.now 0 (omega arith))

pub from_r_part-returns-in-82 : goal.from_r_part-returns-in-82
from_r_part-returns-in-82 t c =
    let w = c.args.word.now in
    let n = c.from_s_part in
    r_then n.result (word_of (drop 1 w)) (rest_r w 0 (omega arith) (omega arith)) (subst (λ (l : List ℕ). Tells n.result (FromSPart (word_of l))) (without w 1) n.ensures)

pub from_s_part-returns-in-empty : goal.from_s_part-returns-in-empty
from_s_part-returns-in-empty t c = nothing_from_s (rest_none c.args.word.now 0 (omega arith))

pub from_s_part-returns-in-len1 : goal.from_s_part-returns-in-len1
from_s_part-returns-in-len1 t c =
    let w = c.args.word.now in
    s_alone (rest_s w 0 (omega arith) (λ e. omega arith)) (rest_none w 1 (omega arith))

pub from_s_part-returns-in-82-2 : goal.from_s_part-returns-in-82-2
from_s_part-returns-in-82-2 t c =
    let w = c.args.word.now in
    let n = c.from_r_part in
    let next = rest_r w 1 (omega arith) (omega arith) in
    s_then_r n.result (word_of (drop 2 w)) (rest_s w 0 (omega arith) (λ e. omega arith) ∙ ap (λ (l : Word). S ∷ l) next)
    (subst (λ (l : Word). Tells n.result (FromRPart l)) (ap word_of (without w 1) ∙ next) n.ensures)

pub from_s_part-returns-in-len2-up : goal.from_s_part-returns-in-len2-up
from_s_part-returns-in-len2-up t c =
    let w = c.args.word.now in
    let n = c.from_r_part-in-len2-up in
    ss_then n.result (word_of (drop 2 w))
    (rest_s w 0 (omega arith) (λ e. omega arith) ∙ ap (λ (l : Word). S ∷ l) (rest_s w 1 (omega arith) (λ e. omega arith)))
    (subst (λ (l : List ℕ). Tells n.result (FromRPart (word_of l))) (without w 2) n.ensures)
