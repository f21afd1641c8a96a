-- The first letter says by which part a word is tested. Assumes nothing.
use Rattle.std.proofs.Common.{drop, arith}
use Rattle.words.specs.Bytes.{word as word_of}
use Rattle.words.proofs.Parts.{rest_r, rest_s, rest_none, nothing_parts, parts_by_r, parts_by_s}
use Rattle.words.proofs.normality.normal.Goals as goal

pub returns-in-empty : goal.returns-in-empty
returns-in-empty c = nothing_parts (rest_none c.args.word.now 0 (omega arith))

pub returns-in-82 : goal.returns-in-82
returns-in-82 c =
    let w = c.args.word.now in
    parts_by_r c.from_r_part.result (word_of (drop 1 w)) (rest_r w 0 (omega arith) (omega arith)) c.from_r_part.ensures

pub returns-in_default : goal.returns-in_default
returns-in_default c =
    let w = c.args.word.now in
    parts_by_s c.from_s_part.result (word_of (drop 1 w)) (rest_s w 0 (omega arith) (λ e. omega arith)) c.from_s_part.ensures
