-- The questions of inversion are all answered yes. Assumes nothing.
use Rattle.std.proofs.Common.{arith}
use Rattle.words.specs.Word.{Word, nf, inverse}
use Rattle.lists.proofs.NormalForms.{form_written, answered}
use Rattle.lists.proofs.inverting.inverse_form.Goals as goal

pub unwrap-requires : goal.unwrap-requires
unwrap-requires c =
    let a = c.args in
    let p = c.requires in
    let m = c.invert in
    answered (λ (w : Word). nf (inverse w)) 2 a.letters.now a.from a.end a.out.now a.at m.result m.new.out p.from_le_end p.end_in_bounds p.all_letters p.letters_len_bound (omega arith) m.ensures

pub returns : goal.returns
returns c =
    let a = c.args in
    let p = c.requires in
    let m = c.invert in
    let all = form_written (λ (w : Word). nf (inverse w)) 2 a.letters.now a.from a.end a.out.now a.at m.result m.new.out p.from_le_end p.end_in_bounds p.all_letters p.letters_len_bound (omega arith) m.ensures c.unwrap.ensures in
    record { result_value = all.0; out_after = all.1 }
