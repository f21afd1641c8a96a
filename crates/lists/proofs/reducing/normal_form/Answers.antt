-- The questions of reduction are all answered yes. Assumes nothing.
use Rattle.std.proofs.Common.{ap, refl, arith, Result, Ok, Err}
use Rattle.std.specs.Prelude.{IsOk}
use Rattle.refusals.specs.declared.Refusal.{Refusal}
use Rattle.words.specs.declared.Account.{Account}
use Rattle.words.specs.Word.{nf}
use Rattle.words.specs.Calls.{length_of}
use Rattle.lists.proofs.NormalForms.{form_written, answered}
use Rattle.lists.proofs.reducing.normal_form.Goals as goal

ok_of_length : (r : Result Account Refusal) → IsOk (length_of r) → IsOk r
ok_of_length (Ok account) e = refl
ok_of_length (Err refusal) e = e

pub unwrap-requires : goal.unwrap-requires
unwrap-requires c =
    let a = c.args in
    let p = c.requires in
    let m = c.reduce in
    ok_of_length m.result (answered nf 1 a.bytes.now a.from a.end a.out.now a.at (length_of m.result) m.new.out p.from_le_end p.end_in_bounds p.all_letters p.bytes_len_bound (omega arith) m.ensures.writes)

pub returns : goal.returns
returns c =
    let a = c.args in
    let p = c.requires in
    let m = c.reduce in
    let all = form_written nf 1 a.bytes.now a.from a.end a.out.now a.at (length_of m.result) m.new.out p.from_le_end p.end_in_bounds p.all_letters p.bytes_len_bound (omega arith) m.ensures.writes
    (ap length_of c.unwrap.ensures) in
    record { result_value = all.0; out_after = all.1 }
