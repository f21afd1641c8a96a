-- The letters of the inverse arrive at the stack, which is then copied out. Assumes nothing.
use Rattle.words.proofs.Writing.{held_writes}
use Rattle.words.proofs.invert_on.Goals as goal

pub returns : goal.returns
returns c =
    let arrived = c.arrive_inverse-top.ensures in
    let all = held_writes _ _ _ _ arrived.held _ _ _ (c.write_out.ensures.result_value, c.write_out.ensures.out_after) in record { result_value = all.0; out_after = all.1 }
