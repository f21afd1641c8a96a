-- The bytes of a turn stand behind those of the turns before it.
use Rattle.std.proofs.Common.{◌≡◌, ℕ, ◌+◌, ◌-◌, ◌≤◌, List, ◌++◌, rules, arith, take, drop, sym, ap, ◌∙◌, subst}
use Rattle.std.specs.Io.KnownBytes.{Consumes}
use Rattle.std.proofs.KnownBytes.{Consumes-trans}
use lib.Seq.{take-add}
use Rattle.verdict.proofs.reading.read_card.Goals as goal

take-split : (a b : ℕ) (old new : List ℕ) → a ≤ b → take a new ≡ take a old → take a old ++ take (b - a) (drop a new) ≡ take b new
take-split a b old new h front =
    let same : a + (b - a) ≡ b = omega arith in
    ap (λ l. l ++ take (b - a) (drop a new)) (sym front) ∙ sym (take-add a (b - a) new) ∙ ap (λ n. take n new) same

pub loop-used-preserved : goal.loop-used-preserved
loop-used-preserved g c =
    let more : c.loop-used.used ≤ c.in-Continue.more = omega (arith, c.in-Continue.ensures.turns.0) in
    let joined = take-split c.loop-used.used c.in-Continue.more c.loop-used.card c.take_turn.new.card more c.in-Continue.ensures.card_unchanged in
    (search rules, search rules, subst (Consumes _ _) joined (Consumes-trans _ _ _ _ _ c.loop-used.invariant.2 c.in-Continue.ensures.adds))
