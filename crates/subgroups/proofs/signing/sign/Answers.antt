-- One number more is signed. Assumes nothing.
use mathlib.Core.Path.{◌≡◌, ap, ap₂, ◌∙◌}
use mathlib.Core.List.{List}
use Prim.Native.Nat.{ℕ, ◌≤◌}
use lib.ListN.{length, set, get_or}
use native.Mathlib.Omega.{arith}
use Rattle.subgroups.specs.Signing.{signed_byte}
use Rattle.subgroups.proofs.SignedFactors.{mapped_next, mapped_more, mapped_all}
use Rattle.subgroups.proofs.signing.sign.Goals as goal

pub loop-number-preserved : goal.loop-number-preserved
loop-number-preserved c =
    let l = c.loop-number in
    let i = l.number-index in
    let f = signed_byte c.args.generators in
    let old = c.args.series.now in
    let value : c.signed_number.result ≡ f (get_or old i 0) =
    c.signed_number.ensures ∙ ap (λ (s : List ℕ). f (get_or s i 0)) l.invariant ∙ ap f (mapped_next f old i (omega arith)) in
    ap₂ (λ (s : List ℕ) (v : ℕ). set s i v) l.invariant value ∙ mapped_more f old i (omega arith)

pub returns : goal.returns
returns c =
    let l = c.loop-number in
    let old = c.args.series.now in
    let end : length old ≤ l.number-index = omega arith in
    l.invariant ∙ mapped_all (signed_byte c.args.generators) old l.number-index end
