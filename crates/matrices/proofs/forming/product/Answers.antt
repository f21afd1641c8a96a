-- One letter more. Assumes nothing.
use Rattle.std.proofs.Common.{ℕ, ◌≤◌, ◌^◌, get_or, sym, ◌∙◌, arith}
use mathlib.Core.Path.{ap₂, subst}
use native.Mathlib.Nat.{le_trans}
use lib.ListN.{length-map}
use Rattle.words.specs.Bytes.{letter, word as word_of}
use Rattle.unimodular.specs.Matrix.{Matrix, times, matrix_of_letter}
use Rattle.unimodular.proofs.Descent.{size}
use Rattle.unimodular.proofs.Bound.{prefix_bound}
use Rattle.matrices.proofs.Forms.{product_more}
use Rattle.matrices.proofs.forming.product.Goals as goal

pub times_letter-m-requires : goal.times_letter-m-requires
times_letter-m-requires c =
    let l = c.loop-i in
    let w = c.args.form.now in
    subst (λ (n : Matrix). size n ≤ 2 ^ 44) (sym l.invariant)
    (le_trans (prefix_bound 40 (word_of w) c.requires.normal (omega (arith, length-map w letter)) l.i) (omega arith))

pub loop-i-preserved : goal.loop-i-preserved
loop-i-preserved c =
    let l = c.loop-i in
    let w = c.args.form.now in
    c.times_letter-m.ensures
    ∙ ap₂ (λ (n : Matrix) (p : ℕ). times n (matrix_of_letter (letter (get_or w p 0)))) l.invariant (omega arith)
    ∙ product_more w l.i (omega arith)
