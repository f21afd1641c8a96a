-- The matrix of a short normal form has small entries. Assumes nothing.
use Rattle.std.proofs.Common.{◌≤◌, ◌^◌, sym, arith}
use mathlib.Core.Path.{subst}
use native.Mathlib.Nat.{le_trans}
use lib.ListN.{length-map}
use Rattle.words.specs.Bytes.{letter, word as word_of}
use Rattle.words.proofs.Reduced.{reduced_of_normal}
use Rattle.unimodular.specs.Matrix.{Matrix}
use Rattle.unimodular.proofs.Descent.{size}
use Rattle.unimodular.proofs.Bound.{size_reduced}
use Rattle.matrices.proofs.forming.of_normal_form.Goals as goal

pub with_sign-m-requires : goal.with_sign-m-requires
with_sign-m-requires c =
    let w = c.args.form.now in
    subst (λ (m : Matrix). size m ≤ 2 ^ 44) (sym c.product.ensures)
    (le_trans (size_reduced 40 (word_of w) (reduced_of_normal (word_of w) c.requires) (omega (arith, length-map w letter))) (omega arith))
