-- Two products of entries in range, and their difference, fit. Assumes nothing.
use mathlib.Core.Path.{◌≡◌}
use native.Mathlib.Omega.{arith}
use lib.IntN.{◌-ℤ◌, ◌*ℤ◌}
use Rattle.unimodular.specs.Matrix.{Matrix, determinant}
use Rattle.unimodular.proofs.Integers.{nat_abs-*ℤ}
use Rattle.refusals.specs.Questions.{passed}
use Rattle.matrices.specs.Entries.{matrix}
use Rattle.matrices.specs.Questions.{question5}
use Rattle.matrices.proofs.Signed.{reading, Computes, read, product, difference}
use Rattle.matrices.proofs.Range.{Small, small_of_passed, product_small}
use Rattle.matrices.proofs.questions.determinant.Goals as goal

module _ (m : Matrix) (e : question5 m ≡ passed) where
  small : Small m
  small = small_of_passed m e

  ad : Computes (reading m.a *ℤ reading m.d) (m.a *ℤ m.d)
  ad =
      let s = small in
      product (read m.a (omega arith)) (read m.d (omega arith)) (omega (arith, product_small m.a m.d s.a_small s.d_small))

  bc : Computes (reading m.b *ℤ reading m.c) (m.b *ℤ m.c)
  bc =
      let s = small in
      product (read m.b (omega arith)) (read m.c (omega arith)) (omega (arith, product_small m.b m.c s.b_small s.c_small))

  ad-bc : Computes (reading (reading m.a *ℤ reading m.d) -ℤ reading (reading m.b *ℤ reading m.c)) (determinant m)
  ad-bc =
      let s = small in
      difference ad.value bc.value
      (omega (arith, nat_abs-*ℤ m.a m.d, nat_abs-*ℤ m.b m.c, product_small m.a m.d s.a_small s.d_small, product_small m.b m.c s.b_small s.c_small))

pub overflow_sub-result : goal.overflow_sub-result
overflow_sub-result c = (ad-bc (matrix c.args.m) c.requires).within

pub returns : goal.returns
returns c = (ad-bc (matrix c.args.m) c.requires).value
