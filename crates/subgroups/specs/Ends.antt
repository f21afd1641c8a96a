-- The ends of a reduced list with its inverses behind it: inner contract of the parts. Assumes nothing: this is a definition.
use Rattle.std.specs.Prelude.{◌≡◌, List, ℕ, length, take}
use Rattle.words.specs.Word.{Word}
use Rattle.products.specs.Product.{with_inverses}
use Rattle.lists.specs.NormalList.{total, normal_ends}

-- In front of the slice; `count` are the generators, and `given` the letters of their normal forms together.
pub record DoubledEnds (gens : List Word) (ends : List ℕ) (count given : ℕ) : Type 0 where
  pub ends_are : take (length (with_inverses gens)) ends ≡ normal_ends 0 (with_inverses gens)
  pub counts : count ≡ length gens
  pub letters : given ≡ total gens
