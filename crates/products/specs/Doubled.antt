-- How a signed list is, inside, a plain list of twice as many generators: its own, and their inverses behind them. Assumes nothing: this is a definition.
use Rattle.std.specs.Prelude.{ℕ, ◌+◌, ◌-◌, ltb}
use Rattle.refusals.specs.Telling.{pick}
use Rattle.products.specs.Product.{inverse_mark}

-- The number by which place i of a list of `count` generators with their inverses behind them is written.
abbrev pub signed_number : ℕ → ℕ → ℕ
signed_number count i = pick (ltb i count) i (inverse_mark + (i - count))
