-- Places of a list with its inverses behind it, written as signed numbers: inner contracts. Assumes nothing: these are definitions.
use Rattle.std.specs.Prelude.{Some, None, Ok, Err, List, map, ◌++◌, ℕ, ◌+◌, ◌-◌, ltb, leb, length, take, drop}
use Rattle.refusals.specs.Telling.{pick}
use Rattle.products.specs.Product.{inverse_mark}
use Rattle.engine.specs.Calls.{Verdict}

-- The signed number of a place; of a number that is no place of such a list whatever fits a byte.
abbrev pub signed_byte : ℕ → ℕ → ℕ
signed_byte generators i = pick (ltb i generators) i (pick (ltb (i - generators) inverse_mark) (inverse_mark + (i - generators)) (i - generators))

-- the factors of a member are signed, what stands behind them is as it was
abbrev pub signed_front : ℕ → ℕ → List ℕ → List ℕ
signed_front generators count witness = pick (leb count (length witness)) (map (signed_byte generators) (take count witness) ++ drop count witness) witness

abbrev pub signed_factors : Verdict → ℕ → List ℕ → List ℕ
signed_factors (Ok (Some count)) generators witness = signed_front generators count.0 witness
signed_factors (Ok None) generators witness = witness
signed_factors (Err refusal) generators witness = witness
