-- The fields of several numbers. Assumes nothing.
use mathlib.Core.Path.{◌≡◌, sym, ap, ◌∙◌}
use mathlib.Core.List.{List, [], ◌∷◌, ◌++◌, append-nil, append_assoc}
use Prim.Native.Nat.{ℕ}
use Rattle.answers.specs.Line.{field, fields_of}

-- one number more is one field more
pub fields_last : (ns : List ℕ) (n : ℕ) → fields_of (ns ++ (n ∷ [])) ≡ fields_of ns ++ field n
fields_last [] n = append-nil (field n)
fields_last (m ∷ ns) n = ap (λ (l : List ℕ). field m ++ l) (fields_last ns n) ∙ sym (append_assoc (field m) (fields_of ns) (field n))
