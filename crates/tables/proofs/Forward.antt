-- The rules stay inside the table, and a rule with one premise leads to a larger row. Assumes that each node but the first is behind its rest.
use mathlib.Core.List.{List}
use Prim.Native.Nat.{ℕ, ◌*◌, ◌≤◌, ◌<◌}
use native.Mathlib.Nat.{le_refl}
use native.Mathlib.Omega.{arith}
use Rattle.trees.specs.Tree.{at}
use Rattle.levels.specs.Passes.{Forward}
use Rattle.tables.specs.Rules.{place, Rule, B, C, D, E, F, G}
use Rattle.tables.specs.Nodes.{RestsEarlier}
use Rattle.tables.proofs.Places.{place_inside, place_earlier}

module _ (count : ℕ) (letters rests : List ℕ) (earlier : RestsEarlier rests count) where
  pub rest_inside : (a : ℕ) → 0 < a → a < count → at rests a < count
  rest_inside a positive inside = omega (arith, earlier a positive inside)

  rules_inside : (p q c : ℕ) → Rule count letters rests p q c → (p < count * count) × (q ≤ count * count) × (c < count * count)
  rules_inside p q c (B a b r s) =
      (place_inside (rest_inside a r.0 r.1) s.1, le_refl _, place_inside r.1 (rest_inside b s.0 s.1))
  rules_inside p q c (C a b r m s) =
      (place_inside (rest_inside (at rests a) m.0 m.1) s.1, le_refl _, place_inside r.1 (rest_inside b s.0 s.1))
  rules_inside p q c (D a b r s m) =
      (place_inside (rest_inside a r.0 r.1) s.1, le_refl _, place_inside r.1 (rest_inside (at rests b) m.0 m.1))
  rules_inside p q c (E a v b r m s) =
      let middle : place count (at rests v) b < count * count = place_inside (rest_inside v m.0 m.1) s.1 in
      (place_inside (rest_inside a r.0 r.1) m.1, omega arith, place_inside r.1 (rest_inside b s.0 s.1))
  rules_inside p q c (F u v x r m s) = let middle : place count v x < count * count = place_inside m s in (place_inside r m, omega arith, place_inside r s)
  rules_inside p q c (G x a b r s) =
      (place_inside (rest_inside a r.0 r.1) (rest_inside b s.0 s.1), le_refl _, place_inside r.1 s.1)

  rules_later : (p q c : ℕ) → Rule count letters rests p q c → count * count ≤ q → p < c
  rules_later p q c (B a b r s) missing = place_earlier (at rests b) (earlier a r.0 r.1) s.1
  rules_later p q c (C a b r m s) missing =
      place_earlier (at rests b) (omega (arith, earlier a r.0 r.1, earlier (at rests a) m.0 m.1)) s.1
  rules_later p q c (D a b r s m) missing = place_earlier (at rests (at rests b)) (earlier a r.0 r.1) s.1
  rules_later p q c (E a v b r m s) missing =
      let middle : place count (at rests v) b < count * count = place_inside (rest_inside v m.0 m.1) s.1 in absurd (omega arith)
  rules_later p q c (F u v x r m s) missing = let middle : place count v x < count * count = place_inside m s in absurd (omega arith)
  rules_later p q c (G x a b r s) missing = place_earlier b (earlier a r.0 r.1) (rest_inside b s.0 s.1)

  pub rules_forward : Forward (Rule count letters rests) (count * count)
  rules_forward = record { inside = rules_inside; later = rules_later }
