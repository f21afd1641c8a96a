-- The rules in which a pair is a premise are those that the code relaxes at it. Assumes that each node but the first is behind its rest.
use mathlib.Core.Path.{◌≡◌, refl, ap, subst}
use mathlib.Core.Logic.{◌⊎◌, inl, inr}
use mathlib.Core.List.{List}
use Prim.Native.Nat.{ℕ, ◌*◌, ◌<◌}
use native.Mathlib.Omega.{arith}
use Rattle.words.specs.Word.{Letter, R, S}
use Rattle.words.specs.Bytes.{byte}
use Rattle.trees.specs.Tree.{at}
use Rattle.levels.specs.Levels.{Uses, Relaxed, Using, first, second}
use Rattle.levels.proofs.Relaxing.{relaxed_then, relaxed_same}
use Rattle.tables.specs.Rules.{place, Rule, Is, B, C, D, E, F, G}
use Rattle.tables.specs.Nodes.{Front, RestsEarlier}
use Rattle.tables.specs.Relaxing.{One, Joins, UsesF, UsesR, UsesS, UsesE}
use Rattle.tables.proofs.Places.{place_inside, same_row, same_column}
use Rattle.tables.proofs.Forward.{rest_inside}

module _ (count : ℕ) (letters rests : List ℕ) (earlier : RestsEarlier rests count) where
  abbrev Rules : ℕ → ℕ → ℕ → Type 0
  Rules = Rule count letters rests

  module _ (x y : ℕ) (row : x < count) (column : y < count) where
    abbrev UsesAll : Uses
    UsesAll q c = ((UsesF count x y q c ⊎ UsesR count letters rests x y q c) ⊎ UsesS count letters rests x y q c) ⊎ UsesE count letters rests x y q c

    -- ---- what the code relaxes is by a rule

    code_f : (q c : ℕ) → UsesF count x y q c → Using Rules (place count x y) q c
    code_f q c (inl (j, inside, (same, same'))) = rw (same, same') (first (F x y j row column inside))
    code_f q c (inr (i, inside, (same, same'))) = rw (same, same') (second (F i x y inside row column))

    code_r : (q c : ℕ) → UsesR count letters rests x y q c → Using Rules (place count x y) q c
    code_r q c (inl (a, b, _, _, (r0, r1, r2, ra), (s0, s1, s2, sb), (same, same'))) =
        rw (same, same', ← ra, ← sb) (first (B a y (r0, r1, r2) (s0, s1, s2)))
    code_r q c (inr (a, b, _, _, (r0, r1, r2, ra), (s0, s1, s2, sb), (same, same'))) =
        rw (same, same', ← ra, ← sb) (first (G R a b (r0, r1, r2) (s0, s1, s2)))

    code_s : (q c : ℕ) → UsesS count letters rests x y q c → Using Rules (place count x y) q c
    code_s q c (inl (inl (a, b, _, _, (m, _, (m0, m1, m2, mx), (r0, r1, r2, ra)), (s0, s1, s2, sb), (same, same')))) =
        rw (same, same', ← mx, ← ra, ← sb) (first (C a y (r0, r1, r2) (rw ra (m0, m1, m2)) (s0, s1, s2)))
    code_s q c (inl (inr (a, b, _, _, (r0, r1, r2, ra), (m, _, (s0, s1, s2, sm), (m0, m1, m2, mb)), (same, same')))) =
        rw (same, same', ← ra, ← mb, ← sm) (first (D a y (r0, r1, r2) (s0, s1, s2) (rw sm (m0, m1, m2))))
    code_s q c (inr (a, b, _, _, (r0, r1, r2, ra), (s0, s1, s2, sb), (same, same'))) =
        rw (same, same', ← ra, ← sb) (first (G S a b (r0, r1, r2) (s0, s1, s2)))

    code_e : (q c : ℕ) → UsesE count letters rests x y q c → Using Rules (place count x y) q c
    code_e q c (a, v, _, _, (r0, r1, r2, ra), (m0, m1, m2, mv), (b, _, (t, _, (s0, s1, s2, st), inl (same, same')))) =
        rw (same, same', ← ra, ← mv, ← st) (first (E a y b (r0, r1, r2) (m0, m1, m2) (s0, s1, s2)))
    code_e q c (a, v, _, _, (r0, r1, r2, ra), (m0, m1, m2, mv), (b, _, (t, _, (s0, s1, s2, st), inr (same, same')))) =
        rw (same, same', ← ra, ← mv, ← st) (second (E b a y (s0, s1, s2) (r0, r1, r2) (m0, m1, m2)))

    code_uses : (q c : ℕ) → UsesAll q c → Using Rules (place count x y) q c
    code_uses q c (inl (inl (inl f))) = code_f q c f
    code_uses q c (inl (inl (inr r))) = code_r q c r
    code_uses q c (inl (inr s)) = code_s q c s
    code_uses q c (inr e) = code_e q c e

    -- ---- and each rule is relaxed by the code

    -- a node with its letter and rest, under another name
    front : {letter : ℕ} (a p : ℕ) → (0 < a) × (a < count) × (at letters a ≡ letter) → at rests a ≡ p → Front count letters rests letter a p
    front a p (positive, inside, spelled) behind = (positive, inside, spelled, behind)

    renamed : {letter : ℕ} (b c : ℕ) → b ≡ c → (0 < b) × (b < count) × (at letters b ≡ letter) → Front count letters rests letter c (at rests b)
    renamed {letter} b c same (positive, inside, spelled) =
        subst (λ (n : ℕ). Front count letters rests letter n (at rests b)) same (positive, inside, spelled, refl)

    by_g : (l : Letter) (a b : ℕ) → Is count letters rests l a → Is count letters rests l b → place count (at rests a) (at rests b) ≡ place count x y
        → Joins count (λ m. Front count letters rests (byte l) m x) (λ m. Front count letters rests (byte l) m y) (One count) (count * count) (place count a b)
    by_g l a b r s at_z =
        let s_rest = rest_inside count letters rests earlier b s.0 s.1 in (
          a,
          b,
          r.1,
          s.1,
          front a x r (same_row (at rests a) x s_rest column at_z),
          front b y s (same_column (at rests a) x s_rest column at_z),
          (refl, refl),
        )

    rule_first : {z q c : ℕ} → Rules z q c → z ≡ place count x y → UsesAll q c
    rule_first (B a b r s) at_z =
        let s_rest = rest_inside count letters rests earlier b s.0 s.1 in
        inl (inl (inr (inl (
          a,
          at rests b,
          r.1,
          s_rest,
          front a x r (same_row (at rests a) x s.1 column at_z),
          renamed b y (same_column (at rests a) x s.1 column at_z) s,
          (refl, refl),
        ))))
    rule_first (C a b r m s) at_z =
        let s_rest = rest_inside count letters rests earlier b s.0 s.1 in
        inl (inr (inl (inl (
          a,
          at rests b,
          r.1,
          s_rest,
          (at rests a, m.1, front (at rests a) x m (same_row (at rests (at rests a)) x s.1 column at_z), front a (at rests a) r refl),
          renamed b y (same_column (at rests (at rests a)) x s.1 column at_z) s,
          (refl, refl),
        ))))
    rule_first (D a b r s m) at_z =
        let m_rest = rest_inside count letters rests earlier (at rests b) m.0 m.1 in
        inl (inr (inl (inr (
          a,
          at rests (at rests b),
          r.1,
          m_rest,
          front a x r (same_row (at rests a) x s.1 column at_z),
          (at rests b, m.1, renamed b y (same_column (at rests a) x s.1 column at_z) s, front (at rests b) (at rests (at rests b)) m refl),
          (refl, refl),
        ))))
    rule_first (E a v b r m s) at_z =
        let m_rest = rest_inside count letters rests earlier v m.0 m.1 in
        let s_rest = rest_inside count letters rests earlier b s.0 s.1 in
        inr (
          a,
          at rests v,
          r.1,
          m_rest,
          front a x r (same_row (at rests a) x m.1 column at_z),
          renamed v y (same_column (at rests a) x m.1 column at_z) m,
          (b, s.1, (at rests b, s_rest, front b (at rests b) s refl, inl (refl, refl))),
        )
    rule_first (F u v j r m s) at_z =
        let row_same = same_row u x m column at_z in
        let column_same = same_column u x m column at_z in
        inl (inl (inl (inl (j, s, (ap (λ (n : ℕ). place count n j) column_same, ap (λ (n : ℕ). place count n j) row_same)))))
    rule_first (G R a b r s) at_z = inl (inl (inr (inr (by_g R a b r s at_z))))
    rule_first (G S a b r s) at_z = inl (inr (inr (by_g S a b r s at_z)))

    -- the place one past the end is no pair
    not_past : count * count ≡ place count x y → ⊥
    not_past at_z = let inside : place count x y < count * count = place_inside row column in omega arith

    rule_second : {p z c : ℕ} → Rules p z c → z ≡ place count x y → UsesAll p c
    rule_second (B a b r s) at_z = absurd (not_past at_z)
    rule_second (C a b r m s) at_z = absurd (not_past at_z)
    rule_second (D a b r s m) at_z = absurd (not_past at_z)
    rule_second (E a v b r m s) at_z =
        let r_rest = rest_inside count letters rests earlier a r.0 r.1 in
        let s_rest = rest_inside count letters rests earlier b s.0 s.1 in
        inr (
          v,
          at rests b,
          m.1,
          s_rest,
          front v x m (same_row (at rests v) x s.1 column at_z),
          renamed b y (same_column (at rests v) x s.1 column at_z) s,
          (a, r.1, (at rests a, r_rest, front a (at rests a) r refl, inr (refl, refl))),
        )
    rule_second (F u v j r m s) at_z =
        let row_same = same_row v x s column at_z in
        let column_same = same_column v x s column at_z in
        inl (inl (inl (inr (u, r, (ap (λ (n : ℕ). place count u n) row_same, ap (λ (n : ℕ). place count u n) column_same)))))
    rule_second (G l a b r s) at_z = absurd (not_past at_z)

    rule_uses : (q c : ℕ) → Using Rules (place count x y) q c → UsesAll q c
    rule_uses q c (first rule) = rule_first rule refl
    rule_uses q c (second rule) = rule_second rule refl

    -- the four parts of the code together
    pub pair_relaxed : {k : ℕ} {t t' t'' t''' t'''' : List ℕ} → Relaxed k (UsesF count x y) t t' → Relaxed k (UsesR count letters rests x y) t' t''
        → Relaxed k (UsesS count letters rests x y) t'' t''' → Relaxed k (UsesE count letters rests x y) t''' t'''' → Relaxed k (Using Rules (place count x y)) t t''''
    pair_relaxed f r s e =
        relaxed_same (λ q c uses within. code_uses q c uses) (λ q c uses within. rule_uses q c uses) (relaxed_then (relaxed_then (relaxed_then f r) s) e)
