-- What the rules make at a pair of nodes is the weight of a series that leads from the one's word to the other's. Assumes that a series weighs what its
-- parts weigh together.
use mathlib.Core.Path.{◌≡◌, refl, sym, ap, subst, ◌∙◌}
use mathlib.Core.Logic.{◌≢◌}
use mathlib.Core.List.{List, [], ◌∷◌, ◌++◌, nil≢cons}
use Prim.Native.Nat.{ℕ, ◌+◌, ◌*◌, ◌≤◌, ◌<◌}
use native.Mathlib.Omega.{arith}
use lib.ListN.{length}
use Rattle.words.specs.Word.{R, S, Word}
use Rattle.products.specs.State.{Leads}
use Rattle.products.proofs.States.{A, step_leads, leads_append, leads_behind}
use Rattle.trees.specs.Tree.{at, word_at, Tree}
use Rattle.tables.specs.Rules.{place, Rule, B, C, D, E, F, G}
use Rattle.tables.specs.Levelling.{Made, whole, one, two}
use Rattle.tables.proofs.Places.{place_inside, same_row, same_column}
use Rattle.tables.proofs.Forward.{rules_forward}
use Rattle.trees.proofs.Nodes.{is_letter}
use Rattle.tables.proofs.Leading.{leads_as, leads_b, leads_c, leads_d, leads_e}

module _ {gens words : List Word} {letters rests children_r children_s wholes : List ℕ} (tree : Tree gens words letters rests children_r children_s wholes)
    (weight : List ℕ → ℕ) (weight_append : (a b : List ℕ) → weight (a ++ b) ≡ weight a + weight b) where
  -- a series, not empty, of weight k that leads from u to v
  pub record Led (u v : Word) (k : ℕ) : Type 0 where
    pub by : List ℕ
    pub some : by ≢ []
    pub leads : Leads gens u by v
    pub weighs : weight by ≡ k

  -- the same at a place, for whatever pair of nodes has it
  abbrev LedAt : ℕ → ℕ → Type 0
  LedAt z k = (x y : ℕ) → x < length words → y < length words → z ≡ place (length words) x y → Led (word_at words x) (word_at words y) k

  led_at : {a b k : ℕ} → a < length words → b < length words → Led (word_at words a) (word_at words b) k → LedAt (place (length words) a b) k
  led_at {a} {b} {k} row column led x y row' column' same =
      subst (λ (i : ℕ). Led (word_at words i) (word_at words y) k) (same_row a x column column' same)
      (subst (λ (j : ℕ). Led (word_at words a) (word_at words j) k) (same_column a x column column' same) led)

  rest_inside : (a : ℕ) → 0 < a → a < length words → at rests a < length words
  rest_inside a positive inside = omega (arith, tree.shape.rest_earlier a positive inside)

  -- a rule with one premise keeps the series, one with two joins them
  kept : {u v u' v' : Word} {k : ℕ} → ((r : List ℕ) → Leads gens u r v → Leads gens u' r v') → Led u v k → Led u' v' k
  kept step led = record { by = led.by; some = led.some; leads = step led.by led.leads; weighs = led.weighs }

  append_some : (a b : List ℕ) → a ≢ [] → a ++ b ≢ []
  append_some [] b some = absurd (some refl)
  append_some (j ∷ a) b some = λ none. nil≢cons (sym none)

  joined : {u v u' v' u'' v'' : Word} {k k' : ℕ} → ((r s : List ℕ) → Leads gens u r v → Leads gens u' s v' → Leads gens u'' (r ++ s) v'')
      → Led u v k → Led u' v' k' → Led u'' v'' (k + k')
  joined step led led' =
      record {
        by = led.by ++ led'.by;
        some = append_some led.by led'.by led.some;
        leads = step led.by led'.by led.leads led'.leads;
        weighs = omega (arith, weight_append led.by led'.by, led.weighs, led'.weighs);
      }

  made_one : {p q c v : ℕ} → Rule (length words) letters rests p q c → length words * length words ≤ q → LedAt p v → LedAt c v
  made_one (B a b (a0, a1, a2) (b0, b1, b2)) past led =
      led_at a1 (rest_inside b b0 b1)
      (kept (λ r l. leads_as gens (sym (is_letter tree R a a0 a1 a2)) refl (leads_b gens (leads_as gens refl (is_letter tree R b b0 b1 b2) l)))
      (led (at rests a) b (rest_inside a a0 a1) b1 refl))
  made_one (C a b (a0, a1, a2) (m0, m1, m2) (b0, b1, b2)) past led =
      led_at a1 (rest_inside b b0 b1)
      (kept
      (λ r l. leads_as gens (sym (is_letter tree S a a0 a1 a2 ∙ ap (λ (u : Word). S ∷ u) (is_letter tree S (at rests a) m0 m1 m2))) refl
      (leads_c gens (leads_as gens refl (is_letter tree S b b0 b1 b2) l)))
      (led (at rests (at rests a)) b (rest_inside (at rests a) m0 m1) b1 refl))
  made_one (D a b (a0, a1, a2) (b0, b1, b2) (m0, m1, m2)) past led =
      led_at a1 (rest_inside (at rests b) m0 m1)
      (kept
      (λ r l. leads_as gens (sym (is_letter tree S a a0 a1 a2)) refl
      (leads_d gens (leads_as gens refl (is_letter tree S b b0 b1 b2 ∙ ap (λ (u : Word). S ∷ u) (is_letter tree S (at rests b) m0 m1 m2)) l)))
      (led (at rests a) b (rest_inside a a0 a1) b1 refl))
  made_one (E a v b r (m0, m1, m2) (b0, b1, b2)) past led =
      let inside : place (length words) (at rests v) b < length words * length words = place_inside (rest_inside v m0 m1) b1 in absurd (omega arith)
  made_one (F u v j r m s) past led =
      let inside : place (length words) v j < length words * length words = place_inside m s in absurd (omega arith)
  made_one (G x a b (a0, a1, a2) (b0, b1, b2)) past led =
      led_at a1 b1
      (kept (λ r l. leads_as gens (sym (is_letter tree x a a0 a1 a2)) (sym (is_letter tree x b b0 b1 b2)) (leads_behind gens (x ∷ []) l))
      (led (at rests a) (at rests b) (rest_inside a a0 a1) (rest_inside b b0 b1) refl))

  made_two : {p q c v v' : ℕ} → Rule (length words) letters rests p q c → q < length words * length words → LedAt p v → LedAt q v' → LedAt c (v + v')
  made_two (B a b r s) inside led led' = absurd (omega arith)
  made_two (C a b r m s) inside led led' = absurd (omega arith)
  made_two (D a b r s m) inside led led' = absurd (omega arith)
  made_two (E a v b (a0, a1, a2) (v0, v1, v2) (b0, b1, b2)) inside led led' =
      led_at a1 (rest_inside b b0 b1)
      (joined
      (λ r s l m. leads_as gens (sym (is_letter tree S a a0 a1 a2)) refl
      (leads_e gens (leads_as gens refl (is_letter tree S v v0 v1 v2) l) (leads_as gens refl (is_letter tree S b b0 b1 b2) m)))
      (led (at rests a) v (rest_inside a a0 a1) v1 refl) (led' (at rests v) b (rest_inside v v0 v1) b1 refl))
  made_two (F u v j r m s) inside led led' =
      led_at r s (joined (λ a b l l'. leads_append gens l l') (led u v r m refl) (led' v j m s refl))
  made_two (G x a b r s) inside led led' = absurd (omega arith)

  made_inside : {z v : ℕ} → Made (length words) letters rests wholes weight z v → z < length words * length words
  made_inside (whole j below) = place_inside {x = 0} tree.shape.some (tree.shape.whole_inside j below)
  made_inside (one {p} {q} {c} rule past made) = ((rules_forward (length words) letters rests tree.shape.rest_earlier).inside p q c rule).2
  made_inside (two {p} {q} {c} rule made other) = ((rules_forward (length words) letters rests tree.shape.rest_earlier).inside p q c rule).2

  -- rule A: generator j leads from nothing to its own node
  whole_led : (j : ℕ) → j < length wholes → Led (word_at words 0) (word_at words (at wholes j)) (weight (j ∷ []))
  whole_led j below =
      let factor : j < length gens = omega (arith, tree.wholes_count) in
      record {
        by = j ∷ [];
        some = λ none. nil≢cons (sym none);
        leads = leads_as gens (sym tree.root) (sym (tree.whole j factor)) (step_leads gens (A j factor));
        weighs = refl;
      }

  made_led : {z v : ℕ} → Made (length words) letters rests wholes weight z v → LedAt z v
  made_led (whole j below) = led_at tree.shape.some (tree.shape.whole_inside j below) (whole_led j below)
  made_led (one rule past made) = made_one rule past (made_led made)
  made_led (two rule made other) = made_two rule (made_inside other) (made_led made) (made_led other)

  -- what the rules make at a pair of nodes
  pub pair_led : {x y v : ℕ} → x < length words → y < length words → Made (length words) letters rests wholes weight (place (length words) x y) v
      → Led (word_at words x) (word_at words y) v
  pair_led {x} {y} row column made = made_led made x y row column refl
