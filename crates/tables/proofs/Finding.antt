-- Nodes that are found by following the slices, and what is relaxed at them. Assumes nothing.
use mathlib.Core.Path.{◌≡◌, refl, sym, ap, subst, ◌∙◌}
use mathlib.Core.List.{List}
use Prim.Native.Nat.{ℕ, ◌≤◌, ◌<◌}
use native.Mathlib.Omega.{arith}
use Rattle.trees.specs.Tree.{at}
use Rattle.levels.specs.Levels.{Uses, Relaxed}
use Rattle.levels.proofs.Relaxing.{relaxed_none, relaxed_same}
use Rattle.std.specs.Prelude.{Option, Some, None}
use Rattle.tables.specs.Nodes.{Finds, Node, node_or, Noted, NotedAt, Begins, Front, Followed, LinkedBy}
use Rattle.tables.specs.Relaxing.{Inside, Joins, Through}

-- the child that is read is the one node that is noted
noted_finds : {count : ℕ} (children : List ℕ) (p : ℕ) (r : Option ℕ) → p < count → NotedAt children p r → Finds count (Noted children count p) (node_or count r)
noted_finds children p (Some c) below (positive, noted) =
    record { found = λ inside. (below, positive, noted); only = λ s inside is. sym is.2 ∙ noted }
noted_finds children p None below none =
    record { found = λ inside. absurd (omega arith); only = λ s inside is. absurd (omega (arith, is.1, is.2)) }

module _ {count : ℕ} {letters rests : List ℕ} where
  -- where the children agree with the letters and rests, the child that is noted is the node with the letter in front
  pub child_front : {letter p r : ℕ} {children : List ℕ} → LinkedBy count letters rests letter children
      → Finds count (Noted children count p) r → Finds count (λ a. Front count letters rests letter a p) r
  child_front {letter} {p} {r} {children} linked finds =
      record {
        found = λ inside.
            let (below, positive, noted) = finds.found inside in
            let (spelled, behind) = (linked.agree p below).child (omega (arith, noted)) in
            (positive, inside, ap (at letters) (sym noted) ∙ spelled, ap (at rests) (sym noted) ∙ behind);
        only = λ a inside front.
            let (positive, below, spelled, behind) = front in
            let p_inside : p < count = omega (arith, linked.followed.rest_earlier a positive below, behind) in
            finds.only a inside (p_inside, positive, ap (at children) (sym behind) ∙ (linked.agree a below).rest positive spelled);
      }

  -- the child that is read is the node with the letter in front, where there is one
  pub child_found : {letter p : ℕ} {children : List ℕ} (r : Option ℕ) → LinkedBy count letters rests letter children → p < count
      → NotedAt children p r → Finds count (λ a. Front count letters rests letter a p) (node_or count r)
  child_found r linked below noted = child_front linked (noted_finds _ _ r below noted)

  pub child_node : {letter p : ℕ} {children : List ℕ} (r : Option ℕ) → LinkedBy count letters rests letter children → p < count → NotedAt children p r → Node count r
  child_node {p = p} (Some c) linked below (positive, noted) = omega (arith, linked.followed.inside p below, noted)
  child_node None linked below none = tt

  -- a letter stands in front of a node only
  pub front_node : {letter a p : ℕ} {children : List ℕ} → Followed count letters rests children → Front count letters rests letter a p → p < count
  front_node {a = a} followed (positive, inside, spelled, behind) = omega (arith, followed.rest_earlier a positive inside)

module _ {count : ℕ} (letters rests : List ℕ) {letter : ℕ} (p : ℕ) where
  -- a letter that begins p's word stands in front of p's rest, and of no other node
  pub rest_front : p < count → Begins letters letter p → Finds count (Front count letters rests letter p) (at rests p)
  rest_front below begins = record { found = λ inside. (begins.0, below, begins.1, refl); only = λ s inside front. sym front.3 }

  -- a letter that does not begin it stands in front of no node
  pub no_front : (Begins letters letter p → ⊥) → (s : ℕ) → Front count letters rests letter p s → ⊥
  no_front not s front = not (front.0, front.2)

module _ {count : ℕ} where
  -- where nothing is found there is no such node
  pub not_found : {P : ℕ → Type 0} {r : ℕ} → Finds count P r → count ≤ r → (p : ℕ) → p < count → P p → ⊥
  not_found finds outside p inside is = omega (arith, finds.only p inside is)

  -- what is found from what was found
  pub finds_through : {P : ℕ → Type 0} {Q : ℕ → ℕ → Type 0} {m r : ℕ} → ((a : ℕ) → Q m a → m < count)
      → Finds count P m → Finds count (Q m) r → Finds count (Through count P Q) r
  finds_through {P} {Q} {m} {r} node first second =
      record {
        found = λ inside. let q = second.found inside in let below = node r q in (m, below, first.found below, q);
        only = λ a inside way. second.only a inside (subst (λ (n : ℕ). Q n a) (first.only way.0 way.1 way.2) way.3);
      }

  -- what was relaxed at the two nodes that are found
  pub joined : {P Q : ℕ → Type 0} {Y : ℕ → ℕ → Uses} {a b k : ℕ} {t t' : List ℕ} → Finds count P a → Finds count Q b
      → Relaxed k (Inside count a b Y) t t' → Relaxed k (Joins count P Q Y) t t'
  joined {P} {Q} {Y} {a} {b} left right relaxed =
      relaxed_same
      (λ q c y within. (a, b, y.0, y.1, left.found y.0, right.found y.1, y.2))
      (λ q c j within.
      let row : j.0 ≡ a = left.only j.0 j.2 j.4 in
      let column : j.1 ≡ b = right.only j.1 j.3 j.5 in (
        subst (λ (x : ℕ). x < count) row j.2,
        subst (λ (x : ℕ). x < count) column j.3,
        subst (λ (x : ℕ). Y x b q c) row (subst (λ (x : ℕ). Y j.0 x q c) column j.6),
      ))
      relaxed

  -- where there is no node to join, nothing is to be relaxed
  pub none_joined : {P Q : ℕ → Type 0} {Y : ℕ → ℕ → Uses} {k : ℕ} {t : List ℕ} → ((p : ℕ) → p < count → P p → ⊥) → Relaxed k (Joins count P Q Y) t t
  none_joined none = relaxed_none (λ q c joins. none joins.0 joins.2 joins.4)
