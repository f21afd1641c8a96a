-- The products of the images in the queue are marked, one image after the other.
--     spreads_none, spreads_more      of one image in the queue, by one image taken in after the other
--     Passing, passing_more           of the first images in the queue
--     passed_closed                   of all of them: then the marks are closed
-- Assumes nothing.
use mathlib.Core.Logic.{◌⊎◌, inl, inr}
use mathlib.Core.Path.{◌≡◌, subst, ◌∙◌}
use mathlib.Core.List.{List}
use Prim.Native.Nat.{ℕ, ◌+◌, ◌≤◌, ◌<◌}
use native.Mathlib.Decide.{dec_lt}
use native.Mathlib.Omega.{arith}
use lib.ListN.{get_or}
use borrow.Author.Tests.{lt-ltb, le-ltb}
use Rattle.residues.specs.Residues.{multiplied}
use Rattle.residues.specs.Made.{Made, more}
use Rattle.quick.specs.Closing.{act, Seen, Marked, Grown, Visits, AllMade, Spreads, first_new, OldUsed, ClosedUnless}
use Rattle.quick.proofs.Marks.{grown_none, grown_then}

module _ (rows : List ℕ) (from taken i : ℕ) (v₀ q₀ : List ℕ) (n₀ : ℕ) (m₀ : Marked v₀ q₀ n₀) (inside : i < n₀) where
  pub spreads_none : Spreads rows from from taken i v₀ q₀ n₀ v₀ q₀ n₀
  spreads_none = record { marked = m₀; grown = grown_none v₀ q₀ n₀; used = λ b low high. absurd (omega arith); made = λ made. made }

  pub spreads_more : {v q v' q' : List ℕ} {n n' : ℕ} (b p : ℕ) → b < taken → p ≡ multiplied (act rows b) (get_or q₀ i 0)
      → Spreads rows from b taken i v₀ q₀ n₀ v q n → Visits p v q n v' q' n' → Spreads rows from (b + 1) taken i v₀ q₀ n₀ v' q' n'
  spreads_more {v} {q} {v'} b p h e spreads visits =
      record { marked = visits.marked; grown = grown_then spreads.grown visits.grown; used = used; made = made }
    where
      used : (x : ℕ) → from ≤ x → x < b + 1 → Seen v' (multiplied (act rows x) (get_or q₀ i 0))
      used x low high =
          elim (dec_lt x b) [ yes before ↦ visits.grown.marks (multiplied (act rows x) (get_or q₀ i 0)) (spreads.used x low before) | no after ↦ here (omega arith) ]
        where
          here : x ≡ b → Seen v' (multiplied (act rows x) (get_or q₀ i 0))
          here f = rw (f, ← e) visits.seen

      made : AllMade rows taken v₀ → AllMade rows taken v'
      made all x s = go (visits.only x s)
        where
          go : Seen v x ⊎ (x ≡ p) → Made (act rows) taken x
          go (inl old) = spreads.made all x old
          go (inr f) = more b (get_or q₀ i 0) x h (all (get_or q₀ i 0) (m₀.queued i inside).1) (f ∙ e)

-- the products of the first i in the queue are marked, where those of the first `old` with all but the last image taken in were
abbrev pub Passing : List ℕ → ℕ → ℕ → List ℕ → List ℕ → ℕ → List ℕ → List ℕ → Type 0
Passing rows taken old v₀ q₀ i v q =
    OldUsed rows taken old v₀ q₀ → (x b : ℕ) → x < i → b < taken → Seen v (multiplied (act rows b) (get_or q x 0))

module _ (rows : List ℕ) (taken old : ℕ) (some : 0 < taken) (v₀ q₀ : List ℕ) (n₀ : ℕ) (before : old ≤ n₀) where
  pub passing_none : Passing rows taken old v₀ q₀ 0 v₀ q₀
  passing_none used x b h k = absurd (omega arith)

  -- an image that is not new was multiplied before
  not_new : (i b : ℕ) → b < first_new i old taken → (i < old) × (b + 1 < taken)
  not_new i b h = elim (dec_lt i old) [ yes low ↦ (low, omega (arith, rw (lt-ltb i old low) at h)) | no high ↦ absurd (omega (arith, rw (le-ltb i old (omega arith)) at h)) ]

  pub passing_more : {v q v' q' : List ℕ} {n n' from : ℕ} (i : ℕ) → i < n → Grown v₀ q₀ n₀ v q n → Passing rows taken old v₀ q₀ i v q
      → from ≡ first_new i old taken → Spreads rows from taken taken i v q n v' q' n' → Passing rows taken old v₀ q₀ (i + 1) v' q'
  passing_more {v} {q} {v'} {q'} {n} {n'} {from} i inside grown passing first spreads used x b h k = elim (dec_lt x i) [ yes low ↦ earlier low | no high ↦ here (omega arith) ]
    where
      earlier : x < i → Seen v' (multiplied (act rows b) (get_or q' x 0))
      earlier low =
          rw (spreads.grown.front x (omega arith)) (spreads.grown.marks (multiplied (act rows b) (get_or q x 0)) (passing used x b low k))

      known : b < from → Seen v' (multiplied (act rows b) (get_or q i 0))
      known late =
          let (low, less) = not_new i b (rw first at late) in
          spreads.grown.marks (multiplied (act rows b) (get_or q i 0))
          (rw (grown.front i (omega arith)) (grown.marks (multiplied (act rows b) (get_or q₀ i 0)) (used i b low less)))

      here : x ≡ i → Seen v' (multiplied (act rows b) (get_or q' x 0))
      here e =
          rw (e, spreads.grown.front i inside)
          (elim (dec_lt b from) [ yes late ↦ known late | no new ↦ spreads.used b (omega arith) k ])

  pub passed_closed : {v q : List ℕ} {n : ℕ} (i target : ℕ) → n ≤ i → Marked v q n → Passing rows taken old v₀ q₀ i v q
      → OldUsed rows taken old v₀ q₀ → ClosedUnless rows taken target v
  passed_closed {v} i target all m passing used unless k b s h =
      let (x, inside, e) = m.found k s in
      subst (λ (y : ℕ). Seen v (multiplied (act rows b) y)) e (passing used x b (omega arith) h)
