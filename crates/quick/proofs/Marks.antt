-- Marks and the queue.
--     grown_none, grown_then      marks and the front of the queue stay, over any number of steps
--     room_left                   while a mark is not set there is room in the queue
--     visit_new                   an image is marked and put behind the queue
-- Assumes nothing.
use mathlib.Core.Logic.{◌⊎◌, inl, inr}
use mathlib.Core.Path.{◌≡◌, refl, sym, ap, ◌∙◌}
use mathlib.Core.List.{List, [], ◌∷◌}
use Prim.Native.Nat.{ℕ, zero, suc, ◌+◌, ◌<◌}
use native.Mathlib.Nat.{not-suc-le-zero, le_of_suc-le-suc}
use native.Mathlib.Decide.{dec_lt, ℕ_discrete}
use native.Mathlib.Omega.{arith}
use lib.Dec.{lit<}
use lib.ListN.{length, get_or, set, length-set, replicate}
use lib.Seq.{get_or-set_same, get_or-set_other}
use Rattle.quick.specs.Closing.{Seen, unset, Marked, Grown, Visits}

module _ (visited queue : List ℕ) (count : ℕ) where
  pub grown_none : Grown visited queue count visited queue count
  grown_none = record { longer = omega arith; marks = λ k s. s; front = λ i h. refl }

pub grown_then : {v q v' q' v'' q'' : List ℕ} {n n' n'' : ℕ} → Grown v q n v' q' n' → Grown v' q' n' v'' q'' n'' → Grown v q n v'' q'' n''
grown_then g h =
    let longer = g.longer in
    record {
      longer = omega (arith, h.longer);
      marks = λ k s. h.marks k (g.marks k s);
      front = λ i inside. h.front i (omega arith) ∙ g.front i inside;
    }

-- a mark that is set is one less to set
unset_set : (v : List ℕ) (k : ℕ) → k < length v → get_or v k 0 ≡ 0 → suc (unset (set v k 1)) ≡ unset v
unset_set [] k h e = absurd (not-suc-le-zero h)
unset_set (zero ∷ v) zero h e = refl
unset_set (suc x ∷ v) zero h e = absurd (omega arith)
unset_set (zero ∷ v) (suc k) h e = ap suc (unset_set v k (le_of_suc-le-suc h) e)
unset_set (suc x ∷ v) (suc k) h e = unset_set v k (le_of_suc-le-suc h) e

module _ (v q : List ℕ) (n : ℕ) (m : Marked v q n) (k : ℕ) (small : k < 168) where
  inside : k < length v
  inside = omega (arith, m.width)

  module _ (new : get_or v k 0 ≡ 0) where
    pub room_left : n < length q
    room_left = omega (arith, m.room, m.counted, unset_set v k inside new)

    other : (x : ℕ) → Seen v x → get_or (set v k 1) x 0 ≡ get_or v x 0
    other x s = get_or-set_other v k x 1 0 (λ e. let z : get_or v x 0 ≡ 0 = ap (λ (y : ℕ). get_or v y 0) e ∙ new in omega arith)

    marks : (x : ℕ) → Seen v x → Seen (set v k 1) x
    marks x s = rw (other x s) s

    seen : Seen (set v k 1) k
    seen = rw (get_or-set_same v k 1 0 inside) (lit< tt)

    only : (x : ℕ) → Seen (set v k 1) x → Seen v x ⊎ (x ≡ k)
    only x s = elim (ℕ_discrete x k) [ yes e ↦ inr e | no ne ↦ inl (rw (get_or-set_other v k x 1 0 ne) at s) ]

    front : (i : ℕ) → i < n → get_or (set q n k) i 0 ≡ get_or q i 0
    front i h = get_or-set_other q n i k 0 (λ e. omega arith)

    last : get_or (set q n k) n 0 ≡ k
    last = get_or-set_same q n k 0 room_left

    queued : (i : ℕ) → i < n + 1 → (get_or (set q n k) i 0 < 168) × Seen (set v k 1) (get_or (set q n k) i 0)
    queued i h = elim (dec_lt i n) [ yes before ↦ (rw (front i before) (m.queued i before).0, rw (front i before) (marks (get_or q i 0) (m.queued i before).1)) | no after ↦ at_last (omega arith) ]
      where
        at_last : i ≡ n → (get_or (set q n k) i 0 < 168) × Seen (set v k 1) (get_or (set q n k) i 0)
        at_last e = rw (e, last) (small, seen)

    found : (x : ℕ) → Seen (set v k 1) x → (i : ℕ) × (i < n + 1) × (get_or (set q n k) i 0 ≡ x)
    found x s = go (only x s)
      where
        go : Seen v x ⊎ (x ≡ k) → (i : ℕ) × (i < n + 1) × (get_or (set q n k) i 0 ≡ x)
        go (inl old) = let (i, h, e) = m.found x old in (i, omega arith, front i h ∙ e)
        go (inr e) = (n, omega arith, last ∙ sym e)

    pub visit_new : Visits k v q n (set v k 1) (set q n k) (n + 1)
    visit_new =
        record {
          marked = record {
            width = omega (arith, length-set v k 1, m.width);
            room = omega (arith, length-set q n k, m.room);
            counted = omega (arith, m.counted, unset_set v k inside new);
            queued = queued;
            found = found;
          };
          grown = record { longer = omega arith; marks = marks; front = front };
          seen = seen;
          only = only;
        }

-- ---- before anything is marked

zeros : (n k : ℕ) → ◌≡◌ {A = ℕ} (get_or (replicate n 0) k 0) 0
zeros zero k = refl
zeros (suc n) zero = refl
zeros (suc n) (suc k) = zeros n k

pub none_seen : (k : ℕ) → Seen (replicate 168 0) k → ⊥
none_seen k s = omega (arith, zeros 168 k)

pub marked_none : Marked (replicate 168 0) (replicate 168 0) 0
marked_none =
    record { width = refl; room = refl; counted = refl; queued = λ i h. absurd (not-suc-le-zero h); found = λ k s. absurd (none_seen k s) }
