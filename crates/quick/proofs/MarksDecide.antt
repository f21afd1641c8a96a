-- What the marks say once the images of the generators are taken in: of all of them for a no, of some for an open answer.
-- Assumes nothing.
use mathlib.Core.Path.{◌≡◌, refl, sym, ap, subst, ◌∙◌}
use mathlib.Core.List.{List, [], ◌∷◌}
use Prim.Native.Nat.{ℕ, ◌+◌, ◌≤◌, ◌<◌}
use native.Mathlib.Nat.{not-suc-le-zero, add-zero}
use native.Mathlib.Omega.{arith}
use lib.ListN.{length, drop, get_or, replicate, length-replicate}
use lib.Seq.{slice, get_or-drop, drop-drop}
use Rattle.words.specs.Word.{Word}
use Rattle.words.specs.Bytes.{word}
use Rattle.products.specs.Product.{generators_from, generators, generator, Factor, plain}
use Rattle.products.proofs.Generators.{generators_length}
use Rattle.lists.specs.Reducing.{Checked}
use Rattle.lists.proofs.Behind.{Behind, behind_begins, behind_next, generators_next}
use Rattle.residues.specs.Residues.{image, QuickNoRight, OpenRight}
use Rattle.residues.specs.Made.{Made}
use Rattle.residues.proofs.Closing.{made_open, closed_no}
use Rattle.quick.specs.Closing.{act, RowsRight, Seen, Marked, Held, TakesIn}
use Rattle.quick.specs.declared.closing.Marks.{Marks}
use Rattle.quick.specs.declared.closing.Rows.{Rows}
use Rattle.quick.proofs.Marks.{none_seen, marked_none}

-- ---- the generator at hand

module _ (gens : List Word) (i : ℕ) (g : Word) (rest : List Word) (e : drop i gens ≡ g ∷ rest) where
  pub at_hand : generator gens i ≡ g
  at_hand = ap (λ (k : ℕ). get_or gens k []) (sym (add-zero i)) ∙ sym (get_or-drop i gens 0 []) ∙ ap (λ (l : List Word). get_or l 0 []) e

  pub behind_it : drop (i + 1) gens ≡ rest
  behind_it = sym (drop-drop 1 i gens) ∙ ap (drop 1) e

-- ---- before any image

pub rows_none : (rows : List ℕ) → RowsRight rows 0
rows_none rows = record { inside = omega arith; small = λ b h. absurd (not-suc-le-zero h); row = λ b k h inside. absurd (not-suc-le-zero h) }

pub held_none : (gens : List Word) (target : ℕ) (rows : List ℕ) → Held gens 0 target rows (replicate 168 0) 0
held_none gens target rows =
    record {
      from_list = λ b h. absurd (not-suc-le-zero h);
      made = λ k s. absurd (none_seen k s);
      covers = λ i h. absurd (not-suc-le-zero h);
      closed = λ unless k b s h. absurd (not-suc-le-zero h);
    }

-- ---- the answer

module _ (gens : List Word) (j target : ℕ) (rows visited : List ℕ) (taken : ℕ) (held : Held gens j target rows visited taken) (inside : j ≤ length gens)
    (w : Word) (e : target ≡ image w) where
  from_list : (b : ℕ) → b < taken → (i : ℕ) × Factor gens i × (act rows b ≡ image (generator gens i))
  from_list b h = let (i, low, f) = held.from_list b h in (i, omega arith, f)

  pub held_open : Seen visited target → OpenRight (plain gens) w
  held_open s = made_open gens (act rows) taken from_list w (subst (λ (k : ℕ). Made (act rows) taken k) e (held.made target s))

  pub held_no : length gens ≤ j → (Seen visited target → ⊥) → QuickNoRight (plain gens) w
  held_no all unless =
      closed_no gens (act rows) taken from_list (Seen visited) held.made (λ i h. held.covers i (omega arith)) (λ k b s h. held.closed unless k b s h) w
      (λ s. unless (subst (Seen visited) (sym e) s))

-- ---- the loop over the generators: the first i are taken in

pub record Taking (bytes ends : List ℕ) (target from i : ℕ) (rows : Rows) (marks : Marks) : Type 0 where
  pub within : i ≤ length ends
  pub behind : Behind bytes ends from i
  pub to_come : drop i (generators bytes ends) ≡ generators_from bytes from (drop i ends)
  pub size : length rows.entries ≡ 10752
  pub few : rows.taken ≤ i
  pub rows_right : RowsRight rows.entries rows.taken
  pub marked : Marked marks.visited marks.queue marks.count
  pub held : Held (generators bytes ends) i target rows.entries marks.visited rows.taken

module _ (bytes ends : List ℕ) (target : ℕ) where
  pub taking_begins : Checked bytes ends
      → Taking bytes ends target 0 0 (record { entries = replicate 10752 0; taken = 0 }) (record { visited = replicate 168 0; queue = replicate 168 0; count = 0 })
  taking_begins checked =
      record {
        within = omega arith;
        behind = behind_begins bytes ends checked;
        to_come = refl;
        size = length-replicate {A = ℕ} 10752 0;
        few = omega arith;
        rows_right = rows_none (replicate 10752 0);
        marked = marked_none;
        held = held_none (generators bytes ends) target (replicate 10752 0);
      }

  module _ (from i : ℕ) {rows : Rows} {marks : Marks} (t : Taking bytes ends target from i rows marks) where
    pub taking_more : {rows' : Rows} {marks' : Marks} (end img : ℕ) → i < length ends → end ≡ get_or ends i 0
        → img ≡ image (word (slice from end bytes)) → TakesIn img target rows marks rows' marks'
        → Taking bytes ends target end (i + 1) rows' marks'
    taking_more end img inside e f takes =
        let next = t.to_come ∙ generators_next bytes ends from i inside e in
        let gens = generators bytes ends in
        let g = word (slice from end bytes) in
        let rest = generators_from bytes end (drop (i + 1) ends) in
        record {
          within = omega arith;
          behind = behind_next bytes ends from i inside e t.behind;
          to_come = behind_it gens i g rest next;
          size = takes.size ∙ t.size;
          few = omega (arith, takes.few, t.few);
          rows_right = takes.rows_right;
          marked = takes.marked;
          held = takes.held gens i (f ∙ ap image (sym (at_hand gens i g rest next))) t.held;
        }

    module _ (w : Word) (e : target ≡ image w) where
      inside_list : i ≤ length (generators bytes ends)
      inside_list = omega (arith, t.within, generators_length bytes 0 ends)

      pub taking_open : Seen marks.visited target → OpenRight (plain (generators bytes ends)) w
      taking_open = held_open (generators bytes ends) i target rows.entries marks.visited rows.taken t.held inside_list w e

      pub taking_no : length ends ≤ i → (Seen marks.visited target → ⊥) → QuickNoRight (plain (generators bytes ends)) w
      taking_no all =
          held_no (generators bytes ends) i target rows.entries marks.visited rows.taken t.held inside_list w e (omega (arith, generators_length bytes 0 ends))
