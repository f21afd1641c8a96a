-- By trying every series, for a small bound: antt computes the test, and one law turns it into the statement.
--     plain_tried, signed_tried    the numbers of a list, and those with its inverses, can all be tried
--     none_by_trying               a right `none`
--     member_by_trying             a right member
--     unequal_by_trying            two words that are not equal
-- Assumes nothing.
use mathlib.Core.Bool.{Bool, true, false, not}
use mathlib.Core.Path.{◌≡◌, refl, sym, ap, ◌∙◌}
use mathlib.Core.List.{List, [], ◌∷◌, ◌++◌, append_assoc, append-nil}
use Prim.Native.Nat.{ℕ, zero, suc, ◌+◌, ◌≤◌, ◌<◌}
use native.Mathlib.Nat.{le_of_suc-le-suc, not-suc-le-zero}
use native.Mathlib.Decide.{dec_le, dec_lt}
use native.Mathlib.Omega.{arith}
use borrow.Author.Tests.{lt-ltb}
use lib.Dec.{ltb}
use lib.ListN.{length}
use Rattle.words.specs.Word.{R, S, Word, Equal, nf}
use Rattle.refusals.specs.Telling.{pick}
use Rattle.words.proofs.NormalForm.{nf_of_equal}
use Rattle.products.specs.Product.{Family, Each, spelled, plain, signed, inverse_mark, measure, Reaches, Rival, NoneRight, MemberRight, Before, smaller, further}
use Rattle.products.proofs.Rivals.{rival_of}
use Rattle.products.proofs.Doubled.{Twin, given, inverted, twin_of_number}

-- two words are the same, letter by letter
abbrev pub same : Word → Word → Bool
same [] [] = true
same [] (a ∷ v) = false
same (a ∷ u) [] = false
same (R ∷ u) (R ∷ v) = same u v
same (R ∷ u) (S ∷ v) = false
same (S ∷ u) (R ∷ v) = false
same (S ∷ u) (S ∷ v) = same u v

same_self : (w : Word) → same w w ≡ true
same_self [] = refl
same_self (R ∷ w) = same_self w
same_self (S ∷ w) = same_self w

abbrev both : Bool → Bool → Bool
both a b = pick a b false

both_left : (a b : Bool) → both a b ≡ true → a ≡ true
both_left true b e = refl
both_left false b e = e

both_right : (a b : Bool) → both a b ≡ true → b ≡ true
both_right true b e = e
both_right false b e = absurd (let z : ◌≡◌ {A = ℕ} 0 1 = cc in omega arith)

abbrev every_below : ℕ → (ℕ → Bool) → Bool
every_below zero test = true
every_below (suc j) test = both (test j) (every_below j test)

pub below_at : (j : ℕ) (test : ℕ → Bool) (i : ℕ) → i < j → every_below j test ≡ true → test i ≡ true
below_at zero test i h e = absurd (not-suc-le-zero h)
below_at (suc j) test i h e =
    elim (dec_lt i j) [
      | yes l ↦ below_at j test i l (both_right (test j) (every_below j test) e)
      | no l ↦ let last : j ≡ i = omega arith in rw last at (both_left (test j) (every_below j test) e)
    ]

-- A family whose numbers can all be tried: a test of every one, and that it tests each.
pub record Tried (family : Family) : Type 0 where
  pub every : (ℕ → Bool) → Bool
  pub at : (test : ℕ → Bool) (k : ℕ) → family.Number k → every test ≡ true → test k ≡ true

abbrev pub plain_tried : (gens : List Word) → Tried (plain gens)
plain_tried gens = record { every = every_below (length gens); at = below_at (length gens) }

abbrev every_signed : ℕ → (ℕ → Bool) → Bool
every_signed count test = both (every_below count test) (every_below count (λ j. test (inverse_mark + j)))

pub signed_at : (count : ℕ) (test : ℕ → Bool) {i k : ℕ} → Twin count i k → every_signed count test ≡ true → test k ≡ true
signed_at count test {i} (given h e) every =
    rw e (below_at count test i h (both_left (every_below count test) (every_below count (λ j. test (inverse_mark + j))) every))
signed_at count test (inverted j h d e) every =
    let behind : ℕ → Bool = λ l. test (inverse_mark + l) in
    rw e (below_at count behind j h (both_right (every_below count test) (every_below count behind) every))

abbrev pub signed_tried : (gens : List Word) → Tried (signed gens)
signed_tried gens =
    record { every = every_signed (length gens); at = λ test k f every. signed_at (length gens) test (twin_of_number gens k f) every }

missed_here : (p form : Word) → not (same (nf p) form) ≡ true → nf p ≡ form → ⊥
missed_here p form e h =
    let yes_same = ap (λ (w : Word). same w form) h ∙ same_self form in
    let z : ◌≡◌ {A = Bool} false true = ap not (sym yes_same) ∙ e in
    let zero_one : ◌≡◌ {A = ℕ} 0 1 = cc in
    omega arith

pub unequal_by_trying : (u v : Word) → not (same (nf u) (nf v)) ≡ true → Equal u v → ⊥
unequal_by_trying u v e equal = missed_here u (nf v) e (nf_of_equal equal)

-- no series of at most n factors, put behind the word p, makes a word with that normal form
unfoldable pub misses : {family : Family} → Tried family → Word → ℕ → Word → Bool
misses {family} tried form zero p = not (same (nf p) form)
misses {family} tried form (suc n) p = both (not (same (nf p) form)) (tried.every (λ k. misses tried form n (p ++ family.word_of k)))

-- no series of one factor or more, and at most n, makes a word with that normal form
abbrev pub misses_some : {family : Family} → Tried family → Word → ℕ → Bool
misses_some {family} tried form zero = true
misses_some {family} tried form (suc n) = tried.every (λ k. misses tried form n (family.word_of k))

-- no series that stands before these factors, put behind the word p, makes a word with that normal form
unfoldable pub misses_before : {family : Family} → Tried family → Word → List ℕ → Word → Bool
misses_before {family} tried form [] p = true
misses_before {family} tried form (j ∷ f) p =
    both (tried.every (λ k. pick (ltb k j) (misses tried form (length f) (p ++ family.word_of k)) true)) (misses_before tried form f (p ++ family.word_of j))

module _ {family : Family} (tried : Tried family) where
  missed : (form : Word) (n : ℕ) (p : Word) (r : List ℕ) → length r ≤ n → Each family.Number r → misses tried form n p ≡ true
      → nf (p ++ spelled family.word_of r) ≡ form → ⊥
  unfolding misses
  missed form zero p [] l s e h = missed_here p form e (ap nf (sym (append-nil p)) ∙ h)
  missed form zero p (k ∷ r) l s e h = not-suc-le-zero l
  missed form (suc n) p [] l s e h =
      missed_here p form (both_left (not (same (nf p) form)) (tried.every (λ k. misses tried form n (p ++ family.word_of k))) e)
      (ap nf (sym (append-nil p)) ∙ h)
  missed form (suc n) p (k ∷ r) l s e h =
      let test : ℕ → Bool = λ i. misses tried form n (p ++ family.word_of i) in
      missed form n (p ++ family.word_of k) r (le_of_suc-le-suc l) s.1
      (tried.at test k s.0 (both_right (not (same (nf p) form)) (tried.every test) e))
      (ap nf (append_assoc p (family.word_of k) (spelled family.word_of r)) ∙ h)

  missed_some : (form : Word) (n : ℕ) (r : List ℕ) → Rival family n r → misses_some tried form n ≡ true → nf (spelled family.word_of r) ≡ form → ⊥
  missed_some form n [] rival e h = not-suc-le-zero rival.counted
  missed_some form zero (k ∷ r) rival e h = not-suc-le-zero rival.within
  missed_some form (suc n) (k ∷ r) rival e h =
      missed form n (family.word_of k) r (le_of_suc-le-suc rival.within) rival.series.1
      (tried.at (λ i. misses tried form n (family.word_of i)) k rival.series.0 e) h

  pub none_by_trying : (target : Word) (n : ℕ) → misses_some tried (nf target) n ≡ true → NoneRight family target n
  none_by_trying target n e r rival reaches = missed_some (nf target) n r rival e (nf_of_equal reaches)

  missed_before : (form : Word) (p : Word) {r f : List ℕ} → Before r f → length r ≤ length f → Each family.Number r
      → misses_before tried form f p ≡ true → nf (p ++ spelled family.word_of r) ≡ form → ⊥
  unfolding misses_before
  missed_before form p (smaller {i} {j} {r} {s} h) l t e m =
      let test : ℕ → Bool = λ k. pick (ltb k j) (misses tried form (length s) (p ++ family.word_of k)) true in
      missed form (length s) (p ++ family.word_of i) r (le_of_suc-le-suc l) t.1
      (rw (lt-ltb i j h) at (tried.at test i t.0 (both_left (tried.every test) (misses_before tried form s (p ++ family.word_of j)) e)))
      (ap nf (append_assoc p (family.word_of i) (spelled family.word_of r)) ∙ m)
  missed_before form p (further {i} {r} {s} b) l t e m =
      let test : ℕ → Bool = λ k. pick (ltb k i) (misses tried form (length s) (p ++ family.word_of k)) true in
      missed_before form (p ++ family.word_of i) b (le_of_suc-le-suc l) t.1
      (both_right (tried.every test) (misses_before tried form s (p ++ family.word_of i)) e)
      (ap nf (append_assoc p (family.word_of i) (spelled family.word_of r)) ∙ m)

  -- factors that reach the target, where no series that is shorter and none that stands before them does
  pub member_by_trying : (target : Word) (n : ℕ) (j : ℕ) (f : List ℕ) → Rival family n (j ∷ f) → Reaches family (j ∷ f) target
      → misses_some tried (nf target) (length f) ≡ true → misses_before tried (nf target) (j ∷ f) [] ≡ true
      → MemberRight family target n (j ∷ f) (length (j ∷ f))
  member_by_trying target n j f rival reaches shorter before =
      record {
        rival = rival;
        reaches = reaches;
        counts = refl;
        least = λ r k e.
            elim (dec_le (measure (j ∷ f)) (measure r)) [
              | yes h ↦ h
              | no h ↦ absurd (none_by_trying target (length f) shorter r (rival_of k.series k.counted (omega arith)) e)
            ];
        first = λ r k e m b. missed_before (nf target) [] b (omega arith) k.series before (nf_of_equal e);
      }
