-- The rows of a target decide.
--     rows_closed_of, rows_attained_of         one round of rule F over what is read gives rows that are closed and attained
--     verdict_none, verdict_first              what the last row's entry at nothing says of the target
-- Assumes that the generators and the target are reduced.
use mathlib.Core.Path.{◌≡◌, refl}
use mathlib.Core.Logic.{◌⊎◌, inl, inr}
use mathlib.Core.List.{List, [], ◌∷◌, append-nil}
use Prim.Native.Nat.{ℕ, zero, suc, ◌+◌, ◌≤◌, ◌<◌}
use native.Mathlib.Omega.{arith}
use lib.ListN.{length, take, get_or}
use lib.Seq.{take-length}
use Rattle.words.specs.Word.{Letter, R, Word}
use Rattle.words.proofs.Reduced.{Reduced}
use Rattle.products.specs.Product.{Reaches, measure, Rival, NoneRight, MemberRight, plain}
use Rattle.products.proofs.States.{State, state_tail}
use Rattle.products.proofs.OneStep.{AllReduced}
use Rattle.products.proofs.Order.{no_later_not_before}
use Rattle.products.proofs.Rows.{FromRow, RowsClosed, RowsAttained}
use Rattle.products.proofs.RowClasses.{reads_series, reads_some, reads_made, rows_least}
use Rattle.products.proofs.RowFirsts.{RowFirst, row_first_all}
use Rattle.products.proofs.Rivals.{counted_some, some_counted, rival_of}
use Rattle.products.proofs.Tables.{Closed}
use Rattle.products.proofs.Exact.{Exact, measure_append}

-- m is no less than what is read at q, or than what is read at some state and the table's entry from there to q together
abbrev pub AtLeast : List Word → (Word → Word → ℕ) → (Word → ℕ) → Word → ℕ → Type 0
AtLeast gens T read q m = (read q ≤ m) ⊎ ((v : Word) × State gens v × (read v + T v q ≤ m))

-- Rule F over what is a sum already is no less than one sum over what is read, since rule F holds in the table. So a round may be done in place.
pub at_least_on : (gens : List Word) (n : ℕ) (T : Word → Word → ℕ) {weight : List ℕ → ℕ} → Closed gens weight n T → (read : Word → ℕ) (v q : Word) (m : ℕ)
    → State gens v → State gens q → m + T v q ≤ n → AtLeast gens T read v m → AtLeast gens T read q (m + T v q)
at_least_on gens n T closed read v q m s t h (inl e) = inr (v, s, omega arith)
at_least_on gens n T closed read v q m s t h (inr (w, s', e)) = inr (w, s', omega (arith, closed.F w v q s' s t (omega arith)))

module _ (gens : List Word) (n : ℕ) (T : Word → Word → ℕ) (x : Word) (Row : ℕ → Word → ℕ) where
  -- How a row is made of the one before. `Read i q` is what is read at q: the entry of row i at the state with the letter in front, and more
  -- than n where there is no such state. Then one round of rule F over what was read: an entry is no more than any of its sums that is up to
  -- n, and, where it is up to n itself, no less than one of them.
  pub record Rounds (Read : ℕ → Word → ℕ) : Type 0 where
    pub first : (q : Word) → State gens q → Row 0 q ≡ T [] q
    pub read_is : (i : ℕ) (a : Letter) (q : Word) → i < length x → get_or x i R ≡ a → State gens (a ∷ q) → Read i q ≡ Row i (a ∷ q)
    pub read_some : (i : ℕ) (a : Letter) (q : Word) → i < length x → get_or x i R ≡ a → State gens q → Read i q ≤ n → State gens (a ∷ q)
    pub read : (i : ℕ) (q : Word) → i < length x → State gens q → Read i q ≤ n → Row (suc i) q ≤ Read i q
    pub round : (i : ℕ) (v q : Word) → i < length x → State gens v → State gens q → Read i v + T v q ≤ n → Row (suc i) q ≤ Read i v + T v q
    pub attained : (i : ℕ) (q : Word) → i < length x → State gens q → Row (suc i) q ≤ n → AtLeast gens T (Read i) q (Row (suc i) q)

  pub rows_attained_of : (Read : ℕ → Word → ℕ) → Rounds Read → RowsAttained gens n T x Row
  rows_attained_of Read rounds = record { first = rounds.first; attained = λ i a q h e s k. by_state i a q h e s k (rounds.attained i q h s k) }
    where
      by_state : (i : ℕ) (a : Letter) (q : Word) → i < length x → get_or x i R ≡ a → State gens q → Row (suc i) q ≤ n
          → AtLeast gens T (Read i) q (Row (suc i) q) → FromRow gens T Row i a q
      by_state i a q h e s k (inl f) =
          let t = rounds.read_some i a q h e s (omega arith) in
          let same = rounds.read_is i a q h e t in
          inl (t, omega (arith, rounds.read i q h s (omega arith)))
      by_state i a q h e s k (inr (v, s', f)) =
          let t = rounds.read_some i a v h e s' (omega arith) in
          let same = rounds.read_is i a v h e t in
          inr (v, t, omega (arith, rounds.round i v q h s' s (omega arith)))

  module _ {weight : List ℕ → ℕ} (closed : Closed gens weight n T) where
    pub rows_closed_of : (Read : ℕ → Word → ℕ) → Rounds Read → RowsClosed gens n T x Row
    rows_closed_of Read rounds =
        record {
          first = rounds.first;
          read = λ i a q h e s k.
              let same = rounds.read_is i a q h e s in
              omega (arith, rounds.read i q h (state_tail gens s) (omega arith));
          F = chain;
        }
      where
        no_more : (i : ℕ) (q : Word) (m : ℕ) → i < length x → State gens q → m ≤ n → AtLeast gens T (Read i) q m → Row (suc i) q ≤ m
        no_more i q m h s k (inl e) = omega (arith, rounds.read i q h s (omega arith))
        no_more i q m h s k (inr (v, t, e)) = omega (arith, rounds.round i v q h t s (omega arith))

        chain : (i : ℕ) (v q : Word) → 1 ≤ i → i ≤ length x → State gens v → State gens q → Row i v + T v q ≤ n → Row i q ≤ Row i v + T v q
        chain zero v q o h s t k = absurd (omega arith)
        chain (suc i) v q o h s t k =
            no_more i q (Row (suc i) v + T v q) h t k
            (at_least_on gens n T closed (Read i) v q (Row (suc i) v) s t k (rounds.attained i v h s (omega arith)))

module _ (gens : List Word) (n : ℕ) (T : Word → Word → ℕ) (x : Word) (Row : ℕ → Word → ℕ)
    (all : AllReduced gens) (exact : Exact gens n T) (rows : RowsClosed gens n T x Row) (reduced : Reduced x) where
  rival_least : (r : List ℕ) → Rival (plain gens) n r → Reaches (plain gens) r x → Row (length x) [] ≤ measure r
  rival_least r k e =
      rows_least gens measure measure_append n T x Row exact all rows reduced r (counted_some k.counted) k.series e k.within

  pub verdict_none : n < Row (length x) [] → NoneRight (plain gens) x n
  verdict_none h r k e = let within = k.within in omega (arith, rival_least r k e)

  -- the first series of the last row at nothing
  pub verdict_first : (factors : List ℕ) → RowFirst gens measure T x Row (length x) [] factors → Row (length x) [] ≤ n
      → MemberRight (plain gens) x n factors (length factors)
  verdict_first factors f h =
      let weighs = f.weighs in
      record {
        rival = rival_of (reads_series gens x f.reads) (some_counted (reads_some gens x f.reads)) (omega arith);
        reaches = rw (append-nil (take (length x) x), take-length x) at (reads_made gens x f.reads);
        counts = refl;
        least = λ r k e. omega (arith, rival_least r k e);
        first = λ r k e m b.
            no_later_not_before (row_first_all gens measure T x Row all reduced factors f r (counted_some k.counted) k.series e m) b;
      }
