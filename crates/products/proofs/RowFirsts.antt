-- The first series of a row at a state: of those of its class that weigh what the row says none stands before it. How it is made:
--     row_first_unique    a row has no other first series there
--     row_first_all       in the last row at nothing it is the first of all series that make the target
--     row_first_start     in row 0 it is that of the pair from nothing
--     row_first_read      where the letter can stand before q it is the one of the row before: nothing is chosen
--     row_first_chain     elsewhere: that of the row before at the letter and v, and then that of the pair v, q, no later than over any other v
--     some_row_tight      and some v adds up
-- Assumes an exact table, rows that are closed and attained, and that a series weighs what its parts weigh together.
use mathlib.Core.Path.{◌≡◌, sym, subst, ◌∙◌}
use mathlib.Core.Logic.{◌≢◌, inl, inr}
use mathlib.Core.List.{List, [], ◌∷◌, ◌++◌}
use Prim.Native.Nat.{ℕ, zero, suc, ◌+◌, ◌≤◌}
use native.Mathlib.Omega.{arith}
use lib.ListN.{length}
use Rattle.words.specs.Word.{Letter, Word, Equal}
use Rattle.words.proofs.Reduced.{Reduced}
use Rattle.products.specs.Product.{Series, letters}
use Rattle.products.proofs.States.{State, Leads, state_tail}
use Rattle.products.proofs.OneStep.{AllReduced}
use Rattle.products.proofs.Exact.{ExactBy}
use Rattle.products.proofs.Order.{NoLater, no_later_trans, no_later_append, no_later_antisym}
use Rattle.products.proofs.Firsts.{First}
use Rattle.products.proofs.Rows.{FromRow, RowsClosed, RowsAttained}
use Rattle.products.proofs.RowClasses.{LetterAt, Reads, start, read, chain, reads_letter, reads_complete, row_least, row_reached}

-- the entries over v add up to that of row i + 1 at q, where a is letter i
pub record RowTight (gens : List Word) (T : Word → Word → ℕ) (Row : ℕ → Word → ℕ) (i : ℕ) (a : Letter) (q v : Word) : Type 0 where
  pub state : State gens (a ∷ v)
  pub sum : Row i (a ∷ v) + T v q ≡ Row (suc i) q

module _ (gens : List Word) (weight : List ℕ → ℕ) (T : Word → Word → ℕ) (x : Word) (Row : ℕ → Word → ℕ) where
  -- r is the first of the series of row i at q that weigh what the row says
  pub record RowFirst (i : ℕ) (q : Word) (r : List ℕ) : Type 0 where
    pub reads : Reads gens x i q r
    pub weighs : weight r ≡ Row i q
    pub first : (s : List ℕ) → Reads gens x i q s → weight s ≡ weight r → NoLater r s

  -- r is the first series of row i at the letter a and v, and then that of the pair v, q
  pub record RowJoined (i : ℕ) (a : Letter) (q v : Word) (r : List ℕ) : Type 0 where
    pub front : List ℕ
    pub behind : List ℕ
    pub split : r ≡ front ++ behind
    pub first : RowFirst i (a ∷ v) front
    pub second : First gens weight T v q behind

  pub row_first_unique : (i : ℕ) (q : Word) (r s : List ℕ) → RowFirst i q r → RowFirst i q s → r ≡ s
  row_first_unique i q r s f g =
      no_later_antisym (f.first s g.reads (g.weighs ∙ sym f.weighs)) (g.first r f.reads (f.weighs ∙ sym g.weighs))

  pub row_first_all : AllReduced gens → Reduced x → (r : List ℕ) → RowFirst (length x) [] r
      → (s : List ℕ) → s ≢ [] → Series gens s → Equal (letters gens s) x → weight s ≡ weight r → NoLater r s
  row_first_all all h r f s ne series e w = f.first s (reads_complete gens x all h s ne series e) w

module _ (gens : List Word)
    (weight : List ℕ → ℕ) (weight_append : (a b : List ℕ) → weight (a ++ b) ≡ weight a + weight b)
    (n : ℕ) (T : Word → Word → ℕ) (x : Word) (Row : ℕ → Word → ℕ)
    (exact : ExactBy gens weight n T) (closed : RowsClosed gens n T x Row) (attained : RowsAttained gens n T x Row) where
  pub row_first_start : (q : Word) (r : List ℕ) → State gens q → First gens weight T [] q r → RowFirst gens weight T x Row 0 q r
  row_first_start q r t f =
      record {
        reads = start f.some f.leads;
        weighs = f.weighs ∙ sym (closed.first q t);
        first = λ s d e. compared d e;
      }
    where
      compared : {s : List ℕ} → Reads gens x zero q s → weight s ≡ weight r → NoLater r s
      compared {s} (start ne l) e = f.first s ne l e

  -- what a series of the class weighs, where the class is row i's
  low : (i : ℕ) (q : Word) (r : List ℕ) → State gens q → Reads gens x i q r → weight r ≤ n → Row i q ≤ weight r
  low i q r t d h = row_least gens weight weight_append n T x Row exact closed t d h

  module _ (i : ℕ) (a : Letter) (q : Word) (at : LetterAt x i a) (t : State gens q) (within : Row (suc i) q ≤ n) where
    pub row_entry_read : State gens (a ∷ q) → Row (suc i) q ≡ Row i (a ∷ q)
    row_entry_read s =
        let inside = at.0 in
        let (r, d, w) = row_reached gens weight weight_append n T x Row exact attained (suc i) (omega arith) q t within in
        let k = low i (a ∷ q) r s ((reads_letter gens x i a q r at s).0 d) (omega arith) in
        omega (arith, closed.read i a q at.0 at.1 s (omega arith))

    pub row_first_read : State gens (a ∷ q) → (r : List ℕ) → RowFirst gens weight T x Row i (a ∷ q) r → RowFirst gens weight T x Row (suc i) q r
    row_first_read s r f =
        record {
          reads = (reads_letter gens x i a q r at s).1 f.reads;
          weighs = f.weighs ∙ sym (row_entry_read s);
          first = λ s' d e. f.first s' ((reads_letter gens x i a q s' at s).0 d) e;
        }

    -- where a series over v weighs what the row says, so does each part
    row_parts_weigh : (v : Word) (b c : List ℕ) → State gens (a ∷ v) → Reads gens x i (a ∷ v) b → c ≢ [] → Leads gens v c q → weight (b ++ c) ≡ Row (suc i) q
        → (Row i (a ∷ v) + T v q ≡ Row (suc i) q) × (weight b ≡ Row i (a ∷ v)) × (weight c ≡ T v q)
    row_parts_weigh v b c s d ne l e =
        let inside = at.0 in
        let sum = weight_append b c in
        let k = low i (a ∷ v) b s d (omega arith) in
        let m = (exact v q (state_tail gens s) t).least c ne l (omega arith) in
        let k' = closed.read i a v at.0 at.1 s (omega arith) in
        let o = closed.F (suc i) v q (omega arith) (omega arith) (state_tail gens s) t (omega arith) in
        (omega arith, omega arith, omega arith)

    module _ (unread : State gens (a ∷ q) → ⊥) where
      pub some_row_tight : (v : Word) × RowTight gens T Row i a q v
      some_row_tight = of_row (attained.attained i a q at.0 at.1 t within)
        where
          of_row : FromRow gens T Row i a q → (v : Word) × RowTight gens T Row i a q v
          of_row (inl (s, e)) = absurd (unread s)
          of_row (inr (v, s, e)) = (v, record { state = s; sum = sym e })

      pub row_first_chain : (v : Word) (r : List ℕ) → RowTight gens T Row i a q v → RowJoined gens weight T x Row i a q v r
          → ((w : Word) → RowTight gens T Row i a q w → (s : List ℕ) × RowJoined gens weight T x Row i a q w s × NoLater r s)
          → RowFirst gens weight T x Row (suc i) q r
      row_first_chain v r tight joined others =
          record {
            reads = rw joined.split (chain a at tight.state joined.first.reads joined.second.some joined.second.leads);
            weighs = weighs;
            first = λ s d e. compared s d (e ∙ weighs);
          }
        where
          weighs : weight r ≡ Row (suc i) q
          weighs =
              let k = joined.first.weighs in
              let l = joined.second.weighs in
              let m = tight.sum in
              rw joined.split (omega (arith, weight_append joined.front joined.behind))

          -- a series over w is no earlier than the first of that class and then of that pair
          over : (w : Word) (b c : List ℕ) → State gens (a ∷ w) → Reads gens x i (a ∷ w) b → c ≢ [] → Leads gens w c q
              → weight (b ++ c) ≡ Row (suc i) q → NoLater r (b ++ c)
          over w b c s d ne l e =
              let (sum, wb, wc) = row_parts_weigh w b c s d ne l e in
              let (s', j, no_later) = others w (record { state = s; sum = sum }) in
              let first = j.first.first b d (wb ∙ sym j.first.weighs) in
              let second = j.second.first c ne l (wc ∙ sym j.second.weighs) in
              no_later_trans no_later (rw j.split (no_later_append j.front b j.behind c first second))

          compared : (s : List ℕ) → Reads gens x (suc i) q s → weight s ≡ Row (suc i) q → NoLater r s
          compared s (read b at' t' d) e = absurd (unread (subst (λ (c : Letter). State gens (c ∷ q)) (sym at'.1 ∙ at.1) t'))
          compared s (chain {v = w} {r = r₁} {s = r₂} b at' t' d ne l) e =
              let same : b ≡ a = sym at'.1 ∙ at.1 in
              over w r₁ r₂ (subst (λ (c : Letter). State gens (c ∷ w)) same t') (subst (λ (c : Letter). Reads gens x i (c ∷ w) r₁) same d) ne l e
