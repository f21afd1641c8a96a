-- The first series of a pair of states: of those that weigh what the table says none stands before it. How it is made of other pairs' firsts:
--     first_unique                a pair has no other first series
--     first_alike, first_shift    pairs that are the same element have the same first series
--     first_whole, first_part     at nothing: the least factor that fits, and then the first series from there
--     some_fit                    and some factor fits
--     first_halved                where there is no shift: the first series of two halves, no later than those of any others
--     some_tight                  and some halves add up
-- Assumes that the generators are reduced, that a series weighs what its parts weigh together and a factor 1 or more, and an exact table.
use mathlib.Core.Path.{◌≡◌, refl, sym, subst, ◌∙◌}
use mathlib.Core.Logic.Iff
use mathlib.Core.Logic.{◌≢◌, ◌↔◌, inl, inr}
use mathlib.Core.List.{List, [], ◌∷◌, ◌++◌, append-nil, nil≢cons, append-ne-nil_of_right_ne-nil}
use Prim.Native.Nat.{ℕ, ◌+◌, ◌≤◌}
use native.Mathlib.Decide.{dec_le, dec_lt}
use native.Mathlib.Omega.{arith}
use Rattle.words.specs.Word.{Word, then}
use Rattle.words.proofs.NormalForm.{equal_path}
use Rattle.products.specs.Product.{generator, Factor, smaller}
use Rattle.products.proofs.States.{State, nothing, suffix, Leads, A, step_leads}
use Rattle.products.proofs.OneStep.{AllReduced, state_reduced}
use Rattle.products.proofs.FirstLetter.{equal_reduced}
use Rattle.products.proofs.Tables.{weight_positive}
use Rattle.products.proofs.Exact.{ExactBy, from_one, from_two, exact_closed}
use Rattle.products.proofs.Order.{NoLater, no_later_trans, no_later_append, no_later_cons, no_later_antisym}
use Rattle.products.proofs.Halves.{Shift, Unshifted, Halves, Halved, parts, shift_leads, shift_states, halves_leads, halves_states, halved}

-- two halves of the pair u, q whose entries add up to its own
pub record Tight (gens : List Word) (T : Word → Word → ℕ) (u q x p y o : Word) : Type 0 where
  pub halves : Halves gens u q x p y o
  pub sum : T x p + T y o ≡ T u q

module _ (gens : List Word) (weight : List ℕ → ℕ) (T : Word → Word → ℕ) where
  -- r is the first of the series that lead from u to q and weigh what the table says
  pub record First (u q : Word) (r : List ℕ) : Type 0 where
    pub some : r ≢ []
    pub leads : Leads gens u r q
    pub weighs : weight r ≡ T u q
    pub first : (s : List ℕ) → s ≢ [] → Leads gens u s q → weight s ≡ weight r → NoLater r s

  -- The factor j may begin a series that leads from nothing to q: it is all of it, or what the table says from its generator on is the rest.
  pub data Fit (q : Word) (j : ℕ) : Type 0 where
    whole : Factor gens j → generator gens j ≡ q → weight (j ∷ []) ≡ T [] q → Fit q j
    part : Factor gens j → weight (j ∷ []) + T (generator gens j) q ≡ T [] q → Fit q j

  -- r is the first series of one pair and then that of another
  pub record Joined (x p y o : Word) (r : List ℕ) : Type 0 where
    pub front : List ℕ
    pub behind : List ℕ
    pub split : r ≡ front ++ behind
    pub first : First x p front
    pub second : First y o behind

  pub first_unique : (u q : Word) (r s : List ℕ) → First u q r → First u q s → r ≡ s
  first_unique u q r s f g =
      no_later_antisym (f.first s g.some g.leads (g.weighs ∙ sym f.weighs)) (g.first r f.some f.leads (f.weighs ∙ sym g.weighs))

module _ (gens : List Word)
    (weight : List ℕ → ℕ) (weight_append : (a b : List ℕ) → weight (a ++ b) ≡ weight a + weight b)
    (weight_factor : (j : ℕ) → Factor gens j → 1 ≤ weight (j ∷ []))
    (n : ℕ) (T : Word → Word → ℕ) (all : AllReduced gens) (exact : ExactBy gens weight n T) where
  -- ---- pairs that are the same element

  -- where the entry here is above n it is n + 1, and none is more
  no_more : (u q x p : Word) → State gens u → State gens q → State gens x → State gens p
      → ((r : List ℕ) → Leads gens u r q → Leads gens x r p) → T x p ≤ T u q
  no_more u q x p su sq sx sp on =
      elim (dec_le (T u q) n) [
        | yes h ↦ from_one gens weight weight_append n T exact u q x p su sq sx sp on h
        | no h ↦ omega (arith, (exact x p sx sp).bounded)
      ]

  pub entry_alike : (u q x p : Word) → State gens u → State gens q → State gens x → State gens p
      → ((r : List ℕ) → Leads gens u r q ↔ Leads gens x r p) → T u q ≡ T x p
  entry_alike u q x p su sq sx sp alike =
      let i = no_more u q x p su sq sx sp (λ r. (alike r).0) in
      let j = no_more x p u q sx sp su sq (λ r. (alike r).1) in
      omega arith

  first_there : (u q x p : Word) → State gens u → State gens q → State gens x → State gens p
      → ((r : List ℕ) → Leads gens u r q ↔ Leads gens x r p) → (r : List ℕ) → First gens weight T u q r → First gens weight T x p r
  first_there u q x p su sq sx sp alike r f =
      record {
        some = f.some;
        leads = (alike r).0 f.leads;
        weighs = f.weighs ∙ entry_alike u q x p su sq sx sp alike;
        first = λ s ne l e. f.first s ne ((alike s).1 l) e;
      }

  pub first_alike : (u q x p : Word) → State gens u → State gens q → State gens x → State gens p
      → ((r : List ℕ) → Leads gens u r q ↔ Leads gens x r p) → (r : List ℕ) → First gens weight T u q r ↔ First gens weight T x p r
  first_alike u q x p su sq sx sp alike r =
      (first_there u q x p su sq sx sp alike r, first_there x p u q sx sp su sq (λ s. Iff.symm (alike s)) r)

  pub first_shift : (u q x p : Word) → Shift gens u q x p → State gens u → State gens q → (r : List ℕ)
      → First gens weight T u q r ↔ First gens weight T x p r
  first_shift u q x p h s t r = let (s', t') = shift_states gens h s t in first_alike u q x p s t s' t' (shift_leads gens h) r

  -- ---- from nothing

  module _ (q : Word) (state : State gens q) (low : T [] q ≤ n) where
    leads_behind_factor : {j : ℕ} {r : List ℕ} → Leads gens [] (j ∷ r) q → Leads gens (generator gens j) r q
    leads_behind_factor l = record { series = l.series.1; equal = l.equal }

    leads_from_factor : {j : ℕ} {r : List ℕ} → Factor gens j → Leads gens (generator gens j) r q → Leads gens [] (j ∷ r) q
    leads_from_factor f l = record { series = (f, l.series); equal = l.equal }

    fit_of : (j : ℕ) (r : List ℕ) → Leads gens [] (j ∷ r) q → weight (j ∷ r) ≡ T [] q → Fit gens weight T q j
    fit_of j [] l e =
        whole l.series.0
        (equal_reduced (all j l.series.0) (state_reduced gens all state) (then (equal_path (sym (append-nil (generator gens j)))) l.equal)) e
    fit_of j (k ∷ r) l e =
        let f : Factor gens j = l.series.0 in
        let at_j : State gens (generator gens j) = suffix j [] f refl in
        let sum = weight_append (j ∷ []) (k ∷ r) in
        let i = (exact (generator gens j) q at_j state).least (k ∷ r) (λ e. nil≢cons (sym e)) (leads_behind_factor l) (omega arith) in
        let closed = exact_closed gens weight weight_append n T exact in
        let a = closed.A j f (omega arith) in
        part f (omega (arith, closed.F [] (generator gens j) q nothing at_j state (omega arith)))

    pub some_fit : (j : ℕ) × Fit gens weight T q j
    some_fit = let (r, ne, l, e) = (exact [] q nothing state).led low in at_front r ne l e
      where
        at_front : (r : List ℕ) → r ≢ [] → Leads gens [] r q → weight r ≡ T [] q → (j : ℕ) × Fit gens weight T q j
        at_front [] ne l e = absurd (ne refl)
        at_front (j ∷ r) ne l e = (j, fit_of j r l e)

    module _ (j : ℕ) (least : (i : ℕ) → Fit gens weight T q i → j ≤ i) where
      -- what begins with a greater factor is behind, so only what stands behind j is compared
      first_factor : (r : List ℕ) → Leads gens [] (j ∷ r) q → weight (j ∷ r) ≡ T [] q
          → ((s : List ℕ) → Leads gens (generator gens j) s q → weight s ≡ weight r → NoLater r s) → First gens weight T [] q (j ∷ r)
      first_factor r l w rest =
          record {
            some = λ e. nil≢cons (sym e);
            leads = l;
            weighs = w;
            first = compared;
          }
        where
          compared : (s : List ℕ) → s ≢ [] → Leads gens [] s q → weight s ≡ weight (j ∷ r) → NoLater (j ∷ r) s
          compared [] ne m e = absurd (ne refl)
          compared (i ∷ s) ne m e =
              elim (dec_lt j i) [
                | yes h ↦ inr (smaller h)
                | no h ↦
                    let k = least i (fit_of i s m (e ∙ w)) in
                    let same : i ≡ j = omega arith in
                    let m' : Leads gens [] (j ∷ s) q = subst (λ (k : ℕ). Leads gens [] (k ∷ s) q) same m in
                    let e' : weight (j ∷ s) ≡ weight (j ∷ r) = subst (λ (k : ℕ). weight (k ∷ s) ≡ weight (j ∷ r)) same e in
                    let sum = weight_append (j ∷ []) s in
                    let sum' = weight_append (j ∷ []) r in
                    rw same (no_later_cons j (rest s (leads_behind_factor m') (omega arith)))
              ]

      -- a series that weighs as little as none is empty
      pub first_whole : Factor gens j → generator gens j ≡ q → weight (j ∷ []) ≡ T [] q → First gens weight T [] q (j ∷ [])
      first_whole f e w = first_factor [] (rw e at (step_leads gens (A j f))) w only
        where
          only : (s : List ℕ) → Leads gens (generator gens j) s q → weight s ≡ weight [] → NoLater [] s
          only [] l h = inl refl
          only (i ∷ s) l h =
              let one = weight_factor i l.series.0 in
              let sum = weight_append (i ∷ []) s in
              absurd (omega (arith, weight_append [] []))

      pub first_part : Factor gens j → weight (j ∷ []) + T (generator gens j) q ≡ T [] q → (r : List ℕ)
          → First gens weight T (generator gens j) q r → First gens weight T [] q (j ∷ r)
      first_part f w r h =
          let sum = weight_append (j ∷ []) r in
          let weighs = h.weighs in
          first_factor r (leads_from_factor f h.leads) (omega arith) behind
        where
          behind : (s : List ℕ) → Leads gens (generator gens j) s q → weight s ≡ weight r → NoLater r s
          behind [] l e =
              let one = weight_positive gens weight weight_append weight_factor r h.leads.series h.some in
              absurd (omega (arith, weight_append [] []))
          behind (i ∷ s) l e = h.first (i ∷ s) (λ e. nil≢cons (sym e)) l e

  -- ---- where there is no shift

  module _ (u q : Word) (su : State gens u) (sq : State gens q) (low : T u q ≤ n) where
    -- where a series that weighs what the table says goes over two halves, so does each part
    parts_weigh : {x p y o : Word} (a b : List ℕ) → Halves gens u q x p y o → a ≢ [] → b ≢ [] → Leads gens x a p → Leads gens y b o
        → weight (a ++ b) ≡ T u q → (T x p + T y o ≡ T u q) × (weight a ≡ T x p) × (weight b ≡ T y o)
    parts_weigh {x} {p} {y} {o} a b h ne ne' l m e =
        let (sx, sp, sy, so) = halves_states gens h su sq in
        let sum = weight_append a b in
        let i = (exact x p sx sp).least a ne l (omega arith) in
        let j = (exact y o sy so).least b ne' m (omega arith) in
        let on : (a b : List ℕ) → Leads gens x a p → Leads gens y b o → Leads gens u (a ++ b) q = λ a b l m. halves_leads gens h l m in
        let k = from_two gens weight weight_append n T exact x p y o u q sx sp sy so su sq on (omega arith) in
        (omega arith, omega arith, omega arith)

    module _ (some : u ≢ []) (un : Unshifted gens u q) where
      pub some_tight : (x : Word) × (p : Word) × (y : Word) × (o : Word) × Tight gens T u q x p y o
      some_tight = let (r, ne, l, e) = (exact u q su sq).led low in of_halves r (halved gens all u q su sq some un ne l) e
        where
          of_halves : (r : List ℕ) → Halved gens u r q → weight r ≡ T u q
              → (x : Word) × (p : Word) × (y : Word) × (o : Word) × Tight gens T u q x p y o
          of_halves r (parts {x} {p} {y} {o} {a} {b} h ne ne' l m) e =
              (x, p, y, o, record { halves = h; sum = (parts_weigh a b h ne ne' l m e).0 })

      pub first_halved : (x p y o : Word) (r : List ℕ) → Tight gens T u q x p y o → Joined gens weight T x p y o r
          → ((x p y o : Word) → Tight gens T u q x p y o → (s : List ℕ) × Joined gens weight T x p y o s × NoLater r s)
          → First gens weight T u q r
      first_halved x p y o r tight joined others =
          record {
            some = λ e. append-ne-nil_of_right_ne-nil joined.front joined.second.some (sym joined.split ∙ e);
            leads = rw joined.split (halves_leads gens tight.halves joined.first.leads joined.second.leads);
            weighs = weighs;
            first = λ s ne l e. compared s (halved gens all u q su sq some un ne l) (e ∙ weighs);
          }
        where
          weighs : weight r ≡ T u q
          weighs =
              let i = joined.first.weighs in
              let j = joined.second.weighs in
              let k = tight.sum in
              rw joined.split (omega (arith, weight_append joined.front joined.behind))

          compared : (s : List ℕ) → Halved gens u s q → weight s ≡ T u q → NoLater r s
          compared s (parts {x} {p} {y} {o} {a} {b} h ne ne' l m) e =
              let (sum, wa, wb) = parts_weigh a b h ne ne' l m e in
              let (s', j, k) = others x p y o (record { halves = h; sum = sum }) in
              let first = j.first.first a ne l (wa ∙ sym j.first.weighs) in
              let second = j.second.first b ne' m (wb ∙ sym j.second.weighs) in
              no_later_trans k (rw j.split (no_later_append j.front a j.behind b first second))
