-- States, what it is that a series leads from word to word, and the least count between two states. Source 004, section 4; document 01:
-- "states are suffixes of the reduced generators, each pair of states gets the least number of factors that makes u⁻¹v".
-- Assumes nothing: these are definitions.
use Rattle.std.specs.Prelude.{◌≡◌, ◌≢◌, List, [], ◌++◌, ℕ, ◌+◌, ◌≤◌}
use Rattle.words.specs.Word.{Word, Equal, Normal}
use Rattle.products.specs.Product.{generator, Factor, Series, letters, measure}

-- Every series weighs nothing: the weight by which it only counts that there is a series.
abbrev pub weightless : List ℕ → ℕ
weightless r = 0

-- each generator is in normal form
abbrev pub AllNormal : List Word → Type 0
AllNormal gens = (j : ℕ) → Factor gens j → Normal (generator gens j)

module _ (gens : List Word) where
  -- A state is a suffix of a generator, as a word; the empty word is one even where the list is empty.
  pub data State : Word → Type 0 where
    nothing : State []
    suffix : (j : ℕ) (p : Word) {q : Word} → Factor gens j → generator gens j ≡ p ++ q → State q

  -- r leads from u to v: it makes u⁻¹v
  pub record Leads (u : Word) (r : List ℕ) (v : Word) : Type 0 where
    pub series : Series gens r
    pub equal : Equal (u ++ letters gens r) v

  -- k is the least weight of a series, of one factor or more, that leads from u to v; or n + 1, where that is above n
  pub record LeastBy (weight : List ℕ → ℕ) (n : ℕ) (u v : Word) (k : ℕ) : Type 0 where
    pub bounded : k ≤ n + 1
    pub led : k ≤ n → (r : List ℕ) × (r ≢ []) × Leads u r v × (weight r ≡ k)
    pub least : (r : List ℕ) → r ≢ [] → Leads u r v → weight r ≤ n → k ≤ weight r

  -- that for the measure
  abbrev pub LeastLead : ℕ → Word → Word → ℕ → Type 0
  LeastLead n u v k = LeastBy measure n u v k
