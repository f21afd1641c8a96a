-- What went of document 01's words when they are reduced (document 02, M-104), and wrong accounts, each refused by the definition: whatever program gives one
-- of them, it does not meet the contract of `words::reduce`. Assumes nothing.
use mathlib.Core.Path.{refl}
use mathlib.Core.List.{[], ◌∷◌}
use native.Mathlib.Omega.{arith}
use Rattle.words.specs.Word.{R, S, Word, nf}
use Rattle.words.specs.Account.{Accounts}

-- ---- P1 to P3, and a triple whose S's stand apart until a pair has gone

pub rr : Accounts (R ∷ R ∷ []) (nf (R ∷ R ∷ [])) 1 0
unfolding nf
rr = record { letters = refl; rs_gone = refl }

pub sss : Accounts (S ∷ S ∷ S ∷ []) (nf (S ∷ S ∷ S ∷ [])) 0 1
unfolding nf
sss = record { letters = refl; rs_gone = refl }

pub ssss : Accounts (S ∷ S ∷ S ∷ S ∷ []) (nf (S ∷ S ∷ S ∷ S ∷ [])) 0 1
unfolding nf
ssss = record { letters = refl; rs_gone = refl }

pub rsssr : Accounts (R ∷ S ∷ S ∷ S ∷ R ∷ []) (nf (R ∷ S ∷ S ∷ S ∷ R ∷ [])) 1 1
unfolding nf
rsssr = record { letters = refl; rs_gone = refl }

pub srrss : Accounts (S ∷ R ∷ R ∷ S ∷ S ∷ []) (nf (S ∷ R ∷ R ∷ S ∷ S ∷ [])) 1 1
unfolding nf
srrss = record { letters = refl; rs_gone = refl }

-- ---- wrong ones

-- a pair counted as an R arrives, which is kept
pub at_arrival_refused : Accounts (R ∷ []) (nf (R ∷ [])) 1 0 → ⊥
unfolding nf
at_arrival_refused a = omega (arith, a.letters)

-- a triple counted as its three S's
pub as_letters_refused : Accounts (S ∷ S ∷ S ∷ []) (nf (S ∷ S ∷ S ∷ [])) 0 3 → ⊥
unfolding nf
as_letters_refused a = omega (arith, a.letters)

-- the account of the word that was kept, of which nothing went
pub of_the_kept_refused : Accounts (R ∷ R ∷ []) (nf (R ∷ R ∷ [])) 0 0 → ⊥
unfolding nf
of_the_kept_refused a = omega (arith, a.letters)

-- two triples for three pairs: as many letters, and only the R's tell them apart
abbrev six : Word
six = R ∷ R ∷ R ∷ R ∷ R ∷ R ∷ []

pub triples_for_pairs_refused : Accounts six (nf six) 0 2 → ⊥
unfolding nf
triples_for_pairs_refused a = omega (arith, a.rs_gone)
