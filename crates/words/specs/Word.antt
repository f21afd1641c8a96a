-- Words in R and S, where RR and SSS vanish and no other rule holds; their normal form and their inverse.
-- Document 01, "Words". Assumes nothing: these are definitions, and `proofs/` has the laws.
use Rattle.std.specs.Prelude.{◌≡◌, List, [], ◌∷◌, ◌++◌, reverse}

pub data Letter : Type 0 where
  R S : Letter

-- A word is read left to right. It is any series of letters, reduced or not.
abbrev pub Word : Type 0
Word = List Letter

-- 01: "two words are equal if these rules, used either way, lead from one to the other". A rule is used anywhere in a word.
pub data Equal : Word → Word → Type 0 where
  rr : (x y : Word) → Equal (x ++ R ∷ R ∷ y) (x ++ y)
  sss : (x y : Word) → Equal (x ++ S ∷ S ∷ S ∷ y) (x ++ y)
  none : {u : Word} → Equal u u
  back : {u v : Word} → Equal u v → Equal v u
  then : {u v w : Word} → Equal u v → Equal v w → Equal u w

-- w is x, f and y, one behind the other, for some x and y
abbrev pub Holds : Word → Word → Type 0
Holds w f = (x : Word) × (y : Word) × (w ≡ x ++ (f ++ y))

abbrev pub RR : Word
RR = R ∷ R ∷ []

abbrev pub SSS : Word
SSS = S ∷ S ∷ S ∷ []

-- 01: "The normal form has no RR and no SSS."
abbrev pub Normal : Word → Type 0
Normal w = (Holds w RR → ⊥) × (Holds w SSS → ⊥)

-- What a letter makes of the word before it. That word stands back to front here, so that its ending is what a clause sees first.
-- 01: "A letter that arrives meets one of four endings: nothing, R, S or SS." An R cancels an R, an S cancels SS, and any other
-- letter is put behind the word.
abbrev pub arrive : Letter → Word → Word
arrive R [] = R ∷ []
arrive R (R ∷ w) = w
arrive R (S ∷ w) = R ∷ S ∷ w
arrive S [] = S ∷ []
arrive S (R ∷ w) = S ∷ R ∷ w
arrive S (S ∷ []) = S ∷ S ∷ []
arrive S (S ∷ R ∷ w) = S ∷ S ∷ R ∷ w
arrive S (S ∷ S ∷ w) = w

-- The letters of a word arrive one after the other, its first letter first.
abbrev pub arrived : Word → Word → Word
arrived w [] = w
arrived w (a ∷ x) = arrived (arrive a w) x

-- The normal form of a word: its letters arrive at nothing.
unfoldable pub nf : Word → Word
nf w = reverse (arrived [] w)

-- 01: "The inverse of R is R and of S is SS, and an inverse word is taken in reverse order."
abbrev pub inverse_letter : Letter → Word
inverse_letter R = R ∷ []
inverse_letter S = S ∷ S ∷ []

abbrev pub inverse : Word → Word
inverse [] = []
inverse (a ∷ w) = inverse w ++ inverse_letter a
