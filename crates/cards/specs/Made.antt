-- A card made from fields, each of them there or not. That it is read back as those fields is a theorem. Assumes nothing: these are definitions.
use Rattle.std.specs.Prelude.{List, [], ◌∷◌, ◌++◌, ℕ, ◌+◌, ◌<◌, ◌≤◌, length, ℤ, pos, negsuc}
use Rattle.std.proofs.Math.Option.{Option, none, some}
use Rattle.fields.specs.Field.{spelled, complement}
use Rattle.cards.specs.Card.{Target, Letters, Entries, Card, default_bound}

pub record Fields : Type 0 where
  pub bound : Option ℕ
  pub target : Option Target
  pub list : Option (List (List ℕ))

-- ---- the bytes of each field, and its bit

abbrev pub word_bytes : List ℕ → List ℕ
word_bytes letters = spelled 2 (length letters) ++ letters

abbrev pub words_bytes : List (List ℕ) → List ℕ
words_bytes [] = []
words_bytes (letters ∷ others) = word_bytes letters ++ words_bytes others

abbrev pub signed_bytes : ℤ → List ℕ
signed_bytes z = spelled 8 (complement z)

abbrev pub bound_bytes : Option ℕ → List ℕ
bound_bytes none = []
bound_bytes (some n) = spelled 2 n

abbrev pub target_bytes : Option Target → List ℕ
target_bytes none = []
target_bytes (some (Letters letters)) = word_bytes letters
target_bytes (some (Entries m)) = signed_bytes m.a ++ (signed_bytes m.b ++ (signed_bytes m.c ++ signed_bytes m.d))

abbrev pub list_field_bytes : Option (List (List ℕ)) → List ℕ
list_field_bytes none = []
list_field_bytes (some list) = spelled 1 (length list) ++ words_bytes list

abbrev pub bound_bit : Option ℕ → ℕ
bound_bit none = 0
bound_bit (some n) = 1

abbrev pub target_bit : Option Target → ℕ
target_bit none = 0
target_bit (some (Letters letters)) = 2
target_bit (some (Entries m)) = 4

abbrev pub list_bit : Option (List (List ℕ)) → ℕ
list_bit none = 0
list_bit (some list) = 8

abbrev pub made : Fields → List ℕ
made f =
    (bound_bit f.bound + (target_bit f.target + list_bit f.list))
    ∷ (bound_bytes f.bound ++ (target_bytes f.target ++ list_field_bytes f.list))

-- ---- what the card then means, without a field by its default

abbrev pub or_else : {A : Type 0} → Option A → A → A
or_else none default = default
or_else (some a) default = a

abbrev pub meant : Fields → Card
meant f = record { bound = or_else f.bound default_bound; target = or_else f.target (Letters []); list = or_else f.list [] }

-- ---- fields whose numbers fit their bytes

abbrev pub InSigned : ℤ → Type 0
InSigned (pos n) = n ≤ 9223372036854775807
InSigned (negsuc n) = n ≤ 9223372036854775807

abbrev pub AllShort : List (List ℕ) → Type 0
AllShort [] = Unit {0}
AllShort (letters ∷ others) = (length letters < 65536) × AllShort others

abbrev pub BoundFits : Option ℕ → Type 0
BoundFits none = Unit {0}
BoundFits (some n) = n < 65536

abbrev pub TargetFits : Option Target → Type 0
TargetFits none = Unit {0}
TargetFits (some (Letters letters)) = length letters < 65536
TargetFits (some (Entries m)) = InSigned m.a × InSigned m.b × InSigned m.c × InSigned m.d

abbrev pub ListFits : Option (List (List ℕ)) → Type 0
ListFits none = Unit {0}
ListFits (some list) = (length list < 256) × AllShort list

abbrev pub FieldsFit : Fields → Type 0
FieldsFit f = BoundFits f.bound × TargetFits f.target × ListFits f.list
