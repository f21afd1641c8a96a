-- Inner contracts of a list's flattening. Assumes nothing: these are definitions.
use Rattle.std.specs.Prelude.{Result, Ok, Err, ◌≡◌, List, [], ◌∷◌, ℕ, ◌≤◌, length}
use Rattle.limits.specs.Limits.{most_letters}
use Rattle.words.specs.declared.Letters.{Letters}
use Rattle.refusals.specs.Questions.{Asked, first_no, question8}
use Rattle.refusals.specs.declared.Refusal.{Refusal}
use Rattle.slices.specs.Slices.{overwritten}
use Rattle.lists.specs.Questions.{question7}
use Rattle.cards.specs.Card.{list_bytes, list_ends}
use Rattle.cards.specs.Reading.{Listed}

-- some list of so many generators fills some bytes, and it has no more letters than question 8 lets pass
abbrev pub ShortListed : List ℕ → ℕ → Type 0
ShortListed bytes count = (list : List (List ℕ)) × Listed bytes count list × (length (list_bytes list) ≤ most_letters)

-- the whole list in the fronts of the two slices
pub record WritesList (list : List (List ℕ)) (before after before_ends after_ends : List ℕ) : Type 0 where
  pub letters : after ≡ overwritten (list_bytes list) before
  pub ends : after_ends ≡ overwritten (list_ends 0 list) before_ends

-- The list's letters, one generator behind the other, and their ends, each in the front of a slice, after questions 7 and 8.
abbrev pub FlatRight : Asked → List (List ℕ) → Result Letters Refusal → List ℕ → List ℕ → List ℕ → List ℕ → Type 0
FlatRight (Ok _) list r before after before_ends after_ends =
    (r ≡ Ok (record { 0 = length (list_bytes list) })) × (after ≡ overwritten (list_bytes list) before) × (after_ends ≡ overwritten (list_ends 0 list) before_ends)
FlatRight (Err refusal) list r before after before_ends after_ends = (r ≡ Err refusal) × (after ≡ before) × (after_ends ≡ before_ends)

abbrev pub Flattens : List (List ℕ) → Result Letters Refusal → List ℕ → List ℕ → List ℕ → List ℕ → Type 0
Flattens list r before after before_ends after_ends =
    FlatRight (first_no (question7 (length list) ∷ question8 (length (list_bytes list)) ∷ [])) list r before after before_ends after_ends
