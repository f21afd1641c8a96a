-- What making a list and a target ready for a search promises. Assumes nothing: these are definitions.
use Rattle.std.specs.Prelude.{Result, Ok, Err, ◌≡◌, List, [], ◌∷◌, ℕ, ◌≤◌, ◌<◌, length, take, drop}
use Rattle.limits.specs.Limits.{most_letters, most_generators, most_of_list, most_signed_generators, most_of_signed_list}
use Rattle.slices.specs.Slices.{overwritten}
use Rattle.words.specs.Word.{nf}
use Rattle.words.specs.Bytes.{word, bytes}
use Rattle.words.specs.declared.Letters.{Letters}
use Rattle.refusals.specs.Questions.{Asked, passed, first_no, of_letters}
use Rattle.refusals.specs.declared.Refusal.TheVariants.{OutputTooShort}
use Rattle.refusals.specs.declared.Refusal.{Refusal}
use Rattle.products.specs.Product.{generators}
use Rattle.products.specs.State.{AllNormal}
use Rattle.lists.specs.Questions.{of_list, question11}
use Rattle.lists.specs.NormalList.{normal_bytes, normal_ends}
use Rattle.trees.specs.Tree.{at}
use Rattle.trees.specs.Building.{Slices, BuildsTree}
use Rattle.queries.specs.declared.Posed.{Posed}

-- What is lent: a slice for the target's form, and the slices of a tree.
pub record Lent : Type 0 where
  pub form : List ℕ
  pub tree : Slices

-- The tree's slices have room for the states of a list of at most `most` letters, and for the nodes of its generators; and the form's for any target.
pub record TreeRoom (most generators letters rests children_r children_s wholes : ℕ) : Type 0 where
  pub short : most ≤ most_of_signed_list
  pub room_letters : most < letters
  pub room_rests : most < rests
  pub room_r : most < children_r
  pub room_s : most < children_s
  pub room_wholes : generators ≤ wholes

pub record Room (most generators form letters rests children_r children_s wholes : ℕ) : Type 0 where
  pub room_form : most_letters ≤ form
  pub tree : TreeRoom most generators letters rests children_r children_s wholes

abbrev pub HasRoom : ℕ → ℕ → Lent → Type 0
HasRoom most generators lent =
    Room most generators (length lent.form) (length lent.tree.letters) (length lent.tree.rests) (length lent.tree.children_r)
    (length lent.tree.children_s) (length lent.tree.wholes)

-- A list that has been reduced, with or without its inverses: its letters, one generator behind the other, and their ends.
pub record ReducedList (letters ends : List ℕ) : Type 0 where
  pub short : length letters ≤ most_of_signed_list
  pub few : length ends ≤ most_signed_generators
  pub rising : (i j : ℕ) → i ≤ j → j < length ends → at ends i ≤ at ends j
  pub within : (j : ℕ) → j < length ends → at ends j ≤ length letters
  pub normal : AllNormal (generators letters ends)

-- the slices with the first k of the nodes of whole generators
abbrev pub with_wholes : ℕ → Slices → Slices
with_wholes k tree =
    record { letters = tree.letters; rests = tree.rests; children_r = tree.children_r; children_s = tree.children_s; wholes = take k tree.wholes }

-- The tree of a list is built, with the nodes of its generators in the front of `wholes`.
pub record TreeStands (letters ends : List ℕ) (count : ℕ) (before after : Slices) : Type 0 where
  pub built : BuildsTree letters ends (with_wholes (length ends) before) (with_wholes (length ends) after) count
  pub wholes_kept : drop (length ends) after.wholes ≡ drop (length ends) before.wholes

-- the answer for what is ready
abbrev pub ready : Letters → Letters → ℕ → Result Posed Refusal
ready m t count = Ok (record { m = m; t = t; count = count })

-- the tree stands, and the answer tells the sizes
abbrev pub Plants : List ℕ → List ℕ → ℕ → Result Posed Refusal → Slices → Slices → Type 0
Plants letters ends form (Ok posed) before after =
    (posed.m.0 ≡ length letters) × (posed.t.0 ≡ form) × TreeStands letters ends posed.count before after
Plants letters ends form (Err refusal) before after = ⊥

-- The tree of a reduced list, and the normal form of the target in front of its slice.
pub record PosesReduced (letters ends target : List ℕ) (r : Result Posed Refusal) (before after : Lent) : Type 0 where
  pub form : after.form ≡ overwritten (bytes (nf (word target))) before.form
  pub tree : Plants letters ends (length (nf (word target))) r before.tree after.tree

-- A reduced list and a target that has passed questions 8 and 10 are posed where there is room for them; where there is none nothing changes.
pub record PosesForms (letters ends target : List ℕ) (r : Result Posed Refusal) (before after : Lent) : Type 0 where
  pub posed : HasRoom (length letters) (length ends) before → ReducedList letters ends → of_letters target ≡ passed → PosesReduced letters ends target r before after
  pub unfit : (HasRoom (length letters) (length ends) before → ⊥) → (r ≡ Err OutputTooShort) × (after ≡ before)

-- By what the questions say: a refusal changes nothing lent.
abbrev pub ByQuestions : Asked → List ℕ → List ℕ → List ℕ → Result Posed Refusal → Lent → Lent → Type 0
ByQuestions (Err refusal) bytes ends target r before after = (r ≡ Err refusal) × (after ≡ before)
ByQuestions (Ok _) bytes ends target r before after =
    PosesReduced (normal_bytes (generators bytes ends)) (normal_ends 0 (generators bytes ends)) target r before after

-- what is asked once questions 7 to 10 have passed: 11
abbrev pub PosesList : List ℕ → List ℕ → List ℕ → Result Posed Refusal → Lent → Lent → Type 0
PosesList bytes ends target r before after = ByQuestions (question11 (generators bytes ends)) bytes ends target r before after

-- 7, 8, 9 and 10; then 11
abbrev pub of_query : List ℕ → List ℕ → List ℕ → Asked
of_query bytes ends target = first_no (of_list bytes ends target ∷ question11 (generators bytes ends) ∷ [])

-- Where there is room for every list that the questions let pass, they are asked; else nothing changes.
pub record Poses (bytes ends target : List ℕ) (r : Result Posed Refusal) (before after : Lent) : Type 0 where
  pub posed : HasRoom most_of_list most_generators before → ByQuestions (of_query bytes ends target) bytes ends target r before after
  pub unfit : (HasRoom most_of_list most_generators before → ⊥) → (r ≡ Err OutputTooShort) × (after ≡ before)
