-- What building a tree promises. Assumes nothing: these are definitions.
use Rattle.std.specs.Prelude.{◌≡◌, List, ℕ, suc, ◌≤◌, ◌<◌, length, Result, Ok, Err}
use Rattle.products.specs.Product.{generators}
use Rattle.trees.specs.Tree.{at, most_of_entry, Tree}
use Rattle.trees.specs.Numbering.{numbered}
use Rattle.trees.specs.Growing.{node_slices, Remains}
use Rattle.trees.specs.declared.Unfit.{Unfit}

-- The ends never fall and stay within the letters, and each lent slice has room: for a node more than there are letters, and for just
-- the generators.
pub record Fits (bytes ends letters rests children_r children_s wholes : List ℕ) : Type 0 where
  pub few : length bytes < most_of_entry
  pub rising : (i j : ℕ) → i ≤ j → j < length ends → at ends i ≤ at ends j
  pub within : (j : ℕ) → j < length ends → at ends j ≤ length bytes
  pub room_letters : length bytes < length letters
  pub room_rests : length bytes < length rests
  pub room_r : length bytes < length children_r
  pub room_s : length bytes < length children_s
  pub room_wholes : length wholes ≡ length ends

-- The five lent slices of a tree.
pub record Slices : Type 0 where
  pub letters : List ℕ
  pub rests : List ℕ
  pub children_r : List ℕ
  pub children_s : List ℕ
  pub wholes : List ℕ

-- The slices hold the tree of the list's generators, whose nodes are numbered as they are read: this fixes (proofs/Unique.antt) the letter and the
-- rest of each node but node 0, all children, and the node of each generator. Node 0's rest is 0. Its letter, which means nothing, and what stands
-- behind the nodes are as they were.
pub record BuildsTree (bytes ends : List ℕ) (before after : Slices) (count : ℕ) : Type 0 where
  pub fits : Fits bytes ends before.letters before.rests before.children_r before.children_s before.wholes
  pub tree :
      Tree (generators bytes ends) (numbered (generators bytes ends)) after.letters after.rests after.children_r after.children_s after.wholes
  pub counted : length (numbered (generators bytes ends)) ≡ count
  pub few : count ≤ suc (length bytes)
  pub remains :
      Remains count (node_slices before.letters before.rests before.children_r before.children_s)
      (node_slices after.letters after.rests after.children_r after.children_s)
  pub root_rest : at after.rests 0 ≡ 0

-- Where the inputs fit the tree is built, and the answer is how many nodes it has; else nothing changes.
abbrev pub Builds : List ℕ → List ℕ → Slices → Slices → Result ℕ Unfit → Type 0
Builds bytes ends before after (Ok count) = BuildsTree bytes ends before after count
Builds bytes ends before after (Err _) =
    (Fits bytes ends before.letters before.rests before.children_r before.children_s before.wholes → ⊥) × (after ≡ before)
