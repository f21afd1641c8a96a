-- The closure of images under products: what its functions ask for and promise. Assumes nothing: these are definitions.
use Rattle.std.specs.Prelude.{◌⊎◌, ◌≡◌, List, [], ◌∷◌, ℕ, zero, suc, ◌+◌, ◌*◌, ◌-◌, ◌≤◌, ◌<◌, ltb, length, get_or}
use Rattle.refusals.specs.Telling.{pick}
use Rattle.words.specs.Word.{Word}
use Rattle.products.specs.Product.{generator}
use Rattle.residues.specs.Residues.{image, multiplied}
use Rattle.residues.specs.Made.{Made}
use Rattle.quick.specs.declared.closing.Marks.{Marks}
use Rattle.quick.specs.declared.closing.Rows.{Rows}

-- Image b of those taken in: what stands at the unit in its row, which begins at 168 b.
abbrev pub act : List ℕ → ℕ → ℕ
act rows b = get_or rows (b * 168 + 21) 0

-- the rows of the images taken in have their products with all others
pub record RowsRight (rows : List ℕ) (taken : ℕ) : Type 0 where
  pub inside : taken * 168 ≤ length rows
  pub small : (b : ℕ) → b < taken → act rows b < 168
  pub row : (b k : ℕ) → b < taken → k < 168 → get_or rows (b * 168 + k) 0 ≡ multiplied (act rows b) k

-- the mark of image k is set
abbrev pub Seen : List ℕ → ℕ → Type 0
Seen visited k = 0 < get_or visited k 0

abbrev pub unset : List ℕ → ℕ
unset [] = 0
unset (zero ∷ marks) = suc (unset marks)
unset (suc mark ∷ marks) = unset marks

-- the images that are marked, and no others, are the first `count` of the queue, each once
pub record Marked (visited queue : List ℕ) (count : ℕ) : Type 0 where
  pub width : length visited ≡ 168
  pub room : length queue ≡ 168
  pub counted : count + unset visited ≡ 168
  pub queued : (i : ℕ) → i < count → (get_or queue i 0 < 168) × Seen visited (get_or queue i 0)
  pub found : (k : ℕ) → Seen visited k → (i : ℕ) × (i < count) × (get_or queue i 0 ≡ k)

-- marks stay, and so does the front of the queue
pub record Grown (visited queue : List ℕ) (count : ℕ) (visited' queue' : List ℕ) (count' : ℕ) : Type 0 where
  pub longer : count ≤ count'
  pub marks : (k : ℕ) → Seen visited k → Seen visited' k
  pub front : (i : ℕ) → i < count → get_or queue' i 0 ≡ get_or queue i 0

-- image k is marked, and no other is new
pub record Visits (k : ℕ) (visited queue : List ℕ) (count : ℕ) (visited' queue' : List ℕ) (count' : ℕ) : Type 0 where
  pub marked : Marked visited' queue' count'
  pub grown : Grown visited queue count visited' queue' count'
  pub seen : Seen visited' k
  pub only : (x : ℕ) → Seen visited' x → Seen visited x ⊎ (x ≡ k)

-- only products of the images taken in are marked
abbrev pub AllMade : List ℕ → ℕ → List ℕ → Type 0
AllMade rows taken visited = (k : ℕ) → Seen visited k → Made (act rows) taken k

-- the products of image i of the queue with those taken in, from image `from` up to image `to`, are marked
pub record Spreads (rows : List ℕ) (from to taken i : ℕ) (visited queue : List ℕ) (count : ℕ) (visited' queue' : List ℕ) (count' : ℕ) : Type 0 where
  pub marked : Marked visited' queue' count'
  pub grown : Grown visited queue count visited' queue' count'
  pub used : (b : ℕ) → from ≤ b → b < to → Seen visited' (multiplied (act rows b) (get_or queue i 0))
  pub made : AllMade rows taken visited → AllMade rows taken visited'

abbrev pub first_new : ℕ → ℕ → ℕ → ℕ
first_new i old taken = pick (ltb i old) (taken - 1) 0

-- the products of the first `old` of the queue with those taken in before the last are marked
abbrev pub OldUsed : List ℕ → ℕ → ℕ → List ℕ → List ℕ → Type 0
OldUsed rows taken old visited queue = (i b : ℕ) → i < old → b + 1 < taken → Seen visited (multiplied (act rows b) (get_or queue i 0))

-- unless the target is marked, all products are
abbrev pub ClosedUnless : List ℕ → ℕ → ℕ → List ℕ → Type 0
ClosedUnless rows taken target visited = (Seen visited target → ⊥) → (k b : ℕ) → Seen visited k → b < taken → Seen visited (multiplied (act rows b) k)

pub record Closes (rows : List ℕ) (taken old target : ℕ) (visited queue : List ℕ) (count : ℕ) (visited' queue' : List ℕ) (count' : ℕ) : Type 0 where
  pub marked : Marked visited' queue' count'
  pub grown : Grown visited queue count visited' queue' count'
  pub made : AllMade rows taken visited → AllMade rows taken visited'
  pub closed : OldUsed rows taken old visited queue → ClosedUnless rows taken target visited'

-- The images of the first j generators are decided: some of them were taken in, only products are marked, each of these images is, and so are all products,
-- unless the target is.
pub record Held (gens : List Word) (j target : ℕ) (rows visited : List ℕ) (taken : ℕ) : Type 0 where
  pub from_list : (b : ℕ) → b < taken → (i : ℕ) × (i < j) × (act rows b ≡ image (generator gens i))
  pub made : AllMade rows taken visited
  pub covers : (i : ℕ) → i < j → Seen visited (image (generator gens i))
  pub closed : ClosedUnless rows taken target visited

-- one image more
pub record TakesIn (image' target : ℕ) (rows : Rows) (marks : Marks) (rows' : Rows) (marks' : Marks) : Type 0 where
  pub rows_right : RowsRight rows'.entries rows'.taken
  pub marked : Marked marks'.visited marks'.queue marks'.count
  pub few : rows'.taken ≤ rows.taken + 1
  pub size : length rows'.entries ≡ length rows.entries
  pub held : (gens : List Word) (j : ℕ) → image' ≡ image (generator gens j) → Held gens j target rows.entries marks.visited rows.taken
      → Held gens (j + 1) target rows'.entries marks'.visited rows'.taken
