-- What it says that questions 12 and 15 have passed: that all sizes have, where the bound and the witness are 0, which questions 13 and 14 let pass.
-- Assumes nothing.
use mathlib.Core.Path.{◌≡◌, ◌∙◌}
use mathlib.Core.List.{List, [], ◌∷◌}
use Prim.Native.Nat.{ℕ}
use Rattle.refusals.specs.Questions.{Asked, passed, question12}
use Rattle.refusals.proofs.Asking.{passed_first, first_no_head, first_no_tail}
use Rattle.sizes.specs.Questions.{side, of_bound, of_tables}
use Rattle.sizes.proofs.Passing.{SizesPassed, sizes_passed}
use Rattle.reach.specs.Questions.{of_room}

pub room_passed : (m t first second : ℕ) → of_room m t first second ≡ passed → SizesPassed m t 0 first second 0
room_passed m t first second e =
    let tables : List Asked = of_tables (side m t) first second ∷ [] in
    sizes_passed m t 0 first second 0
    (passed_first (question12 t) (of_bound 0 0 ∷ tables) (first_no_head (question12 t) tables e) ∙ first_no_tail (question12 t) tables e)
