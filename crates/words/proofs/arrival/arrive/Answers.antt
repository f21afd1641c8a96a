-- A letter that goes finds on the stack the letters that go with it: an R that meets an R finds one, and an S that meets SS two. The arm of the last ending is
-- reached where the number is none of 0, 1 and 2. Assumes nothing.
use mathlib.Core.Path.{◌≡◌, refl, ap}
use native.Mathlib.Omega.{arith}
use denote.Enum.Declared.{tag_of}
use Rattle.words.specs.contracts.Ending.{the_type}
use Rattle.words.specs.declared.Ending.{Ending}
use Rattle.words.specs.declared.Ending.TheVariants.{Nothing, R, S, SS}
use Rattle.words.proofs.Stack.{r_cancels, s_cancels, ending_3, height_r, height_ss}
use Rattle.words.proofs.arrival.arrive.Goals as goal

-- an ending by its number
by_1 : (e : Ending) → tag_of the_type e ≡ 1 → e ≡ R
by_1 Nothing h = absurd (omega (arith, h))
by_1 R h = refl
by_1 S h = absurd (omega (arith, h))
by_1 SS h = absurd (omega (arith, h))

pub returns-in-1 : goal.returns-in-1
returns-in-1 c =
    let e = by_1 c.args.top.ending c.in-1.is in
    r_cancels _ _ _ _ c.in-82.is e (height_r _ _ _ c.requires.some_held e) c.pop_to.ensures

pub returns-in_default-ending-2 : goal.returns-in_default-ending-2
returns-in_default-ending-2 c =
    let not_r : c.args.byte ≡ 82 → ⊥ = λ h. omega arith in
    let number = λ (e : Ending). tag_of the_type e in
    let e = ending_3 _ _ _ c.requires.some_held (λ h. omega (arith, ap number h)) (λ h. omega (arith, ap number h)) (λ h. omega (arith, ap number h)) in
    s_cancels _ _ _ _ not_r e (height_ss _ _ _ c.requires.some_held e) c.pop_to-in_default-ending-2.ensures
