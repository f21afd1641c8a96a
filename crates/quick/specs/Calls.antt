-- What the quick answer promises. 02, M-106. Assumes nothing: these are definitions.
use Rattle.std.specs.Prelude.{Result, Ok, Err, ◌≡◌, List, ℕ}
use Rattle.words.specs.Word.{Word}
use Rattle.words.specs.Bytes.{word}
use Rattle.refusals.specs.Questions.{Asked}
use Rattle.refusals.specs.declared.Refusal.{Refusal}
use Rattle.products.specs.Product.{generators, plain}
use Rattle.residues.specs.Residues.{QuickNoRight, OpenRight}
use Rattle.quick.specs.Questions.{of_quick}
use Rattle.quick.specs.declared.Quick.{Quick}
use Rattle.quick.specs.declared.Quick.TheVariants.{No, Open}

-- 02: "The quick no is given exactly when the target's image is not a product of one or more of the generators' images [..]; otherwise the answer is open."
abbrev pub QuickRight : List Word → Word → Quick → Type 0
QuickRight gens target No = QuickNoRight (plain gens) target
QuickRight gens target Open = OpenRight (plain gens) target

-- by what the questions say
abbrev pub AnsweredBy : Asked → List Word → Word → Result Quick Refusal → Type 0
AnsweredBy (Err refusal) gens target r = r ≡ Err refusal
AnsweredBy (Ok _) gens target (Ok quick) = QuickRight gens target quick
AnsweredBy (Ok _) gens target (Err refusal) = ⊥

abbrev pub Answers : List ℕ → List ℕ → List ℕ → Result Quick Refusal → Type 0
Answers bytes ends target r = AnsweredBy (of_quick bytes ends target) (generators bytes ends) (word target) r
