-- Whenever the quick no is given, no verdict on the same list and target finds a product: the plain and the signed one are none, or refused, for every n, and
-- the unbounded one is no, or refused. 02, M-106: "Whenever it is given, the bounded and unbounded verdicts, where they aren't refused, are none as well, for
-- every n." All of it is said of the calls' contracts.
-- Assumes nothing.
use mathlib.Core.Path.{◌≡◌}
use mathlib.Core.List.{List}
use Prim.Native.Nat.{ℕ}
use native.Mathlib.Omega.{arith}
use lib.ListN.{length}
use Rattle.words.specs.Word.{Word, nf}
use Rattle.words.specs.Bytes.{word}
use Rattle.words.specs.declared.Factors.{Factors}
use Rattle.refusals.specs.Questions.{Asked}
use Rattle.std.specs.Prelude.{Some, Ok, Err, true}
use Rattle.products.specs.Product.{generators, Family, plain, signed, with_inverses, NoneRight, NoRight}
use Rattle.residues.specs.Residues.{QuickNoRight}
use Rattle.residues.proofs.Quick.{quick_no, quick_none}
use Rattle.residues.proofs.Inverses.{signed_none}
use Rattle.lists.specs.NormalList.{total}
use Rattle.sizes.specs.Questions.{side}
use Rattle.engine.specs.Questions.{of_product}
use Rattle.engine.specs.Calls.{Lent, Judged, Judges}
use Rattle.subgroups.specs.Questions.{of_signed}
use Rattle.subgroups.specs.Calls.{JudgesSigned}
use Rattle.reach.specs.Questions.{of_reachable}
use Rattle.reach.specs.Calls.{Lent as Reach-as-Lent, ReachedBy, Reaches}
use Rattle.quick.specs.Questions.{of_quick}
use Rattle.quick.specs.Calls.{AnsweredBy, Answers}
use Rattle.quick.specs.declared.Quick.TheVariants.{No}

-- a no is right: it is no refusal
answered_no : (asked : Asked) (gens : List Word) (target : Word) → AnsweredBy asked gens target (Ok No) → QuickNoRight (plain gens) target
answered_no (Err refusal) gens target e = let z : ◌≡◌ {A = ℕ} 0 1 = cc in absurd (omega arith)
answered_no (Ok _) gens target right = right

-- where none is right there is no member
no_member : (asked : Asked) (q : ℕ) (family : Family) (target : Word) (n : ℕ) (count : Factors) (before after : Lent) → NoneRight family target n
    → Judged asked q family target n (Ok (Some count)) before after → ⊥
no_member (Err refusal) q family target n count before after right (e, kept) = let z : ◌≡◌ {A = ℕ} 0 1 = cc in omega arith
no_member (Ok _) q family target n count before after right ((member, kept), first, second) = right _ member.rival member.reaches

-- where no is right there is no yes
no_yes : (asked : Asked) (q : ℕ) (gens : List Word) (target : Word) (before after : Reach-as-Lent) → NoRight (plain gens) target
    → ReachedBy asked q gens target (Ok true) before after → ⊥
no_yes (Err refusal) q gens target before after right (e, kept) = let z : ◌≡◌ {A = ℕ} 0 1 = cc in omega arith
no_yes (Ok _) q gens target before after right ((r, series, counted, reaches), first, second) = right r series counted reaches

module _ (bytes ends target : List ℕ) (given : Answers bytes ends target (Ok No)) where
  no_product : QuickNoRight (plain (generators bytes ends)) (word target)
  no_product = answered_no (of_quick bytes ends target) (generators bytes ends) (word target) given

  pub judge_no_member : (n : ℕ) (count : Factors) (before after : Lent) → Judges bytes ends target n (Ok (Some count)) before after → ⊥
  judge_no_member n count before after =
      no_member (of_product bytes ends target (word target) n (length before.first) (length before.second) (length before.witness))
      (side (total (generators bytes ends)) (length (nf (word target)))) (plain (generators bytes ends)) (word target) n count before after
      (quick_none (plain (generators bytes ends)) (word target) no_product n)

  pub judge_subgroup_no_member : (n : ℕ) (count : Factors) (before after : Lent) (slice slice' : List ℕ)
      → JudgesSigned bytes ends target n (Ok (Some count)) before after slice slice' → ⊥
  judge_subgroup_no_member n count before after slice slice' judges =
      no_member (of_signed bytes ends target n (length before.first) (length before.second) (length before.witness) (length slice))
      (side (total (with_inverses (generators bytes ends))) (length (nf (word target)))) (signed (generators bytes ends)) (word target) n count before after
      (signed_none (generators bytes ends) (word target) no_product n)
      judges.judged

  pub reachable_no_yes : (before after : Reach-as-Lent) → Reaches bytes ends target (Ok true) before after → ⊥
  reachable_no_yes before after =
      no_yes (of_reachable bytes ends target (length before.first) (length before.second))
      (side (total (generators bytes ends)) (length (nf (word target)))) (generators bytes ends) (word target) before after (quick_no (plain (generators bytes ends)) (word target) no_product)
