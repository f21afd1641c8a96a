-- What a caller learns from the answer, where there is room: a refusal is that of the questions, and what is ready is so for a search. Assumes nothing.
use mathlib.Core.Path.{◌≡◌, refl, sym, ap, subst, ◌∙◌}
use mathlib.Core.List.{List, [], ◌∷◌, map}
use Prim.Native.Nat.{ℕ, ◌≤◌}
use native.Mathlib.Omega.{arith}
use lib.ListN.{length, take, drop, length-append, length-map}
use lib.Seq.{length-take-le}
use Rattle.refusals.specs.Questions.{Asked, passed}
use Rattle.std.specs.Prelude.{Result, Err, Ok}
use Rattle.limits.specs.Limits.{most_letters, most_generators}
use Rattle.words.specs.Word.{Word, Normal, nf}
use Rattle.words.specs.Bytes.{letter, word, bytes as bytes_of}
use Rattle.words.specs.declared.Letters.{Letters}
use Rattle.words.proofs.Answering.{take_overwritten}
use Rattle.words.proofs.Bytes.{word_bytes, length_bytes}
use Rattle.words.proofs.NormalForm.{nf_normal, nf_length}
use Rattle.refusals.specs.declared.Refusal.{Refusal}
use Rattle.refusals.proofs.Asking.{first_no_head, first_no_tail, first_no_one}
use Rattle.products.specs.Product.{generators}
use Rattle.products.specs.State.{AllNormal}
use Rattle.products.proofs.Generators.{generators_length}
use Rattle.lists.specs.Questions.{of_list, question11}
use Rattle.lists.specs.NormalList.{total, normal_bytes, normal_ends}
use Rattle.lists.proofs.NormalList.{normal_bytes_length, normal_ends_length, normal_list}
use Rattle.lists.proofs.Passing.{ListPassed, list_passed}
use Rattle.trees.specs.Tree.{Tree}
use Rattle.trees.specs.Numbering.{numbered}
use Rattle.queries.specs.Posing.{ready, Lent, ReducedList, PosesReduced, ByQuestions, of_query}
use Rattle.queries.specs.Ready.{ReadyFor}
use Rattle.queries.specs.declared.Posed.{Posed}
use Rattle.queries.proofs.ReducedList.{reduced_list}

-- m and t are the letters of a reduced list and of the target's form, which stands in front of its slice; and the slices are ready for a search.
pub record FormsReady (words : List Word) (generators : ℕ) (target : List ℕ) (m t : Letters) (count : ℕ) (after : Lent) : Type 0 where
  pub letters : m.0 ≡ total words
  pub form_length : t.0 ≡ length (nf (word target))
  pub form : word (take t.0 after.form) ≡ nf (word target)
  pub inside : t.0 ≤ length after.form
  pub form_short : t.0 ≤ most_letters
  pub ready :
      ReadyFor (map nf words) m.0 count after.tree.letters after.tree.rests after.tree.children_r after.tree.children_s
      (take generators after.tree.wholes) (take t.0 after.form)

module _ (words : List Word) (generators : ℕ) (numbers : length words ≡ generators) (target : List ℕ) (m t : Letters) (count : ℕ) (before after : Lent)
    (list_reduced : ReducedList (normal_bytes words) (normal_ends 0 words)) (short : length target ≤ most_letters)
    (poses : PosesReduced (normal_bytes words) (normal_ends 0 words) target (ready m t count) before after) where
  abbrev target_form : Word
  target_form = nf (word target)

  -- the sizes
  m_letters : m.0 ≡ length (normal_bytes words)
  m_letters = poses.tree.0

  t_letters : t.0 ≡ length target_form
  t_letters = poses.tree.1

  t_short : t.0 ≤ most_letters
  t_short = omega (arith, t_letters, nf_length (word target), length-map target letter)

  -- the form in front of its slice
  t_inside : t.0 ≤ length after.form
  t_inside =
      let written = bytes_of target_form in
      rw poses.form (omega (arith, t_letters, length_bytes target_form, length-append written (drop (length written) before.form)))

  form_there : word (take t.0 after.form) ≡ target_form
  form_there =
      ap (λ (l : List ℕ). word (take t.0 l)) poses.form
      ∙ ap word (take_overwritten (bytes_of target_form) before.form t.0 (t_letters ∙ sym (length_bytes target_form)))
      ∙ word_bytes target_form

  -- the tree, of as many generators as there are ends
  ends_length : length (normal_ends 0 words) ≡ generators
  ends_length = normal_ends_length 0 words ∙ numbers

  tree_ready :
      ReadyFor (map nf words) m.0 count after.tree.letters after.tree.rests after.tree.children_r after.tree.children_s
      (take generators after.tree.wholes) (take t.0 after.form)
  tree_ready =
      let built = poses.tree.2.built in
      let tree = after.tree in
      record {
        normal = subst AllNormal (normal_list words) list_reduced.normal;
        tree =
            subst
            (λ (k : ℕ). Tree (map nf words) (numbered (map nf words)) tree.letters tree.rests tree.children_r tree.children_s (take k tree.wholes))
            ends_length
            (subst
            (λ (g : List Word).
            Tree g (numbered g) tree.letters tree.rests tree.children_r tree.children_s (take (length (normal_ends 0 words)) tree.wholes))
            (normal_list words) built.tree);
        size = ap (λ (g : List Word). length (numbered g)) (sym (normal_list words)) ∙ built.counted;
        few = omega (arith, m_letters, built.few);
        short = omega (arith, m_letters, list_reduced.short);
        few_generators = omega (arith, length-map words nf, normal_ends_length 0 words, list_reduced.few);
        form_normal = subst Normal (sym form_there) (nf_normal (word target));
        form_short = omega (arith, length-take-le t.0 after.form t_inside, t_short);
      }

  pub forms_ready : FormsReady words generators target m t count after
  forms_ready =
      record {
        letters = m_letters ∙ normal_bytes_length words;
        form_length = t_letters;
        form = form_there;
        inside = t_inside;
        form_short = t_short;
        ready = tree_ready;
      }

-- All has passed, and the list and the target as they are given are ready.
pub record PosedReady (bytes ends target : List ℕ) (m t : Letters) (count : ℕ) (after : Lent) : Type 0 where
  pub passed : of_query bytes ends target ≡ passed
  pub few : length ends ≤ most_generators
  pub forms : FormsReady (generators bytes ends) (length ends) target m t count after

module _ (bytes ends target : List ℕ) (m t : Letters) (count : ℕ) (before after : Lent) (passed : of_query bytes ends target ≡ passed)
    (poses : PosesReduced (normal_bytes (generators bytes ends)) (normal_ends 0 (generators bytes ends)) target (ready m t count) before after) where
  abbrev gens : List Word
  gens = generators bytes ends

  list_and_target : ListPassed bytes ends target
  list_and_target = list_passed bytes ends target (first_no_head (of_list bytes ends target) (question11 gens ∷ []) passed)

  list_reduced : ReducedList (normal_bytes gens) (normal_ends 0 gens)
  list_reduced =
      reduced_list gens (omega (arith, generators_length bytes 0 ends, list_and_target.few))
      (sym (first_no_one (question11 gens)) ∙ first_no_tail (of_list bytes ends target) (question11 gens ∷ []) passed)

  reduced_ready : PosedReady bytes ends target m t count after
  reduced_ready =
      record {
        passed = passed;
        few = list_and_target.few;
        forms = forms_ready gens (length ends) (generators_length bytes 0 ends) target m t count before after list_reduced list_and_target.target_short poses;
      }

-- What is said by the questions: a refusal is theirs, and leaves what was lent; else all is ready.
module _ (bytes ends target : List ℕ) (before after : Lent) where
  pub posed_refused : {r : Result Posed Refusal} {refusal : Refusal} → ByQuestions (of_query bytes ends target) bytes ends target r before after → r ≡ Err refusal
      → (of_query bytes ends target ≡ Err refusal) × (after ≡ before)
  posed_refused {r} {refusal} poses e =
      by (of_query bytes ends target) (subst (λ (a : Result Posed Refusal). ByQuestions (of_query bytes ends target) bytes ends target a before after) e poses)
    where
      by : (asked : Asked) → ByQuestions asked bytes ends target (Err refusal) before after → (asked ≡ Err refusal) × (after ≡ before)
      by (Err other) (same, kept) = (cc, kept)
      by (Ok _) reduced = absurd reduced.tree

  pub posed_passed : {r : Result Posed Refusal} {posed : Posed} → ByQuestions (of_query bytes ends target) bytes ends target r before after → r ≡ Ok posed
      → PosedReady bytes ends target posed.m posed.t posed.count after
  posed_passed {r} {posed} poses e =
      by (of_query bytes ends target) refl
      (subst (λ (a : Result Posed Refusal). ByQuestions (of_query bytes ends target) bytes ends target a before after) e poses)
    where
      by : (asked : Asked) → of_query bytes ends target ≡ asked → ByQuestions asked bytes ends target (Ok posed) before after
          → PosedReady bytes ends target posed.m posed.t posed.count after
      by (Err other) q (same, kept) = let z : ◌≡◌ {A = ℕ} 0 1 = cc in absurd (omega arith)
      by (Ok _) q reduced = reduced_ready bytes ends target posed.m posed.t posed.count before after q reduced
