-- What is ready fits the search where the sizes have passed, and what the search finds is the verdict. Assumes nothing.
use mathlib.Core.List.{List}
use Prim.Native.Nat.{ℕ, suc, ◌+◌, ◌*◌, ◌≤◌}
use native.Mathlib.Nat.{mul-le-mul}
use native.Mathlib.Omega.{arith}
use lib.ListN.{length}
use Rattle.std.specs.Prelude.{Some, None, Ok, Err}
use Rattle.words.specs.Word.{Word}
use Rattle.words.specs.Bytes.{word}
use Rattle.products.specs.Product.{plain}
use Rattle.sizes.specs.Questions.{side}
use Rattle.sizes.proofs.Passing.{SizesPassed}
use Rattle.trees.specs.Numbering.{numbered}
use Rattle.trees.proofs.Remaining.{drop_later}
use Rattle.tables.proofs.Exact.{tree_fits}
use Rattle.queries.specs.Ready.{ReadyFor}
use Rattle.search.specs.Search.{Found, Lent, used, Fits, Posed, Answers, Searches}
use Rattle.engine.specs.Calls.{VerdictRight}
use Rattle.engine.specs.Judging.{of_found, Settled}

-- The tree has no more nodes than the list has letters, and one; so a row for each node and for each letter of the form fit in q × q entries.
used_within : (m t count : ℕ) → count ≤ suc m → used count t ≤ side m t * side m t
used_within m t count few =
    let rows : count + t ≤ side m t = omega arith in
    let nodes : count ≤ side m t = omega arith in
    mul-le-mul rows nodes

-- an answer is a verdict
verdict_right : (gens : List Word) (form : List ℕ) (n : ℕ) (before after : List ℕ) (found : Found) → Answers gens form n before found after
    → VerdictRight (plain gens) (word form) n (of_found found) before after
verdict_right gens form n before after (Ok (Some k)) right = right
verdict_right gens form n before after (Ok None) right = right
verdict_right gens form n before after (Err _) right = right

module _ (n : ℕ) {gens : List Word} {m count : ℕ} {letters rests children_r children_s wholes form : List ℕ}
    (ready : ReadyFor gens m count letters rests children_r children_s wholes form) where
  posed : Posed gens (numbered gens) count letters rests children_r children_s wholes form
  posed =
      record {
        normal = ready.normal;
        tree = ready.tree;
        size = ready.size;
        target_normal = ready.form_normal;
      }

  module _ (lent : Lent) (passed : SizesPassed m (length form) n (length lent.first) (length lent.second) (length lent.witness)) where
    abbrev q : ℕ
    q = side m (length form)

    within : used count (length form) ≤ q * q
    within = used_within m (length form) count ready.few

    fits : Fits count letters rests children_r children_s wholes form n lent
    fits =
        let few = ready.few in
        record {
          room = record {
            few = omega (arith, few, ready.short);
            short = ready.form_short;
            numbers = omega (arith, ready.few_generators, ready.tree.wholes_count);
            witness = passed.room;
            first = omega (arith, within, passed.first_room);
            second = omega (arith, within, passed.second_room);
          };
          table = tree_fits ready.tree ready.size (omega (arith, few, ready.short)) passed.bound (omega (arith, within, passed.first_room));
        }

    -- what is searched fits, so what is found is right
    pub settled : (lent' : Lent) (found : Found) → Searches count letters rests children_r children_s wholes form n found lent lent'
        → Settled q (plain gens) (word form) n (of_found found) lent lent'
    settled lent' found searches =
        record {
          right = verdict_right gens form n lent.witness lent'.witness found (searches.answers fits gens (numbered gens) posed);
          first = drop_later (used count (length form)) (q * q) lent'.first lent.first within searches.first;
          second = drop_later (used count (length form)) (q * q) lent'.second lent.second within searches.second;
        }
