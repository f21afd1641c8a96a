-- What stands at the end of the last row decides, where counts are laid out as pairs and rows.
--     none_answered       an entry above the bound: none is right
--     written_answered    an entry of at most the bound: what is written is right, and what is not is no list's
-- Assumes that the tables are filled.
use mathlib.Core.Path.{◌≡◌, refl, sym, ap, subst, ◌∙◌}
use mathlib.Core.List.{List}
use Prim.Native.Nat.{ℕ, ◌*◌, ◌≤◌, ◌<◌}
use native.Mathlib.Omega.{arith}
use lib.ListN.{length, take, drop}
use Rattle.std.specs.Prelude.{None, Result, Ok, Err}
use Rattle.words.specs.Word.{Word}
use Rattle.words.specs.declared.Factors.{Factors}
use Rattle.trees.specs.declared.Unfit.{Unfit}
use Rattle.words.specs.Bytes.{word}
use Rattle.products.specs.Product.{MemberRight, plain}
use Rattle.products.specs.State.{LeastLead}
use Rattle.trees.specs.Tree.{at, word_at}
use Rattle.trees.proofs.Nodes.{node_number_at}
use Rattle.tables.specs.Rules.{place}
use Rattle.derivations.specs.Ways.{World, world, parts_in, weight_in, whole}
use Rattle.derivations.specs.Query.{Query}
use Rattle.derivations.proofs.Series.{firsts_length}
use Rattle.derivations.proofs.RowParts.{row_weight, row_some, root_inside}
use Rattle.derivations.proofs.Answer.{attained, derived_right, none_right}
use Rattle.search.specs.Search.{Lent, used, Posed}
use Rattle.witness.specs.Witness.{Spells, Fits, Derivable, Writes}
use Rattle.search.specs.Answering.{of_written, Tabulated, Answered}
use Rattle.search.proofs.SameRows.{path_same}
use Rattle.search.proofs.Laid.{Laid, laid_append}

module _ {count : ℕ} {letters rests children_r children_s wholes target : List ℕ} {n : ℕ} {lent : Lent}
    (tabulated : Tabulated count letters rests children_r children_s wholes target n lent) where
  abbrev last_entry : ℕ
  last_entry = at lent.second (length target * count)

  module _ (counts : List ℕ) (laid : Laid count (length target) lent.first lent.second counts) where
    abbrev w : World
    w = world count letters rests children_r children_s wholes target counts

    -- every list that is posed is a query
    query : {gens words : List Word} → Posed gens words count letters rests children_r children_s wholes target → Query gens words n w
    query {gens} {words} posed =
        record {
          normal = posed.normal;
          tree = posed.tree;
          size = posed.size;
          few = tabulated.room.few;
          target_normal = posed.target_normal;
          short = tabulated.room.short;
          exact = λ p q h k.
              subst (LeastLead gens n (word_at words p) (word_at words q)) (sym (laid.pair p q h k)) (tabulated.exact gens words posed p q h k);
          rows = lent.second;
          path = path_same tabulated.rows counts laid.pair;
          behind = laid.row;
        }

    -- the target's item weighs the last row's entry
    last_weight : {gens words : List Word} → Posed gens words count letters rests children_r children_s wholes target → weight_in w (whole w) 0 ≡ last_entry
    unfolding query
    last_weight posed =
        let q = query posed in
        let root = node_number_at posed.tree 0 (omega (arith, root_inside q, posed.size)) in
        row_weight q (length target) 0 (omega arith) (root_inside q)
        ∙ ap (λ (p : ℕ). at lent.second (place count (length target) p)) root
        ∙ ap (at lent.second) (omega arith)

    witness_fits : Fits w n lent.second lent.witness
    witness_fits =
        let room = tabulated.room in
        record {
          small = record { some = tabulated.some; few = room.few; short = room.short; numbers = room.numbers; room = room.second };
          bound = tabulated.bound;
          room = room.witness;
        }

    -- the target's item weighs 1 or more, so where that is at most the bound it can be derived
    derivable : {gens words : List Word} → Posed gens words count letters rests children_r children_s wholes target → last_entry ≤ n → Derivable w n
    derivable posed within =
        let q = query posed in
        record {
          some = row_some q (length target) 0 (omega arith) (root_inside q);
          within = omega (arith, last_weight posed);
          attained = attained q;
        }

    spelled_right : {gens words : List Word} {k : ℕ} {before after : List ℕ} → Query gens words n w → k ≤ n → Spells w (whole w) 0 k before after
        → MemberRight (plain gens) (word target) n (take k after) k
    spelled_right {gens} {k = k} {after = after} q within spells =
        subst (MemberRight (plain gens) (word target) n (take k after)) (firsts_length (parts_in w) (weight_in w) spells.firsts ∙ spells.counts)
        (derived_right q (take k after) spells.firsts (omega (arith, spells.counts)))

    pub written_answered : (written : Result Factors Unfit) {second witness : List ℕ} → last_entry ≤ n
        → drop (used count (length target)) counts ≡ drop (used count (length target)) lent.first
        → Writes w n written lent.second lent.witness second witness
        → Answered count letters rests children_r children_s wholes target n (of_written written) lent
        (record { first = counts; second = second; witness = witness })
    written_answered (Ok k) within kept (fits, few, spells, second_kept) =
        record {
          answers = λ gens words posed. (spelled_right (query posed) few spells, spells.rest);
          first = kept;
          second = second_kept;
          unwritten = λ e. absurd e;
        }
    written_answered (Err e) within kept (unfit, same, second_kept) =
        record {
          answers = λ gens words posed. unfit witness_fits (derivable posed within);
          first = kept;
          second = second_kept;
          unwritten = λ _. same;
        }

  pub none_answered : n < last_entry → Answered count letters rests children_r children_s wholes target n (Ok None) lent lent
  none_answered above =
      let laid = laid_append count (length target) lent.first lent.second (omega (arith, tabulated.room.first)) in
      record {
        answers = λ gens words posed. (none_right (query _ laid posed) (omega (arith, last_weight _ laid posed)), refl);
        first = refl;
        second = refl;
        unwritten = λ e. absurd e;
      }
