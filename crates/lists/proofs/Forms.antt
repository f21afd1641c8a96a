-- Normal forms that are written one behind the other, each with its end. Assumes nothing.
use mathlib.Core.Path.{◌≡◌, refl, sym, ap, ap₂, ◌∙◌}
use mathlib.Core.List.{List, [], ◌∷◌, ◌++◌, append-nil}
use Prim.Native.Nat.{ℕ, ◌+◌, ◌≤◌, ◌<◌}
use native.Mathlib.Numerals.{add-one}
use native.Mathlib.Omega.{arith}
use lib.ListN.{length, take, drop, get_or, set}
use lib.Seq.{paste, length-take-le, take_all, take-suc, take-paste, take-append_seam, drop-append_seam, drop-cons}
use Rattle.words.specs.Word.{Word, nf}
use Rattle.words.specs.Bytes.{bytes}
use Rattle.slices.specs.Slices.{overwritten}
use Rattle.words.proofs.Answering.{take_overwritten}
use Rattle.words.proofs.Bytes.{length_bytes}
use Rattle.slices.proofs.Slices.{front_stored}
use Rattle.lists.specs.NormalList.{total, normal_bytes, normal_ends}
use Rattle.lists.specs.Reducing.{InFront}
use Rattle.lists.proofs.NormalList.{normal_ends_length, total_append, normal_bytes_append, normal_ends_append}

-- ---- the normal forms of the first i generators are written, those of `rest` are still to come

pub record Forming (gens : List Word) (old_ends : List ℕ) (rest : List Word) (sum i : ℕ) (out out_ends : List ℕ) : Type 0 where
  pub behind : drop i gens ≡ rest
  pub sums : sum ≡ total (take i gens)
  pub letters : take sum out ≡ normal_bytes (take i gens)
  pub ends_is : out_ends ≡ overwritten (normal_ends 0 (take i gens)) old_ends

pub forming_begins : (gens : List Word) (out ends : List ℕ) → Forming gens ends gens 0 0 out ends
forming_begins gens out ends = record { behind = refl; sums = refl; letters = refl; ends_is = refl }

-- the forms of `done` are written, those of the words behind them are not
pub forming_behind : (done rest : List Word) (old_ends : List ℕ) {sum : ℕ} {out out_ends : List ℕ} → sum ≡ total done → take sum out ≡ normal_bytes done
    → out_ends ≡ overwritten (normal_ends 0 done) old_ends → Forming (done ++ rest) old_ends rest sum (length done) out out_ends
forming_behind done rest old_ends sums letters ends =
    let front = sym (take-append_seam done rest) in
    record {
      behind = drop-append_seam done rest;
      sums = sums ∙ ap total front;
      letters = letters ∙ ap normal_bytes front;
      ends_is = ends ∙ ap (λ (l : List Word). overwritten (normal_ends 0 l) old_ends) front;
    }

module _ (gens : List Word) (old_ends : List ℕ) (all : List Word) (sum i : ℕ) (out out_ends : List ℕ) (f : Forming gens old_ends all sum i out out_ends)
    (g : Word) (rest : List Word) (splits : all ≡ g ∷ rest) (within : i < length gens) where
  -- generator i is g, and `rest` stands behind it
  split : get_or gens i [] ∷ drop (i + 1) gens ≡ g ∷ rest
  split = rw (add-one i) (sym (drop-cons gens i [] within) ∙ f.behind ∙ splits)

  front : take (i + 1) gens ≡ take i gens ++ g ∷ []
  front = rw (add-one i) (take-suc gens i [] within ∙ ap (λ (h : Word). take i gens ++ h ∷ []) (ap (λ (l : List Word). get_or l 0 []) split))

  pub forming_more : (len : ℕ) {out' : List ℕ} → len ≡ length (nf g) → out' ≡ paste out sum (bytes (nf g)) len → sum ≤ length out → i < length old_ends
      → Forming gens old_ends rest (sum + len) (i + 1) out' (set out_ends i (sum + len))
  forming_more len l writes room room_ends =
      let done = take i gens in
      let ends_length : length (normal_ends 0 done) ≡ i = normal_ends_length 0 done ∙ length-take-le i gens (omega arith) in
      let spelled : len ≡ length (bytes (nf g)) = l ∙ sym (length_bytes (nf g)) in
      let end : 0 + total done + length (nf g) ≡ sum + len = omega (arith, f.sums) in
      record {
        behind = ap (drop 1) split;
        sums = omega (arith, f.sums, ap total front, total_append done (g ∷ []));
        letters =
            ap (take (sum + len)) writes ∙ take-paste out sum (bytes (nf g)) len room (omega (arith, spelled))
            ∙ ap₂ (λ (x y : List ℕ). x ++ y) f.letters (take_all len (bytes (nf g)) (omega (arith, spelled)))
            ∙ sym (ap normal_bytes front ∙ normal_bytes_append done (g ∷ []) ∙ ap (λ (l : List ℕ). normal_bytes done ++ l) (append-nil (bytes (nf g))));
        ends_is =
            ap (λ (o : List ℕ). set o i (sum + len)) f.ends_is ∙ front_stored (normal_ends 0 done) old_ends i ends_length (sum + len) room_ends
            ∙ ap (λ (k : ℕ). overwritten (normal_ends 0 done ++ k ∷ []) old_ends) (sym end)
            ∙ ap (λ (e : List ℕ). overwritten e old_ends) (sym (ap (normal_ends 0) front ∙ normal_ends_append 0 done (g ∷ [])));
      }

-- the ends of all the generators stand at the front
pub all_ends : (old : List ℕ) {slice : List ℕ} (some all : List Word) (n : ℕ) → slice ≡ overwritten (normal_ends 0 some) old → some ≡ all
    → n ≡ length (normal_ends 0 all) → take n slice ≡ normal_ends 0 all
all_ends old some all n e whole l =
    ap (take n) (e ∙ ap (λ (gens : List Word). overwritten (normal_ends 0 gens) old) whole) ∙ take_overwritten (normal_ends 0 all) old n l

-- and so do their forms
pub forming_all : (gens : List Word) (old_ends : List ℕ) {rest : List Word} (sum i : ℕ) {out out_ends : List ℕ} → Forming gens old_ends rest sum i out out_ends → length gens ≤ i → InFront gens sum out out_ends
forming_all gens old_ends sum i f h =
    let all = take_all i gens h in
    record {
      sums = f.sums ∙ ap total all;
      letters = f.letters ∙ ap normal_bytes all;
      ends = all_ends old_ends (take i gens) gens (length gens) f.ends_is all (sym (normal_ends_length 0 gens));
    }
