-- The loop that writes a list's generators one behind the other: those that are done stand in the fronts of the two slices, those that are left in
-- the rest of the bytes.
-- Assumes nothing.
use mathlib.Core.Path.{◌≡◌, refl, sym, ap, ◌∙◌}
use mathlib.Core.List.{List, [], ◌∷◌, ◌++◌, append_assoc, append-nil}
use Prim.Native.Nat.{ℕ, suc, ◌+◌, ◌-◌, ◌≤◌, ◌<◌}
use native.Mathlib.Omega.{arith}
use lib.ListN.{length, take, drop, set, length-append}
use lib.Seq.{paste, take-length, drop-drop}
use Rattle.slices.specs.Slices.{overwritten}
use Rattle.slices.proofs.Slices.{front_pasted, front_stored}
use Rattle.fields.specs.Field.{Whole, letters_field}
use Rattle.cards.specs.Card.{generator_fields, list_bytes, list_ends}
use Rattle.cards.specs.Reading.{Listed}
use Rattle.cards.specs.Flattening.{WritesList}
use Rattle.cards.proofs.GeneratorFields.{First, first_generator, no_generators}
use Rattle.cards.proofs.ListBytes.{list_bytes_append, list_ends_append, list_ends_length}

-- a generator that is copied behind the letters before it
pub copied : (letters g : List ℕ) (sum k : ℕ) → k ≡ length g → take sum letters ++ (g ++ drop k (drop sum letters)) ≡ paste letters sum g (length g)
copied letters g sum k e =
    rw (e, take-length g, drop-drop (length g) sum letters) (sym (append_assoc (take sum letters) g (drop (sum + length g) letters)))

-- After i generators of `count`, `sum` letters are written, and the others stand in `rest`.
pub record Pushing (count : ℕ) (list : List (List ℕ)) (old old_ends letters ends rest : List ℕ) (sum i : ℕ) : Type 0 where
  pub done : List (List ℕ)
  pub left : List (List ℕ)
  pub splits : list ≡ done ++ left
  pub stand : generator_fields (count - i) rest ≡ Whole left []
  pub many : length done ≡ i
  pub long : length (list_bytes done) ≡ sum
  pub letters_are : letters ≡ overwritten (list_bytes done) old
  pub ends_are : ends ≡ overwritten (list_ends 0 done) old_ends

pub pushing_begins : (bytes : List ℕ) (count : ℕ) (list : List (List ℕ)) (old old_ends : List ℕ) → Listed bytes count list
    → Pushing count list old old_ends old old_ends bytes 0 0
pushing_begins bytes count list old old_ends listed =
    let all : count - 0 ≡ count = omega arith in
    record {
      done = [];
      left = list;
      splits = refl;
      stand = ap (λ (n : ℕ). generator_fields n bytes) all ∙ listed;
      many = refl;
      long = refl;
      letters_are = refl;
      ends_are = refl;
    }

module _ {count : ℕ} {list : List (List ℕ)} {old old_ends letters ends rest : List ℕ} {sum i : ℕ} (p : Pushing count list old old_ends letters ends rest sum i) where
  module _ (more : i < count) where
    pub first : First rest (count - (i + 1)) p.left []
    first =
        let one_less : suc (count - (i + 1)) ≡ count - i = omega arith in
        first_generator rest (count - (i + 1)) (ap (λ (n : ℕ). generator_fields n rest) one_less ∙ p.stand)

    -- the generator that is read next, and what stands behind it
    module _ {g behind : List ℕ} (there : letters_field rest ≡ Whole g behind) where
      same : g ≡ first.generator
      same = let e : Whole g behind ≡ Whole first.generator first.behind = sym there ∙ first.there in cc

      pub pushing_within : sum + length g ≤ length (list_bytes list)
      pushing_within =
          omega (
            arith,
            p.long,
            ap length same,
            length-append (list_bytes p.done) (list_bytes p.left),
            length-append first.generator (list_bytes first.others),
            ap (λ (l : List (List ℕ)). length (list_bytes l)) p.splits,
            ap length (list_bytes_append p.done p.left),
            ap (λ (l : List (List ℕ)). length (list_bytes l)) first.splits,
          )

      pub pushing_more : {letters' ends' : List ℕ} → letters' ≡ paste letters sum g (length g) → ends' ≡ set ends i (sum + length g) → i < length old_ends
          → Pushing count list old old_ends letters' ends' behind (sum + length g) (i + 1)
      pushing_more pasted stored room =
          let done = p.done ++ g ∷ [] in
          let bytes : list_bytes done ≡ list_bytes p.done ++ g = list_bytes_append p.done (g ∷ []) ∙ ap (λ (l : List ℕ). list_bytes p.done ++ l) (append-nil g) in
          let end : 0 + length (list_bytes p.done) + length g ≡ sum + length g = omega (arith, p.long) in
          let its_ends : list_ends 0 done ≡ list_ends 0 p.done ++ (sum + length g) ∷ [] =
          list_ends_append 0 p.done (g ∷ []) ∙ ap (λ (n : ℕ). list_ends 0 p.done ++ n ∷ []) end in
          let many : length (list_ends 0 p.done) ≡ i = list_ends_length 0 p.done ∙ p.many in
          let after : behind ≡ first.behind = (let e : Whole g behind ≡ Whole first.generator first.behind = sym there ∙ first.there in cc) in
          record {
            done = done;
            left = first.others;
            splits = p.splits ∙ ap (λ (l : List (List ℕ)). p.done ++ l) first.splits ∙ ap (λ (l : List ℕ). p.done ++ (l ∷ first.others)) (sym same)
                ∙ sym (append_assoc p.done (g ∷ []) first.others);
            stand = ap (generator_fields (count - (i + 1))) after ∙ first.follow;
            many = omega (arith, length-append p.done (g ∷ []), p.many);
            long = omega (arith, ap length bytes, length-append (list_bytes p.done) g, p.long);
            letters_are =
                pasted ∙ ap (λ (l : List ℕ). paste l sum g (length g)) p.letters_are
                ∙ front_pasted (list_bytes p.done) old sum p.long g (length g) refl ∙ ap (λ (l : List ℕ). overwritten l old) (sym bytes);
            ends_are =
                stored ∙ ap (λ (l : List ℕ). set l i (sum + length g)) p.ends_are
                ∙ front_stored (list_ends 0 p.done) old_ends i many (sum + length g) room ∙ ap (λ (l : List ℕ). overwritten l old_ends) (sym its_ends);
          }

  pub pushing_over : i ≡ count → WritesList list old letters old_ends ends
  pushing_over over =
      let none_left : count - i ≡ 0 = omega arith in
      let none : p.left ≡ [] = no_generators rest (sym (ap (λ (n : ℕ). generator_fields n rest) none_left) ∙ p.stand) in
      let all : p.done ≡ list = sym (append-nil p.done) ∙ ap (λ (l : List (List ℕ)). p.done ++ l) (sym none) ∙ sym p.splits in
      record {
        letters = p.letters_are ∙ ap (λ (l : List (List ℕ)). overwritten (list_bytes l) old) all;
        ends = p.ends_are ∙ ap (λ (l : List (List ℕ)). overwritten (list_ends 0 l) old_ends) all;
      }
