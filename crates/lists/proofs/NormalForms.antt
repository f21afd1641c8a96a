-- What reducing or inverting a part of a list's letters gives, behind what a slice holds already. Assumes nothing.
use Rattle.std.specs.Prelude.{Result, Ok, IsOk}
use Rattle.refusals.specs.Questions.{passed, of_word}
use mathlib.Core.Path.{◌≡◌, refl, sym, ap, ap₂, subst, ◌∙◌}
use mathlib.Core.List.{List, ◌++◌, append_assoc, append-nil}
use Prim.Native.Nat.{ℕ, ◌+◌, ◌-◌, ◌*◌, ◌≤◌}
use native.Mathlib.Omega.{arith}
use lib.ListN.{length, take, drop, length-drop, drop_of_length-le}
use lib.Seq.{slice, paste, length-slice, length-take-le, take_all, drop-drop}
use borrow.Rule.Slice.PartMut.{put_mid}
use Rattle.limits.specs.Limits.{most_letters}
use Rattle.words.specs.Word.{Word}
use Rattle.words.specs.Bytes.{word, bytes}
use Rattle.slices.specs.Slices.{overwritten}
use Rattle.words.specs.Calls.{Writes}
use Rattle.words.specs.declared.Letters.{Letters}
use Rattle.refusals.specs.declared.Refusal.{Refusal}
use Rattle.words.proofs.Answering.{of_word_passes, answers_length, writes_front}
use Rattle.words.proofs.Bytes.{length_bytes}
use Rattle.lists.specs.Reducing.{AllLetters}
use Rattle.lists.proofs.FirstOthers.{all_letters_slice, part_slice}

-- the length that an answer holds
length_of : {m : ℕ} {l : Letters} → Path (Result Letters Refusal) (Ok l) (Ok (record { 0 = m })) → l.0 ≡ m
length_of {m} {l} f =
    let same : l ≡ record { 0 = m } = cc in
    ap (λ (k : Letters). k.0) same

-- a front that is rewritten behind the first `at` entries of a slice is a copy into the slice
module _ (old new : List ℕ) (at n : ℕ) (within : at ≤ length old) (l : n ≡ length new) where
  front_behind : put_mid at (length old - at) old (overwritten new (take (length old - at) (drop at old))) ≡ paste old at new n
  front_behind =
      let rest : length (drop at old) ≤ length old - at = omega (arith, length-drop at old) in
      ap (λ (k : List ℕ). take at old ++ k)
      (ap₂ (λ (part none : List ℕ). overwritten new part ++ none) (take_all (length old - at) (drop at old) rest) (drop_of_length-le (drop at old) rest)
      ∙ append-nil (overwritten new (drop at old))
      ∙ ap₂ (λ (front back : List ℕ). front ++ back) (sym (take_all n new (omega arith))) (drop-drop (length new) at old ∙ ap (λ (k : ℕ). drop (at + k) old) (sym l)))
      ∙ sym (append_assoc (take at old) (take n new) (drop (at + n) old))

-- f of the generator that runs from `from` up to `end` is written behind the first `at` entries, which leave the room that is asked for
module _ (f : Word → Word) (k : ℕ) (list : List ℕ) (from end : ℕ) (out : List ℕ) (at : ℕ) (r : Result Letters Refusal) (after : List ℕ)
    (rises : from ≤ end) (within : end ≤ length list) (letters : AllLetters list) (short : length list ≤ most_letters) (room : at + k * (end - from) ≤ length out)
    (writes : Writes f k (take (end - from) (drop from list)) (take (length out - at) (drop at out)) r after) where
  w : List ℕ
  w = slice from end list

  behind : List ℕ
  behind = take (length out - at) (drop at out)

  passes : of_word w (k * length w) (length behind) ≡ passed
  unfolding w behind
  passes =
      let len = length-slice from end list within in
      let needed = ap (λ (n : ℕ). k * n) len in
      let left = length-take-le (length out - at) (drop at out) (omega (arith, length-drop at out)) in
      of_word_passes w (k * length w) (length behind) (omega arith) (all_letters_slice list from end letters) (omega arith)

  slice_writes : Writes f k w behind r after
  unfolding w behind
  slice_writes = subst (λ (l : List ℕ). Writes f k l behind r after) (part_slice list from end rises) writes

  told : r ≡ Ok (record { 0 = length (f (word (slice from end list))) })
  unfolding w
  told = answers_length f k w behind r after slice_writes passes

  pub form_written : {l : Letters} → r ≡ Ok l
      → (l.0 ≡ length (f (word (slice from end list)))) × (put_mid at (length out - at) out after ≡ paste out at (bytes (f (word (slice from end list)))) l.0)
  unfolding w behind
  form_written {l} e =
      let form = f (word (slice from end list)) in
      let len : l.0 ≡ length form = length_of (sym e ∙ told) in (
        len,
        ap (put_mid at (length out - at) out) (writes_front f k w behind r after slice_writes passes)
            ∙ front_behind out (bytes form) at l.0 (omega arith) (len ∙ sym (length_bytes form)),
      )

  pub answered : IsOk r
  answered = rw told refl
