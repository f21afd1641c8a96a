-- Reduction and inversion keep their promise: one argument, with the word that is wanted as a parameter. Assumes nothing.
use mathlib.Core.Path.{◌≡◌, sym, ap, subst, ◌∙◌}
use mathlib.Core.List.{List, []}
use Prim.Native.Nat.{ℕ, ◌+◌, ◌*◌}
use native.Mathlib.Omega.{arith}
use lib.ListN.{length, take, length-reverse}
use Rattle.words.specs.Word.{Word, arrived, nf}
use Rattle.words.specs.Bytes.{word, bytes}
use Rattle.std.specs.Prelude.{Ok, Err}
use Rattle.refusals.specs.Questions.{Asked, passed, of_word}
use Rattle.slices.specs.Slices.{overwritten}
use Rattle.words.specs.Calls.{written, length_or, Writes, Reduces}
use Rattle.words.specs.Account.{rs, Accounts}
use Rattle.words.specs.Arrival.{Held}
use Rattle.words.specs.declared.Letters.{Letters}
use Rattle.refusals.specs.declared.Refusal.{Refusal}
use Rattle.words.specs.declared.Ending.{Ending}
use Rattle.words.specs.declared.Account.{Account}
use Rattle.words.proofs.Accounting.{rs_reverse}
use Rattle.words.proofs.Stack.{held_length}

-- a stack at which all of x has arrived spells the normal form of x
module _ (s : List ℕ) (len : ℕ) (ending : Ending) (x : Word) (h : Held s len ending (arrived [] x)) where
  held_spells : take len s ≡ bytes (nf x)
  unfolding nf
  held_spells = h.spelled

  held_nf_length : len ≡ length (nf x)
  unfolding nf
  held_nf_length = held_length s len ending (arrived [] x) h ∙ sym (length-reverse (arrived [] x))

  -- and where it is copied out, the normal form is told and written
  pub held_writes : (n : ℕ) (before after : List ℕ) → (n ≡ len) × (after ≡ overwritten (take len s) before) → (n ≡ length (nf x)) × (after ≡ overwritten (bytes (nf x)) before)
  held_writes n before after out = (out.0 ∙ held_nf_length, out.1 ∙ ap (λ (l : List ℕ). overwritten l before) held_spells)

  -- the letters and the R's that came are those of the normal form, and those that went
  pub held_accounts : (pairs triples : ℕ) → len + 2 * pairs + 3 * triples ≡ length x → rs (arrived [] x) + 2 * pairs ≡ rs x → Accounts x (nf x) pairs triples
  unfolding nf
  held_accounts pairs triples letters gone =
      record { letters = omega (arith, held_nf_length); rs_gone = omega (arith, rs_reverse (arrived [] x)) }

module _ (f : Word → Word) (k : ℕ) (w before : List ℕ) (needed : ℕ) (asked : Asked) (room : needed ≡ k * length w) (questions : asked ≡ of_word w needed (length before)) where
  same_questions : asked ≡ of_word w (k * length w) (length before)
  same_questions = questions ∙ ap (λ (n : ℕ). of_word w n (length before)) room

  pub writes_nothing : {refusal : Refusal} → asked ≡ Err refusal → Writes f k w before (Err refusal) before
  writes_nothing e =
      let q = sym e ∙ same_questions in
      record {
        answer = ap (λ (a : Asked). length_or a (length (f (word w)))) q;
        slice = ap (λ (a : Asked). written a (bytes (f (word w))) before) q;
      }

  pub writes_word : asked ≡ passed → (len : Letters) (after : List ℕ) → (len.0 ≡ length (f (word w))) × (after ≡ overwritten (bytes (f (word w))) before) → Writes f k w before (Ok len) after
  writes_word e len after out =
      let q = sym e ∙ same_questions in
      record {
        answer = ap (λ (n : ℕ). Ok (record { 0 = n })) out.0 ∙ ap (λ (a : Asked). length_or a (length (f (word w)))) q;
        slice = out.1 ∙ ap (λ (a : Asked). written a (bytes (f (word w))) before) q;
      }

-- the same of reduction, which tells how many pairs and triples went as well
module _ (w before : List ℕ) (needed : ℕ) (asked : Asked) (room : needed ≡ 1 * length w) (questions : asked ≡ of_word w needed (length before)) where
  pub reduces_nothing : {refusal : Refusal} → asked ≡ Err refusal → Reduces w before (Err refusal) before
  reduces_nothing e =
      record {
        writes = writes_nothing nf 1 w before needed asked room questions e;
        accounts = λ account done. let z : ◌≡◌ {A = ℕ} 0 1 = cc in absurd (omega arith);
      }

  pub reduces_word : asked ≡ passed → (r : Account) (after : List ℕ) → (r.kept.0 ≡ length (nf (word w))) × (Accounts (word w) (nf (word w)) r.pairs r.triples × (after ≡ overwritten (bytes (nf (word w))) before)) → Reduces w before (Ok r) after
  reduces_word e r after out =
      record {
        writes = writes_word nf 1 w before needed asked room questions e r.kept after (out.0, out.1.1);
        accounts = λ account done.
            let same : r ≡ account = cc in
            subst (λ (a : Account). Accounts (word w) (nf (word w)) a.pairs a.triples) same out.1.0;
      }
