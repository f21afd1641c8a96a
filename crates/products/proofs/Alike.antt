-- Verdicts on two families and two targets are alike where the series of the one are those of the other under other numbers, in the same order.
-- Assumes nothing.
use mathlib.Core.Path.{◌≡◌, sym, ◌∙◌}
use mathlib.Core.List.{List}
use Prim.Native.Nat.{ℕ}
use native.Mathlib.Omega.{arith}
use lib.ListN.{length}
use Rattle.words.specs.Word.{Word}
use Rattle.products.specs.Product.{Family, Each, Reaches, Counted, Rival, NoneRight, MemberRight, YesRight, NoRight, Before}
use Rattle.products.proofs.Unbounded.{yes_not_no}

-- `there` and `back` take a series of the one to a series of the other: as long, a product of the other's target where it is one of its own, and no other
-- series before what it came from than came from one before it.
pub record Alike (F G : Family) (t u : Word) (there back : List ℕ → List ℕ) : Type 0 where
  pub series_there : (r : List ℕ) → Each F.Number r → Each G.Number (there r)
  pub series_back : (s : List ℕ) → Each G.Number s → Each F.Number (back s)
  pub reaches_there : (r : List ℕ) → Each F.Number r → Reaches F r t → Reaches G (there r) u
  pub reaches_back : (s : List ℕ) → Each G.Number s → Reaches G s u → Reaches F (back s) t
  pub length_there : (r : List ℕ) → length (there r) ≡ length r
  pub length_back : (s : List ℕ) → length (back s) ≡ length s
  pub before_back : (s r : List ℕ) → Each G.Number s → Each F.Number r → Before s (there r) → Before (back s) r

module _ {F G : Family} {t u : Word} {there back : List ℕ → List ℕ} (alike : Alike F G t u there back) where
  -- a series that is as long counts as well
  counted_there : (r : List ℕ) → Counted r → Counted (there r)
  counted_there r c = omega (arith, alike.length_there r)

  counted_back : (s : List ℕ) → Counted s → Counted (back s)
  counted_back s c = omega (arith, alike.length_back s)

  rival_there : {n : ℕ} {r : List ℕ} → Rival F n r → Rival G n (there r)
  rival_there {n} {r} k =
      let within = k.within in
      record {
        series = alike.series_there r k.series;
        counted = counted_there r k.counted;
        within = omega (arith, alike.length_there r);
      }

  rival_back : {n : ℕ} {s : List ℕ} → Rival G n s → Rival F n (back s)
  rival_back {n} {s} k =
      let within = k.within in
      record {
        series = alike.series_back s k.series;
        counted = counted_back s k.counted;
        within = omega (arith, alike.length_back s);
      }

  pub none_alike : (n : ℕ) → NoneRight F t n → NoneRight G u n
  none_alike n right s k e = right (back s) (rival_back k) (alike.reaches_back s k.series e)

  pub member_alike : (n : ℕ) (factors : List ℕ) (count : ℕ) → MemberRight F t n factors count → MemberRight G u n (there factors) count
  member_alike n factors count right =
      record {
        rival = rival_there right.rival;
        reaches = alike.reaches_there factors right.rival.series right.reaches;
        counts = right.counts ∙ sym (alike.length_there factors);
        least = λ s k e.
            omega (arith, right.least (back s) (rival_back k) (alike.reaches_back s k.series e), alike.length_there factors, alike.length_back s);
        first = λ s k e m b.
            right.first (back s) (rival_back k) (alike.reaches_back s k.series e) (alike.length_back s ∙ m ∙ alike.length_there factors)
            (alike.before_back s factors k.series right.rival.series b);
      }

  pub yes_alike : YesRight F t → YesRight G u
  yes_alike (r, s, c, e) = (there r, alike.series_there r s, counted_there r c, alike.reaches_there r s e)

  pub no_alike : NoRight F t → NoRight G u
  no_alike right r s c e = yes_not_no F t (back r, alike.series_back r s, counted_back r c, alike.reaches_back r s e) right
