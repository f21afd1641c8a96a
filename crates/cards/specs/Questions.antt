-- The questions at the door that concern a card's bytes. Document 01, "The questions at the door". Assumes nothing: these are definitions.
use Rattle.std.specs.Prelude.{Err, true, false, List, [], ◌∷◌, ℕ, leb, length}
use Rattle.limits.specs.Limits.{most_card_bytes}
use Rattle.refusals.specs.Telling.{pick}
use Rattle.refusals.specs.Questions.{Asked, asks, first_no}
use Rattle.refusals.specs.declared.Refusal.TheVariants.{CardTooLong, BitMapWrong}
use Rattle.cards.specs.Card.{bit}

-- 1: "Has the card at most 8,326 bytes?"
abbrev pub question1 : ℕ → Asked
question1 count = asks (leb count most_card_bytes) CardTooLong

-- 2: "Is there a first byte, with bits 4 to 7 clear and not both bits 1 and 2?"
abbrev pub question2 : List ℕ → Asked
question2 [] = Err BitMapWrong
question2 (map ∷ bs) = first_no (asks (leb map 15) BitMapWrong ∷ asks (pick (bit 2 map) (pick (bit 4 map) false true) true) BitMapWrong ∷ [])

-- what is asked before the fields are read
abbrev pub of_map : List ℕ → Asked
of_map card = first_no (question1 (length card) ∷ question2 card ∷ [])
