-- A word as a series of parts. Document 01: "An R part is followed by an S part or nothing, an S part by an R part or nothing; an R part is
-- one R and an S part is S or SS." Assumes nothing: these are definitions. That just the normal words are such series is `parts_normal` of
-- `proofs/Parts.antt`.
use Rattle.std.specs.Prelude.{◌⊎◌, [], ◌∷◌}
use Rattle.words.specs.Word.{R, S, Word}

mutual
  -- an R part and what follows it, or nothing
  pub data FromRPart : Word → Type 0 where
    no_r_part : FromRPart []
    r_part : {w : Word} → FromSPart w → FromRPart (R ∷ w)

  -- an S part and what follows it, or nothing
  pub data FromSPart : Word → Type 0 where
    no_s_part : FromSPart []
    s_part : {w : Word} → FromRPart w → FromSPart (S ∷ w)
    ss_part : {w : Word} → FromRPart w → FromSPart (S ∷ S ∷ w)

-- nothing, or parts of which the first is of either kind
abbrev pub Parts : Word → Type 0
Parts w = FromRPart w ⊎ FromSPart w
