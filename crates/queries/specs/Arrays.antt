-- The arrays of a call's own as what is lent to be made ready. Assumes nothing: these are definitions.
use Rattle.std.specs.Prelude.{ℕ, replicate}
use Rattle.limits.specs.Limits.{most_letters}
use Rattle.queries.specs.Posing.{Lent}
use Rattle.queries.specs.declared.room.Room.{Room}

abbrev pub lent_in : {states generators : ℕ} → Room states generators → Lent
lent_in room =
    record {
      form = room.form;
      tree = record {
        letters = room.letters;
        rests = room.rests;
        children_r = room.children_r;
        children_s = room.children_s;
        wholes = room.wholes;
      };
    }

-- before they are written
abbrev pub zeros : ℕ → ℕ → Lent
zeros states generators =
    record {
      form = replicate most_letters 0;
      tree = record {
        letters = replicate states 0;
        rests = replicate states 0;
        children_r = replicate states 0;
        children_s = replicate states 0;
        wholes = replicate generators 0;
      };
    }
