-- The claims of specs/: each row is computed.
use mathlib.Core.Path.{refl}
use Rattle.answer.specs.Claims.{FirstIsGiven, RowsHold, Bounds}
use Rattle.answer.specs.Refusal.{first_that_applies, sizes_number}

pub first-is-given : FirstIsGiven
unfolding FirstIsGiven first_that_applies
first-is-given = refl

pub rows-hold : RowsHold
unfolding RowsHold sizes_number first_that_applies
rows-hold = (refl, (refl, (refl, (refl, (refl, (refl, (refl, (refl, (refl, (refl, (refl, (refl, (refl, (refl, (refl, (refl, tt))))))))))))))))

pub bounds : Bounds
bounds = record {
  no_word = refl;
  one_word = refl;
  most-words = refl;
  more-words = refl;
  no-thread = refl;
  one-thread = refl;
  all-threads = refl;
  more-threads = refl;
}
