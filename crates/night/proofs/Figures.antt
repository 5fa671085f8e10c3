-- The figures hold: each is computed.
use mathlib.Core.Path.{refl}
use Rattle.answer.specs.Refusal.{first_that_applies}
use Rattle.night.specs.Bytes.{with_reading, relays_in}
use Rattle.night.specs.Clock.{skipped}
use Rattle.night.specs.Figures.{FiguresHold}
use Rattle.night.specs.Refusal.{clock_number}

pub figures-hold : FiguresHold
unfolding skipped clock_number first_that_applies with_reading relays_in
figures-hold =
    record {
      spring = refl;
      midnight = refl;
      over-midnight = refl;
      back = refl;
      first = refl;
      again = refl;
      autumn = refl;
      marked-forward = refl;
      small-first = refl;
      now-late = refl;
      kept-late = refl;
      last-minute = refl;
      nothing-kept = refl;
      put = refl;
      taken = refl;
    }
